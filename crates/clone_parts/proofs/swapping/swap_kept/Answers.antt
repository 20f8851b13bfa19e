-- What is kept is swapped: what may be written, and what a crash leaves.
use Rattle.std.proofs.Common.{refl}
use Rattle.mld_io.specs.Disk.{other_side}
use Rattle.journal_store.specs.journal_sides.Heads.{head_value}
use Rattle.journal_store.specs.journal_sides.Pairs.{Keeps}
use Rattle.journal_store.specs.Crashes.{first_gate}
use Rattle.clone_parts.specs.KeptSteps.{Swapped}
use Rattle.clone_parts.proofs.StepLaws.{some_one}
use Rattle.clone_parts.proofs.SwapLaws.{good_entries}
use Rattle.clone_parts.proofs.swapping.swap_kept.Goals as goal

pub swap_open-requires-clause-entries : goal.swap_open-requires-clause-entries
swap_open-requires-clause-entries g c =
    good_entries c.args.head.now.base.ticks c.args.entries.now c.requires.ready (c.are_short_parts.ensures.entries c.if-not-are_short_parts.false)

pub returns-clause-moments : goal.returns-clause-moments
returns-clause-moments g c l kept e k =
    some_one l (g.B.Banks.log c.swap_open.new.self.banks) (Keeps kept) (Swapped (head_value c.args.head.now) c.args.entries.now) (g.B.Banks.meter c.args.journal.now.banks).arm (g.B.Banks.meter c.swap_open.new.self.banks).arm
    (first_gate (other_side c.args.journal.now.side)) refl (c.swap_open.ensures.moments l kept e k) c.swap_open.ensures.meter.lowered
