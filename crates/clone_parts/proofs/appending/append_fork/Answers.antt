-- A fork is appended: what a crash leaves.
use Rattle.std.proofs.Common.{refl}
use Rattle.journal_store.specs.journal_sides.Pairs.{Keeps}
use Rattle.journal_store.specs.Crashes.{gate_behind}
use Rattle.clone_parts.specs.KeptSteps.{Forked}
use Rattle.clone_parts.proofs.StepLaws.{some_one}
use Rattle.clone_parts.proofs.appending.append_fork.Goals as goal

pub returns-clause-moments : goal.returns-clause-moments
returns-clause-moments g c l kept e k =
    some_one l (g.B.Banks.log c.append_fork_open.new.self.banks) (Keeps kept) Forked (g.B.Banks.meter c.args.journal.now.banks).arm (g.B.Banks.meter c.append_fork_open.new.self.banks).arm
    (gate_behind c.args.journal.now.side l) refl (c.append_fork_open.ensures.moments l kept e k) c.append_fork_open.ensures.meter.lowered
