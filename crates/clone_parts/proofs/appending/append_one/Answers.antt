-- An entry is appended behind calls that were done, or first: what a crash leaves, and what a refusal does.
use Rattle.std.proofs.Common.{[], ◌∷◌, refl, sym, subst}
use Rattle.journal_store.specs.journal_sides.Pairs.{Keeps}
use Rattle.journal_store.specs.Crashes.{gate_behind}
use Rattle.clone_parts.specs.KeptSteps.{Appended, LeavesSome}
use Rattle.clone_parts.proofs.RefusedLaws.{refused_leaves}
use Rattle.clone_parts.proofs.StepLaws.{some_one}
use Rattle.clone_parts.proofs.appending.append_one.Goals as goal

pub returns-in-Ok-clause-moments : goal.returns-in-Ok-clause-moments
returns-in-Ok-clause-moments g c l kept e k =
    some_one l (g.B.Banks.log c.append_entry_open.new.self.banks) (Keeps kept) (Appended c.args.entry.now) (g.B.Banks.meter c.args.journal.now.banks).arm (g.B.Banks.meter c.append_entry_open.new.self.banks).arm
    (gate_behind c.args.journal.now.side l) refl (c.append_entry_open.ensures.moments l kept e k) c.append_entry_open.ensures.meter.lowered

pub returns-in-Err-clause-moments : goal.returns-in-Err-clause-moments
returns-in-Err-clause-moments g c l kept e k =
    subst (λ (b : g.row.B.Denot). LeavesSome l (g.B.Banks.log b) (Keeps kept) (Appended c.args.entry.now ∷ []) (g.B.Banks.meter c.args.journal.now.banks).arm (g.B.Banks.meter b).arm) (sym c.close_begun.ensures.banks)
    (some_one l (g.B.Banks.log c.append_entry_open.new.self.banks) (Keeps kept) (Appended c.args.entry.now) (g.B.Banks.meter c.args.journal.now.banks).arm (g.B.Banks.meter c.append_entry_open.new.self.banks).arm
    (gate_behind c.args.journal.now.side l) refl (c.append_entry_open.ensures.moments l kept e k) c.append_entry_open.ensures.meter.lowered)

pub returns-in-Err-clause-err : goal.returns-in-Err-clause-err
returns-in-Err-clause-err g c first swaps begun =
    refused_leaves g.B.Banks.log g.B.Banks.meter swaps first c.args.done c.args.journal.now c.append_entry_open.new.self c.close_begun.new.journal begun c.requires.follow.some.opened c.in-Err.why
    c.close_begun.ensures.fresh c.close_begun.ensures.closed c.close_begun.ensures.shut c.in-Err.ensures.err
