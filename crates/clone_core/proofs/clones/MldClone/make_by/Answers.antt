use Rattle.std.proofs.Common.{◌∙◌, ◌+◌, [], ap, inl, refl, sym, subst}
use Rattle.std.proofs.lemmas.Result.{err_from_is_err_and, IfOk-weaker, IfErr-weaker}
use Rattle.tree_clock.specs.declared.dots.Dot.{Dot}
use Rattle.tree_clock.specs.Clock.{ticks_of, Covers}
use Rattle.clone_parts.specs.Making.{IsEntryOf}
use Rattle.clone_parts.proofs.MakingLaws.{next_entry}
use Rattle.clone_core.specs.CloneUpdates.{IsMakeable, LocallyUpdates}
use Rattle.clone_core.specs.CloneClosing.{update_stop}
use Rattle.clone_core.specs.CallParts.{MakesDone, StopsClone}
use Rattle.clone_core.proofs.DurableLaws.{changes_none, makes_update}
use Rattle.clone_core.proofs.StopLaws.{stops_due}
use Rattle.clone_core.proofs.OwnUpdates.{updates_as}
use Rattle.clone_core.proofs.clones.MldClone.make_by.Goals as goal

pub entry_of_effect-requires-clause-tick : goal.entry_of_effect-requires-clause-tick
entry_of_effect-requires-clause-tick g c =
    ap (λ (d : Dot). d.tick) c.requires.dot
    ∙ (λ i. ticks_of (sym c.known.ensures.ticks i) (sym (ap (λ (d : Dot). d.path) c.requires.dot) i) + 1)

pub entry_of_effect-requires-clause-deletes : goal.entry_of_effect-requires-clause-deletes
entry_of_effect-requires-clause-deletes g c = λ pair h.
    subst (λ ts. Covers ts pair.dot) (sym c.known.ensures.ticks) (c.known.ensures.local.covered pair (c.requires.may.own pair h))

pub make-requires-clause-next : goal.make-requires-clause-next
make-requires-clause-next g c =
    next_entry c.args.self.now.local.ticks c.args.dot.now c.args.effect.now c.in_ok-entry.entry
    (subst (λ ts. IsEntryOf ts c.args.dot.now c.args.effect.now c.in_ok-entry.entry) c.known.ensures.ticks c.in_ok-entry.ensures)

pub returns-in_err-entry-clause-durable : goal.returns-in_err-entry-clause-durable
returns-in_err-entry-clause-durable g c =
    let p = err_from_is_err_and c.from_residual.result c.from_residual.ensures.1 in
    rw (p.1, p.2) ([], inl refl, changes_none g.B.Banks.log g.B.Banks.meter c.args.self.now c.args.self.now.banks refl (λ f. absurd cc))

pub returns-clause-durable : goal.returns-clause-durable
returns-clause-durable g c =
    let entry = c.in_ok-entry.entry in
    let effect = c.args.effect.now in
    let is = subst (λ ts. IsEntryOf ts c.args.dot.now effect entry) c.known.ensures.ticks c.in_ok-entry.ensures in
    let own = subst (λ d. IsEntryOf c.args.self.now.local.ticks d effect entry) c.requires.dot is in
    makes_update g.B.Banks.log g.B.Banks.meter c.args.self.now c.make.new.self effect entry own c.make.result c.make.ensures.ok c.make.ensures.durable

pub returns-clause-ok : goal.returns-clause-ok
returns-clause-ok g c =
    let old = c.args.self.now.local in
    let effect = c.args.effect.now in
    let entry = c.in_ok-entry.entry in
    let is = subst (λ ts. IsEntryOf ts c.args.dot.now effect entry) c.known.ensures.ticks c.in_ok-entry.ensures in
    IfOk-weaker c.make.result (MakesDone old entry c.make.new.self.local) (λ made. LocallyUpdates old effect made c.make.new.self.local)
    (λ made h. updates_as old effect c.args.dot.now entry c.make.new.self.local made c.requires.dot c.requires.may is h)
    c.make.ensures.ok

pub returns-clause-err : goal.returns-clause-err
returns-clause-err g c =
    let effect = c.args.effect.now in
    IfErr-weaker c.make.result (λ fault. StopsClone g.B.Banks.log g.B.Banks.meter (Unit {0}) ⊥ c.args.self.now c.make.new.self (update_stop fault))
    (λ fault. StopsClone g.B.Banks.log g.B.Banks.meter (IsMakeable c.args.self.now.local effect) ⊥ c.args.self.now c.make.new.self (update_stop fault))
    (λ fault h. stops_due g.B.Banks.log g.B.Banks.meter (IsMakeable c.args.self.now.local effect) c.args.self.now c.make.new.self (update_stop fault) c.requires.may h)
    c.make.ensures.err
