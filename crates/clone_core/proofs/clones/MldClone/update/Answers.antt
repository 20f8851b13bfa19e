use Rattle.std.proofs.Common.{◌∙◌, List, ℕ, Err, [], ap, inl, refl, sym, subst}
use Rattle.std.specs.Prelude.{IsTrue}
use Rattle.std.proofs.lemmas.Bool.{false≢true}
use Rattle.std.proofs.lemmas.Result.{err_from_is_err_and, IfOk-weaker, IfErr-weaker}
use Rattle.text_rules.specs.Domain.{is_domain}
use Rattle.mld_ops.specs.declared.tagged.Tagged.{Tagged}
use Rattle.mld_ops.specs.Effects.{ChangesNothing}
use Rattle.jrql_eval.specs.PlanEffects.{HasTooMany}
use Rattle.clone_core.specs.CallParts.{StopsClone}
use Rattle.clone_core.specs.CloneClosing.{LeavesClone, update_stop}
use Rattle.clone_core.specs.CloneUpdates.{IsDueUpdate, IsMakeable, LocallyUpdates, LocallyUpdatesBy, RefusesUpdate}
use Rattle.clone_core.proofs.DurableLaws.{changes_none, effect_steps, planned_steps}
use Rattle.clone_core.proofs.OwnUpdates.{has_effect, tick_left, updates_plan, stopped_refuses, effect_refuses, effect_leaves, is_makeable, breaks_single}
use Rattle.clone_core.proofs.StopLaws.{stops_leave}
use Rattle.clone_core.proofs.clones.MldClone.update.Goals as goal

pub effect-requires-clause-name : goal.effect-requires-clause-name
effect-requires-clause-name g c = subst (λ (d : List ℕ). IsTrue (is_domain d)) (sym c.domain.ensures.domain) c.domain.ensures.name

-- ---- its effect isn't given

pub returns-in_err-effect-clause-refused : goal.returns-in_err-effect-clause-refused
returns-in_err-effect-clause-refused g c =
    let p = err_from_is_err_and c.from_residual.result c.from_residual.ensures.1 in
    rw (p.1, p.2)
    (effect_refuses c.args.self.now.local c.args.plan.now c.in_err-effect.field-0.0
    (λ e. subst (λ (ps : List Tagged). HasTooMany ps c.args.plan.now) c.pairs.ensures.pairs (c.in_err-effect.ensures.too_many (ap Err e))))

pub returns-in_err-effect-clause-left : goal.returns-in_err-effect-clause-left
returns-in_err-effect-clause-left g c =
    let p = err_from_is_err_and c.from_residual.result c.from_residual.ensures.1 in
    rw (p.1, p.2)
    (effect_leaves c.args.self.now.local c.args.plan.now g.B.Banks.log g.B.Banks.meter (IsDueUpdate c.args.self.now.local c.args.plan.now) c.args.self.now c.in_err-effect.field-0.0)

pub returns-in_err-effect-clause-durable : goal.returns-in_err-effect-clause-durable
returns-in_err-effect-clause-durable g c =
    let p = err_from_is_err_and c.from_residual.result c.from_residual.ensures.1 in
    rw (p.1, p.2) (effect_steps g.B.Banks.log g.B.Banks.meter c.args.self.now c.args.plan.now c.in_err-effect.field-0.0)

-- ---- its effect changes nothing

pub returns-then-is_empty-clause-ok : goal.returns-then-is_empty-clause-ok
returns-then-is_empty-clause-ok g c =
    let old = c.args.self.now.local in
    let plan = c.args.plan.now in
    let effect = c.in_ok-effect.effect in
    let has = has_effect old plan c.domain.result.now c.path-path.result c.known.result.now.ticks c.ticks-tick.result c.pairs.result.now.pairs effect
    c.domain.ensures.domain c.path-path.ensures c.known.ensures.ticks c.ticks-tick.ensures.value c.pairs.ensures.pairs c.in_ok-effect.ensures.effect in
    record { effect = effect; has = has; updates = (c.is_empty.ensures.0 c.if-is_empty.true, refl) }

-- ---- it breaks a single value

pub returns-in_err-s-clause-durable : goal.returns-in_err-s-clause-durable
returns-in_err-s-clause-durable g c =
    let p = err_from_is_err_and c.from_residual-in_err-s.result c.from_residual-in_err-s.ensures.1 in
    rw (p.1, p.2) ([], inl refl, changes_none g.B.Banks.log g.B.Banks.meter c.args.self.now c.args.self.now.banks refl (λ f. absurd cc))

pub returns-in-Some-2-clause-refused : goal.returns-in-Some-2-clause-refused
returns-in-Some-2-clause-refused g c =
    let old = c.args.self.now.local in
    let plan = c.args.plan.now in
    let effect = c.in_ok-effect.effect in
    let has = has_effect old plan c.domain.result.now c.path-path.result c.known.result.now.ticks c.ticks-tick.result c.pairs.result.now.pairs effect
    c.domain.ensures.domain c.path-path.ensures c.known.ensures.ticks c.ticks-tick.ensures.value c.pairs.ensures.pairs c.in_ok-effect.ensures.effect in
    let some : ¬ ChangesNothing effect = λ h. false≢true (sym c.if-is_empty.false ∙ c.is_empty.ensures.1 h) in
    breaks_single old plan effect has some c.properties.result.now c.pairs-2.result.now.pairs c.properties.ensures.properties c.pairs-2.ensures.pairs
    (c.in-Some-2.s, c.in-Some-2.p) (rw c.in-Some-2.is at c.in_ok-s.ensures.first)

-- ---- its operation is made

pub make_by-requires-clause-may : goal.make_by-requires-clause-may
make_by-requires-clause-may g c =
    let old = c.args.self.now.local in
    let plan = c.args.plan.now in
    let effect = c.in_ok-effect.effect in
    let has = has_effect old plan c.domain.result.now c.path-path.result c.known.result.now.ticks c.ticks-tick.result c.pairs.result.now.pairs effect
    c.domain.ensures.domain c.path-path.ensures c.known.ensures.ticks c.ticks-tick.ensures.value c.pairs.ensures.pairs c.in_ok-effect.ensures.effect in
    let some : ¬ ChangesNothing effect = λ h. false≢true (sym c.if-is_empty.false ∙ c.is_empty.ensures.1 h) in
    let may = is_makeable old plan effect has some c.properties.result.now c.pairs-2.result.now.pairs c.properties.ensures.properties c.pairs-2.ensures.pairs
    (rw c.in_default-2.is at c.in_ok-s.ensures.none) in
    may

pub returns-clause-ok : goal.returns-clause-ok
returns-clause-ok g c =
    let old = c.args.self.now.local in
    let plan = c.args.plan.now in
    let effect = c.in_ok-effect.effect in
    let has = has_effect old plan c.domain.result.now c.path-path.result c.known.result.now.ticks c.ticks-tick.result c.pairs.result.now.pairs effect
    c.domain.ensures.domain c.path-path.ensures c.known.ensures.ticks c.ticks-tick.ensures.value c.pairs.ensures.pairs c.in_ok-effect.ensures.effect in
    let new = c.make_by.new.self.local in
    IfOk-weaker c.make_by.result (λ made. LocallyUpdates old effect made new) (λ made. LocallyUpdatesBy old plan made new)
    (λ made h. updates_plan old plan effect new made has h) c.make_by.ensures.ok

pub returns-clause-refused : goal.returns-clause-refused
returns-clause-refused g c =
    let old = c.args.self.now in
    let new = c.make_by.new.self in
    let effect = c.in_ok-effect.effect in
    IfErr-weaker c.make_by.result (λ fault. StopsClone g.B.Banks.log g.B.Banks.meter (IsMakeable old.local effect) ⊥ old new (update_stop fault)) (RefusesUpdate old.local c.args.plan.now)
    (λ fault h. stopped_refuses g.B.Banks.log g.B.Banks.meter (IsMakeable old.local effect) old new old.local c.args.plan.now fault h) c.make_by.ensures.err

pub returns-clause-left : goal.returns-clause-left
returns-clause-left g c =
    let old = c.args.self.now.local in
    let plan = c.args.plan.now in
    let effect = c.in_ok-effect.effect in
    let has = has_effect old plan c.domain.result.now c.path-path.result c.known.result.now.ticks c.ticks-tick.result c.pairs.result.now.pairs effect
    c.domain.ensures.domain c.path-path.ensures c.known.ensures.ticks c.ticks-tick.ensures.value c.pairs.ensures.pairs c.in_ok-effect.ensures.effect in
    let left = tick_left old c.path-path.result c.known.result.now.ticks c.ticks-tick.result c.path-path.ensures c.known.ensures.ticks c.ticks-tick.ensures.value c.if-tick.false in
    let clone = c.args.self.now in
    let new = c.make_by.new.self in
    IfErr-weaker c.make_by.result (λ fault. StopsClone g.B.Banks.log g.B.Banks.meter (IsMakeable old effect) ⊥ clone new (update_stop fault))
    (λ fault. LeavesClone g.B.Banks.log g.B.Banks.meter (IsDueUpdate old plan) ⊥ clone new (update_stop fault))
    (λ fault h. stops_leave g.B.Banks.log g.B.Banks.meter (IsMakeable old effect) (IsDueUpdate old plan) clone new (update_stop fault)
    (λ may. record { left = left; effect = effect; has = has; may = may }) h) c.make_by.ensures.err

pub returns-clause-durable : goal.returns-clause-durable
returns-clause-durable g c =
    let old = c.args.self.now.local in
    let plan = c.args.plan.now in
    let effect = c.in_ok-effect.effect in
    let has = has_effect old plan c.domain.result.now c.path-path.result c.known.result.now.ticks c.ticks-tick.result c.pairs.result.now.pairs effect
    c.domain.ensures.domain c.path-path.ensures c.known.ensures.ticks c.ticks-tick.ensures.value c.pairs.ensures.pairs c.in_ok-effect.ensures.effect in
    let some : ¬ ChangesNothing effect = λ h. false≢true (sym c.if-is_empty.false ∙ c.is_empty.ensures.1 h) in
    let may = is_makeable old plan effect has some c.properties.result.now c.pairs-2.result.now.pairs c.properties.ensures.properties c.pairs-2.ensures.pairs
    (rw c.in_default-2.is at c.in_ok-s.ensures.none) in
    let left = tick_left old c.path-path.result c.known.result.now.ticks c.ticks-tick.result c.path-path.ensures c.known.ensures.ticks c.ticks-tick.ensures.value c.if-tick.false in
    let made = c.make_by.ensures.durable in
    (made.0, planned_steps old plan effect left has may c.make_by.result made.0 made.1, made.2)
