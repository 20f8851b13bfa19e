-- What the entry of an effect does is the operation of the effect.
use Rattle.std.proofs.Common.{◌≡◌, ◌≢◌, ◌∙◌, ◌+◌, ℕ, List, Option, inl, refl, sym, ap, subst}
use Rattle.mld_io.specs.Arm.{Meter}
use Rattle.mld_io.specs.Disk.{Log}
use Rattle.tree_clock.specs.declared.dots.Dot.{Dot}
use Rattle.tree_clock.specs.Clock.{ticks_of}
use Rattle.tree_clock.specs.Limits.{tick_limit}
use Rattle.mld_ops.specs.declared.tagged.Tagged.{Tagged}
use Rattle.mld_ops.specs.Breaches.{BreaksNone, IsFirstBreach}
use Rattle.mld_ops.specs.Effects.{EffectValue, ChangesNothing}
use Rattle.mld_ops.specs.Entry.{EntryValue}
use Rattle.mld_ops.specs.Cut.{IsCutOf}
use Rattle.mld_ops.specs.History.{dot_at}
use Rattle.mld_model.specs.Local.{LocalClone, LocallyMakes, next_dot}
use Rattle.clone_parts.specs.Making.{IsEntryOf}
use Rattle.clone_parts.proofs.MakingLaws.{effect_cut}
use Rattle.jrql_ast.specs.declared.plans.UpdatePlan.{UpdatePlan}
use Rattle.jrql_eval.specs.declared.faults.EvalFault.{EvalFault}
use Rattle.jrql_eval.specs.declared.faults.EvalFault.TheVariants as eval
use Rattle.jrql_eval.specs.PlanEffects.{IsPlanEffect, HasTooMany}
use Rattle.clone_core.specs.Banked.{BankedClone}
use Rattle.clone_core.specs.CloneClosing.{LeavesClone, update_stop}
use Rattle.clone_core.specs.CloneUpdates.{BreaksSingle, DeletesOwn, HasEffect, IsMakeable, LocallyUpdates, LocallyUpdatesBy, RefusesUpdate}
use Rattle.clone_core.specs.CallParts.{MakesEntry, MakesDone, StopsClone}
use Rattle.clone_parts.specs.CloneFaults.{update_fault_of_effect}
use Rattle.clone_parts.specs.declared.answers.Done.{Done}
use Rattle.clone_parts.specs.declared.answers.Done.TheVariants as done
use Rattle.clone_parts.specs.declared.faults.UpdateFault.{UpdateFault}
use Rattle.clone_parts.specs.declared.faults.UpdateFault.TheVariants as update

-- the entry of an effect at the next dot, once it is taken, is the operation
makes_by : (old : LocalClone) (effect : EffectValue) (entry : EntryValue) (new : LocalClone) → IsEntryOf old.ticks (next_dot old) effect entry
    → MakesEntry old entry new → LocallyMakes old effect new entry
makes_by old effect entry new is made =
    let path : old.path ≡ entry.range.path = sym (ap (λ (e : EntryValue). e.range.path) is.carries) in
    record {
      ordered = is.may.ordered;
      same = made.same;
      entries = made.entries;
      held = made.held;
      clock = made.clock;
      ascending = made.pairs.ascending;
      pairs = effect_cut old.ticks (next_dot old) effect entry old.pairs new.pairs is
          (subst (λ (p : List ℕ). IsCutOf entry (ticks_of old.ticks p) old.pairs new.pairs) path made.pairs);
      time = is.time;
      carries = is.carries;
    }

pub updates_as : (old : LocalClone) (effect : EffectValue) (dot : Dot) (entry : EntryValue) (new : LocalClone) (made : Done) → dot ≡ next_dot old
    → IsMakeable old effect → IsEntryOf old.ticks dot effect entry → MakesDone old entry new made → LocallyUpdates old effect made new
updates_as old effect dot entry new done.Nothing at may is h = absurd h
updates_as old effect dot entry new (done.Made copy) at may is h =
    let own = subst (λ (d : Dot). IsEntryOf old.ticks d effect entry) at is in
    (may, subst (λ (e : EntryValue). LocallyMakes old effect new e) (sym h.0) (makes_by old effect entry new own h.1))

-- the effect of a plan deletes what the clone has
pub deletes_own : (clone : LocalClone) (plan : UpdatePlan) (effect : EffectValue) → HasEffect clone plan effect → DeletesOwn clone effect
deletes_own clone plan effect has pair h = ((has.does.deletes.members pair).0 h).0

-- the effect of a plan that was found on the clone's pairs, in its domain and at the tick behind those of its path, is the one on what it has
pub has_effect : (clone : LocalClone) (plan : UpdatePlan) (domain path : List ℕ) (ticks : List (List ℕ × ℕ)) (tick : ℕ) (pairs : List Tagged) (effect : EffectValue)
    → domain ≡ clone.domain → path ≡ clone.path → ticks ≡ clone.ticks → tick ≡ ticks_of ticks path → pairs ≡ clone.pairs
    → IsPlanEffect domain (dot_at path (tick + 1)) pairs plan effect → HasEffect clone plan effect
has_effect clone plan domain path ticks tick pairs effect named along known last from has =
    let own : tick ≡ ticks_of clone.ticks clone.path = last ∙ (λ i. ticks_of (known i) (along i)) in
    let at : dot_at path (tick + 1) ≡ next_dot clone = λ i. dot_at (along i) (own i + 1) in
    subst (λ (d : List ℕ). IsPlanEffect d (next_dot clone) clone.pairs plan effect) named
    (subst (λ (d : Dot). IsPlanEffect domain d clone.pairs plan effect) at
    (subst (λ (ps : List Tagged). IsPlanEffect domain (dot_at path (tick + 1)) ps plan effect) from has))

-- a tick is left where the last one of the path isn't the last of all
pub tick_left : (clone : LocalClone) (path : List ℕ) (ticks : List (List ℕ × ℕ)) (tick : ℕ) → path ≡ clone.path → ticks ≡ clone.ticks → tick ≡ ticks_of ticks path → tick ≢ tick_limit
    → ticks_of clone.ticks clone.path ≢ tick_limit
tick_left clone path ticks tick along known last some is = some (last ∙ (λ i. ticks_of (known i) (along i)) ∙ is)

-- what became of the effect of a plan became of the update
pub updates_plan : (old : LocalClone) (plan : UpdatePlan) (effect : EffectValue) (new : LocalClone) (answer : Done) → HasEffect old plan effect
    → LocallyUpdates old effect answer new → LocallyUpdatesBy old plan answer new
updates_plan old plan effect new answer has updates = record { effect = effect; has = has; updates = updates }

-- what was stopped by the device or by memory was refused for neither too many solutions nor a single value
pub stopped_refuses : {B : Type 0} (log : B → Option Log) (meter : B → Meter) (Due : Type 0) (old new : BankedClone B) (clone : LocalClone) (plan : UpdatePlan) (fault : UpdateFault)
    → StopsClone log meter Due ⊥ old new (update_stop fault) → RefusesUpdate clone plan fault
stopped_refuses log meter Due old new clone plan update.TooMany h = absurd h
stopped_refuses log meter Due old new clone plan (update.Single subject property) h = absurd h
stopped_refuses log meter Due old new clone plan (update.Closed reason) h = tt
stopped_refuses log meter Due old new clone plan update.TicksSpent h = tt
stopped_refuses log meter Due old new clone plan update.Device h = tt
stopped_refuses log meter Due old new clone plan update.NoMemory h = tt

-- ---- a plan whose effect isn't given

module _ (clone : LocalClone) (plan : UpdatePlan) where
  -- it has too many solutions, or memory ran out
  pub effect_refuses : (told : EvalFault) → (told ≡ eval.TooMany → HasTooMany clone.pairs plan) → RefusesUpdate clone plan (update_fault_of_effect told)
  effect_refuses eval.TooMany many = many refl
  effect_refuses eval.NoMemory many = tt

  -- and nothing is to be done on the banks
  pub effect_leaves : {B : Type 0} (log : B → Option Log) (meter : B → Meter) (Due : Type 0) (old : BankedClone B) (told : EvalFault)
      → LeavesClone log meter Due ⊥ old old (update_stop (update_fault_of_effect told))
  effect_leaves log meter Due old eval.TooMany = refl
  effect_leaves log meter Due old eval.NoMemory = inl refl

-- ---- what comes behind an effect that changes something

module _ (clone : LocalClone) (plan : UpdatePlan) (effect : EffectValue) (has : HasEffect clone plan effect) (some : ¬ ChangesNothing effect)
    (properties : List (List ℕ)) (pairs : List Tagged) (kept : properties ≡ clone.properties) (from : pairs ≡ clone.pairs) where
  -- it may be made where it breaks no single value
  pub is_makeable : BreaksNone properties pairs effect → IsMakeable clone effect
  is_makeable none = record {
    some = some;
    own = deletes_own clone plan effect has;
    single = subst (λ (ps : List (List ℕ)). BreaksNone ps clone.pairs effect) kept (subst (λ (ps : List Tagged). BreaksNone properties ps effect) from none);
  }

  -- and it is refused for the first one that it breaks
  pub breaks_single : (place : List ℕ × List ℕ) → IsFirstBreach properties pairs effect place → BreaksSingle clone plan place
  breaks_single place first = record {
    effect = effect;
    has = has;
    some = some;
    first = subst (λ (ps : List (List ℕ)). IsFirstBreach ps clone.pairs effect place) kept
        (subst (λ (ps : List Tagged). IsFirstBreach properties ps effect place) from first);
  }
