-- What a clone answers to an update, and what such a one has to do on its banks. `MldClone::update` cites it.
use Rattle.std.specs.Prelude.{◌≡◌, ◌≢◌, ℕ, List}
use Rattle.tree_clock.specs.Clock.{ticks_of}
use Rattle.tree_clock.specs.Limits.{tick_limit}
use Rattle.tree_clock.specs.Lists.{Has}
use Rattle.mld_ops.specs.declared.tagged.Tagged.{Tagged}
use Rattle.mld_ops.specs.Breaches.{IsFirstBreach, BreaksNone}
use Rattle.mld_ops.specs.Effects.{EffectValue, ChangesNothing}
use Rattle.jrql_ast.specs.declared.plans.UpdatePlan.{UpdatePlan}
use Rattle.jrql_eval.specs.PlanEffects.{IsPlanEffect, HasTooMany}
use Rattle.mld_model.specs.Local.{LocalClone, LocallyMakes, next_dot}
use Rattle.clone_parts.specs.declared.answers.Done.{Done}
use Rattle.clone_parts.specs.declared.answers.Done.TheVariants as done
use Rattle.clone_parts.specs.declared.faults.UpdateFault.{UpdateFault}
use Rattle.clone_parts.specs.declared.faults.UpdateFault.TheVariants as update

-- the effect deletes pairs that the clone has
abbrev pub DeletesOwn : LocalClone → EffectValue → Type 0
DeletesOwn clone effect = (pair : Tagged) → Has effect.deletes pair → Has clone.pairs pair

-- the effect of a plan on what a clone has, at the dot of its next operation
abbrev pub HasEffect : LocalClone → UpdatePlan → EffectValue → Type 0
HasEffect clone plan effect = IsPlanEffect clone.domain (next_dot clone) clone.pairs plan effect

-- a clone may make the operation of an effect: it changes something, it deletes what the clone has, and it breaks no single-valued property
pub record IsMakeable (clone : LocalClone) (effect : EffectValue) : Type 0 where
  pub some : ¬ ChangesNothing effect
  pub own : DeletesOwn clone effect
  pub single : BreaksNone clone.properties clone.pairs effect

-- what became of an effect: it changes nothing, and nothing was done; or the clone made the operation of it
abbrev pub LocallyUpdates : LocalClone → EffectValue → Done → LocalClone → Type 0
LocallyUpdates old effect done.Nothing new = ChangesNothing effect × (new ≡ old)
LocallyUpdates old effect (done.Made entry) new = IsMakeable old effect × LocallyMakes old effect new entry

-- what became of an update: that of the effect of its plan
pub record LocallyUpdatesBy (old : LocalClone) (plan : UpdatePlan) (answer : Done) (new : LocalClone) : Type 0 where
  pub effect : EffectValue
  pub has : HasEffect old plan effect
  pub updates : LocallyUpdates old effect answer new

-- the effect of the plan changes something, and this subject and property are the first that it breaks
pub record BreaksSingle (clone : LocalClone) (plan : UpdatePlan) (place : List ℕ × List ℕ) : Type 0 where
  pub effect : EffectValue
  pub has : HasEffect clone plan effect
  pub some : ¬ ChangesNothing effect
  pub first : IsFirstBreach clone.properties clone.pairs effect place

-- why an update was refused: its plan has too many solutions, or it breaks a single-valued property; or for what the clone says more of
abbrev pub RefusesUpdate : LocalClone → UpdatePlan → UpdateFault → Type 0
RefusesUpdate clone plan update.TooMany = HasTooMany clone.pairs plan
RefusesUpdate clone plan (update.Single subject property) = BreaksSingle clone plan (subject, property)
RefusesUpdate clone plan (update.Closed why) = Unit {0}
RefusesUpdate clone plan update.TicksSpent = Unit {0}
RefusesUpdate clone plan update.Device = Unit {0}
RefusesUpdate clone plan update.NoMemory = Unit {0}

-- an update has an operation to append: the clone has a tick left for it, its plan has an effect, and the clone may make the operation of that
pub record IsDueUpdate (clone : LocalClone) (plan : UpdatePlan) : Type 0 where
  pub left : ticks_of clone.ticks clone.path ≢ tick_limit
  pub effect : EffectValue
  pub has : HasEffect clone plan effect
  pub may : IsMakeable clone effect
