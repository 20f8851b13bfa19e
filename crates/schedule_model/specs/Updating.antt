-- What a clone does that is told to update: by the effect of a plan on the triples that are present for it, at the dot of its next
-- operation (SPARQL 1.1 Update, section 3.1.3). `PlainStep` is made of it.
use Rattle.std.specs.Prelude.{◌≡◌, ℕ, List}
use Rattle.rdf_terms.specs.declared.terms.Triple.{Triple}
use Rattle.mld_ops.specs.declared.tagged.Tagged.{Tagged}
use Rattle.mld_ops.specs.Effects.{EffectValue, inserting}
use Rattle.jrql_ast.specs.declared.plans.UpdatePlan.{UpdatePlan}
use Rattle.jrql_ast.specs.Templates.{insertion_of, deletion_of}
use Rattle.jrql_eval.specs.PlanEffects.{IsPlanEffect, HasTooMany}
use Rattle.mld_model.specs.Clone.{Clone}
use Rattle.mld_model.specs.CloneStep.{UpdatesBy}
use Rattle.mld_model.specs.Reply.{Reply}
use Rattle.mld_model.specs.World.{World}

-- a clone makes the update of a plan, in the domain of its world
abbrev pub UpdatesByPlan : World → ℕ → UpdatePlan → Clone → Reply → World → Type 0
UpdatesByPlan world number plan clone reply next =
    UpdatesBy world number (λ pairs. HasTooMany pairs plan) (λ dot pairs effect. IsPlanEffect world.domain dot pairs plan effect) clone reply next

-- to add a triple is the update that inserts it
abbrev pub Adds : World → ℕ → Triple → Clone → Reply → World → Type 0
Adds world number triple clone reply next = UpdatesByPlan world number (insertion_of triple) clone reply next

-- to remove a triple is the update that deletes it
abbrev pub Removes : World → ℕ → Triple → Clone → Reply → World → Type 0
Removes world number triple clone reply next = UpdatesByPlan world number (deletion_of triple) clone reply next

-- one triple is inserted, whatever is present, and nothing is deleted
abbrev pub AddsTriple : Triple → List Tagged → EffectValue → Type 0
AddsTriple triple pairs effect = effect ≡ inserting triple
