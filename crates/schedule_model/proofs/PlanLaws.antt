-- The effects of plans: each deletes pairs that are present, and those of plans of one triple are what an `add` and a `remove` make.
use Rattle.std.proofs.Common.{◌≡◌, ℕ, zero, suc, List, [], ◌∷◌, inl, inr, refl, sym, subst, arith, length, Option}
use Rattle.std.specs.List.{All}
use Rattle.std.proofs.lemmas.List.Sorted.{length_permutation}
use Rattle.rdf_terms.specs.declared.terms.Term.{Term}
use Rattle.rdf_terms.specs.declared.terms.Triple.{Triple}
use Rattle.rdf_terms.specs.Order.{triple_cmp}
use Rattle.rdf_terms.specs.OrderLaws.{triple_total, triple_exact}
use Rattle.tree_clock.specs.declared.dots.Dot.{Dot}
use Rattle.tree_clock.specs.Lists.{Has}
use Rattle.mld_ops.specs.declared.tagged.Tagged.{Tagged}
use Rattle.mld_ops.specs.Effects.{EffectValue, inserting, DeletesAll}
use Rattle.mld_ops.specs.InOrder.{IsPutInOrder}
use Rattle.mld_ops.specs.Present.{present}
use Rattle.mld_ops.specs.Tagged.{tagged_cmp}
use Rattle.mld_ops.proofs.AscendingLaws.{same_ascending}
use Rattle.mld_ops.proofs.TaggedLaws.{tagged_total, tagged_exact}
use Rattle.jrql_ast.proofs.OneSolutions.{one_solutions}
use Rattle.jrql_ast.specs.declared.plans.UpdatePlan.{UpdatePlan}
use Rattle.jrql_ast.specs.InForm.{IsGroupInForm, IsPatternWithin, IsPlanInForm}
use Rattle.jrql_ast.specs.QueryAnswers.{IsSolutions}
use Rattle.jrql_ast.specs.Templates.{template_of, no_group, insertion_of, deletion_of}
use Rattle.jrql_eval.specs.PlanEffects.{IsEffectBy, IsPlanEffect, HasTooMany, OneEffect}
use Rattle.mld_ops.specs.History.{dot_at}
use Rattle.mld_ops.specs.Meaning.{IsMeaning}
use Rattle.mld_model.specs.Clone.{Clone, Live, Stored, known_of}
use Rattle.mld_model.specs.CloneStep.{Answers, IsNextTick, Updates}
use Rattle.mld_model.specs.Reply.{Reply, TooMany}
use Rattle.mld_model.specs.World.{World}
use Rattle.mld_model.proofs.StateLaws.{IsState}
use Rattle.mld_model.proofs.UpdateLaws.{DeletesPresent, if_updates}
use Rattle.tree_clock.specs.declared.dots.Range.{Range}
use Rattle.schedule_model.specs.Updating.{UpdatesByPlan}

-- the effect of a plan deletes pairs that are present
pub plan_present : (domain : List ℕ) (plan : UpdatePlan) → DeletesPresent (λ dot pairs effect. IsPlanEffect domain dot pairs plan effect)
plan_present domain plan dot pairs effect has pair h = ((has.does.deletes.members pair).0 h).0

-- what holds where the clone replies with its state, or that there are too many solutions, and nothing changes, and where it is live and the
-- plan has an effect on its pairs at the dot of its next operation, holds whatever became of the update
pub if_planned : (C : Type 0) (world : World) (number : ℕ) (plan : UpdatePlan) (clone : Clone) (reply : Reply) (next : World)
    → ((answer : Reply) → IsState answer → Answers world answer reply next → C) → (Answers world TooMany reply next → C)
    → ((stored : Stored) (held : List Range) (pairs : List Tagged) (tick : ℕ) (effect : EffectValue) → clone ≡ Live stored held
    → IsMeaning world.history (known_of stored) pairs → IsNextTick (known_of stored) stored.path tick
    → IsPlanEffect world.domain (dot_at stored.path tick) pairs plan effect → Updates world number stored held pairs effect reply next → C)
    → UpdatesByPlan world number plan clone reply next → C
if_planned C world number plan clone reply next state many does =
    if_updates C world number (λ pairs. HasTooMany pairs plan) (λ dot pairs effect. IsPlanEffect world.domain dot pairs plan effect) clone reply next state many does

-- a plan in form has one effect: its solutions are one list
effect_once : (domain : List ℕ) (dot : Dot) (pairs : List Tagged) (plan : UpdatePlan) (rows : List (List (Option Term))) (effect other : EffectValue)
    → IsEffectBy domain dot pairs plan rows effect → IsEffectBy domain dot pairs plan rows other → effect ≡ other
effect_once domain dot pairs plan rows effect other p q =
    let deletes : effect.deletes ≡ other.deletes =
    same_ascending tagged_cmp tagged_total tagged_exact effect.deletes other.deletes p.deletes.ascending q.deletes.ascending
    (λ pair h. (q.deletes.members pair).1 ((p.deletes.members pair).0 h)) (λ pair h. (p.deletes.members pair).1 ((q.deletes.members pair).0 h)) in
    let inserts : effect.inserts ≡ other.inserts =
    same_ascending triple_cmp triple_total triple_exact effect.inserts other.inserts p.inserts.ascending q.inserts.ascending
    (λ item h. (q.inserts.members item).1 ((p.inserts.members item).0 h)) (λ item h. (p.inserts.members item).1 ((q.inserts.members item).0 h)) in
    λ i. record { deletes = deletes i; inserts = inserts i }

pub one_effect : OneEffect
one_effect domain dot pairs plan effect other form p q =
    let same : p.rows ≡ q.rows = one_solutions (present pairs) plan.group p.rows q.rows form.group p.solutions q.solutions in
    effect_once domain dot pairs plan q.rows effect other
    (subst (λ (rows : List (List (Option Term))). IsEffectBy domain dot pairs plan rows effect) same p.does) q.does

-- ---- lists of no item, and of one

no_items : {X : Type 0} (items : List X) → ((item : X) → ¬ Has items item) → items ≡ []
no_items [] none = refl
no_items (item ∷ items) none = absurd (none item (inl refl))

put_one : (triple : Triple) (kept : List Triple) → IsPutInOrder triple_cmp (triple ∷ []) kept → kept ≡ triple ∷ []
put_one triple kept p =
    same_ascending triple_cmp triple_total triple_exact kept (triple ∷ []) p.ascending (tt, tt) (λ item h. (p.members item).0 h) (λ item h. (p.members item).1 h)

is_the_one : {X : Type 0} (one item : X) → Has (one ∷ []) item → item ≡ one
is_the_one one item h = elim h [
  | inl same ↦ sym same
  | inr none ↦ absurd none
]

all_of_none : {X : Type 0} (P : X → Type 0) → All P []
all_of_none P k d inside = absurd (omega (arith, inside))

all_of_one : {X : Type 0} (P : X → Type 0) (one : X) → P one → All P (one ∷ [])
all_of_one P one p zero d inside = p
all_of_one P one p (suc k) d inside = absurd (omega (arith, inside))

-- ---- plans of one triple

-- the group of no pattern has one solution
one_solution : (graph : List Triple) (rows : List (List (Option Term))) → IsSolutions graph no_group rows → length rows ≡ 1
one_solution graph rows s = omega (arith, length_permutation ([] ∷ []) rows s.sorted.same)

module _ (domain : List ℕ) (dot : Dot) (pairs : List Tagged) (triple : Triple) where
  -- for it the triple is inserted
  inserted_by : (rows : List (List (Option Term))) (effect : EffectValue) → length rows ≡ 1 → IsEffectBy domain dot pairs (insertion_of triple) rows effect
      → effect ≡ inserting triple
  inserted_by [] effect one by = absurd (omega (arith, one))
  inserted_by (row ∷ []) effect one by =
      let none : effect.deletes ≡ [] = no_items effect.deletes (λ pair h. ((by.deletes.members pair).0 h).1) in
      let some : effect.inserts ≡ triple ∷ [] = put_one triple effect.inserts by.inserts in
      λ i. record { deletes = none i; inserts = some i }
  inserted_by (row ∷ other ∷ rows) effect one by = absurd (omega (arith, one))

  -- or its pairs are deleted
  deleted_by : (rows : List (List (Option Term))) (effect : EffectValue) → length rows ≡ 1 → IsEffectBy domain dot pairs (deletion_of triple) rows effect
      → DeletesAll triple pairs effect
  deleted_by [] effect one by = absurd (omega (arith, one))
  deleted_by (row ∷ []) effect one by =
      let none : effect.inserts ≡ [] = no_items effect.inserts (λ item h. (by.inserts.members item).0 h) in
      record {
        found = effect.deletes;
        are = record {
          ascending = by.deletes.ascending;
          members = λ pair. (
            λ h. (((by.deletes.members pair).0 h).0, is_the_one triple pair.triple ((by.deletes.members pair).0 h).1),
            λ h. (by.deletes.members pair).1 (h.0, inl (sym h.1)),
          );
        };
        is = λ i. record { deletes = effect.deletes; inserts = none i };
      }
  deleted_by (row ∷ other ∷ rows) effect one by = absurd (omega (arith, one))

  -- the plan that inserts one triple inserts it, whatever is present, and deletes nothing
  pub insertion_effect : (effect : EffectValue) → IsPlanEffect domain dot pairs (insertion_of triple) effect → effect ≡ inserting triple
  insertion_effect effect has = inserted_by has.rows effect (one_solution _ has.rows has.solutions) has.does

  -- the plan that deletes one deletes all its pairs that are present, and inserts nothing
  pub deletion_effect : (effect : EffectValue) → IsPlanEffect domain dot pairs (deletion_of triple) effect → DeletesAll triple pairs effect
  deletion_effect effect has = deleted_by has.rows effect (one_solution _ has.rows has.solutions) has.does

-- both are in form
no_group_in_form : IsGroupInForm no_group
no_group_in_form = record {
  differ = λ i j d before inside. absurd (omega (arith, inside));
  limit = omega arith;
  patterns = all_of_none _;
  branches = all_of_none _;
  filters = all_of_none _;
}

template_within : (fresh : ℕ) (triple : Triple) → All (IsPatternWithin 0 fresh) (template_of triple ∷ [])
template_within fresh triple =
    all_of_one (IsPatternWithin 0 fresh) (template_of triple) (record { subject = tt; predicate = tt; object = tt })

pub insertion_in_form : (triple : Triple) → IsPlanInForm (insertion_of triple)
insertion_in_form triple = record { group = no_group_in_form; deletes = all_of_none _; inserts = template_within 0 triple }

pub deletion_in_form : (triple : Triple) → IsPlanInForm (deletion_of triple)
deletion_in_form triple = record { group = no_group_in_form; deletes = template_within 0 triple; inserts = all_of_none _ }
