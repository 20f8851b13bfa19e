-- Which pairs an update deletes, and that a plan has one effect.
use Rattle.std.proofs.Common.{◌≡◌, ◌↔◌, ℕ, ◌≤◌, List, [], ◌∷◌, Option, length, filter, flat_map, true, sym, subst, inl, inr, arith}
use Rattle.std.proofs.lemmas.List.Sorted.{length_permutation}
use Rattle.std.proofs.lemmas.Map.Views.{tells_apart}
use Rattle.std.specs.Cmp.{eq_by_cmp_equiv}
use Rattle.jrql_rows.specs.rdf_terms.declared.terms.Term.{Term}
use Rattle.jrql_rows.specs.rdf_terms.declared.terms.Triple.{Triple}
use Rattle.jrql_rows.specs.rdf_terms.Order.{triple_cmp}
use Rattle.jrql_rows.specs.rdf_terms.OrderLaws.{triple_total, triple_exact}
use Rattle.jrql_rows.specs.tree_clock.declared.dots.Dot.{Dot}
use Rattle.jrql_rows.specs.tree_clock.Lists.{Has}
use Rattle.jrql_rows.specs.mld_ops.declared.tagged.Tagged.{Tagged}
use Rattle.jrql_rows.specs.mld_ops.Tagged.{tagged_cmp}
use Rattle.jrql_rows.specs.mld_ops.Effects.{EffectValue, IsEffectOf}
use Rattle.jrql_rows.specs.mld_ops.InOrder.{IsPutInOrder}
use Rattle.jrql_rows.specs.mld_ops.Present.{present}
use Rattle.jrql_rows.proofs.of_mld_ops.AscendingLaws.{has_append, has_left, has_right, has_filter, same_ascending}
use Rattle.jrql_rows.proofs.of_mld_ops.TaggedLaws.{tagged_total, tagged_exact}
use Rattle.jrql_rows.specs.graph_index.Matching.{is_of}
use Rattle.jrql_rows.specs.jrql_ast.declared.patterns.Group.{Group}
use Rattle.jrql_rows.specs.jrql_ast.declared.plans.UpdatePlan.{UpdatePlan}
use Rattle.jrql_rows.specs.jrql_ast.QueryAnswers.{IsSolutions, found, solution_limit}
use Rattle.jrql_rows.specs.jrql_ast.Templates.{made_from}
use Rattle.jrql_rows.proofs.of_jrql_ast.OneSolutions.{one_solutions}
use Rattle.jrql_rows.specs.jrql_ast.FreshNames.{fresh_name}
use Rattle.jrql_eval.specs.ConstantTemplates.{AreMadeBy}
use Rattle.jrql_eval.specs.PlanEffects.{ArePairsOfAny, IsEffectBy, OneEffect}

-- the pairs of triples, one triple after another
module _ (pairs : List Tagged) where
  abbrev pub pairs_of_each : List Triple → List Tagged
  pairs_of_each triples = flat_map (λ triple. filter (is_of triple) pairs) triples

  of_each : (triples : List Triple) (pair : Tagged) → Has (pairs_of_each triples) pair → Has pairs pair × Has triples pair.triple
  of_each [] pair h = absurd h
  of_each (triple ∷ triples) pair h = elim (has_append (filter (is_of triple) pairs) (pairs_of_each triples) pair h) [
    | inl here ↦ (let f = (has_filter (is_of triple) pairs pair).0 here in (f.0, inl (tells_apart triple_exact triple pair.triple f.1)))
    | inr later ↦ (let r = of_each triples pair later in (r.0, inr r.1))
  ]

  to_each : (triples : List Triple) (pair : Tagged) → Has pairs pair → Has triples pair.triple → Has (pairs_of_each triples) pair
  to_each [] pair h k = absurd k
  to_each (triple ∷ triples) pair h (inl e) =
      has_left (filter (is_of triple) pairs) (pairs_of_each triples) pair
      ((has_filter (is_of triple) pairs pair).1 (h, subst (λ (t : Triple). is_of t pair ≡ true) (sym e) ((eq_by_cmp_equiv triple_total).refl pair.triple)))
  to_each (triple ∷ triples) pair h (inr k) = has_right (filter (is_of triple) pairs) (pairs_of_each triples) pair (to_each triples pair h k)

  -- in order they are those of any of the triples
  pub chosen_pairs : (made put : List Triple) (given kept : List Tagged) → IsPutInOrder triple_cmp made put → given ≡ pairs_of_each put → IsPutInOrder tagged_cmp given kept
      → ArePairsOfAny made pairs kept
  chosen_pairs made put given kept triples e order = record {
    ascending = order.ascending;
    members = λ pair. (
      λ h. let r = of_each put pair (subst (λ (l : List Tagged). Has l pair) e ((order.members pair).0 h)) in (r.0, (triples.members pair.triple).0 r.1),
      λ h. (order.members pair).1 (subst (λ (l : List Tagged). Has l pair) (sym e) (to_each put pair h.0 ((triples.members pair.triple).1 h.1))),
    );
  }

-- what is made in any order is as good as what is made
made_again : (made given kept : List Triple) → ((triple : Triple) → Has given triple ↔ Has made triple) → IsPutInOrder triple_cmp given kept → IsPutInOrder triple_cmp made kept
made_again made given kept same order = record {
  ascending = order.ascending;
  members = λ triple. (λ h. (same triple).0 ((order.members triple).0 h), λ h. (order.members triple).1 ((same triple).1 h));
}

chosen_again : (pairs : List Tagged) (made given : List Triple) (kept : List Tagged) → ((triple : Triple) → Has given triple ↔ Has made triple) → ArePairsOfAny given pairs kept
    → ArePairsOfAny made pairs kept
chosen_again pairs made given kept same chosen = record {
  ascending = chosen.ascending;
  members = λ pair. (
    λ h. let r = (chosen.members pair).0 h in (r.0, (same pair.triple).0 r.1),
    λ h. (chosen.members pair).1 (h.0, (same pair.triple).1 h.1),
  );
}

-- the effect of a plan by its solutions, of the lists that are made
pub effect_of_made : (domain : List ℕ) (dot : Dot) (pairs : List Tagged) (plan : UpdatePlan) (rows : List (List (Option Term))) (gone put : List Triple) (deletes : List Tagged)
    (inserts : List Triple) (effect : EffectValue) → AreMadeBy (fresh_name domain dot plan.fresh) plan.deletes rows gone → IsPutInOrder triple_cmp gone put
    → deletes ≡ pairs_of_each pairs put → AreMadeBy (fresh_name domain dot plan.fresh) plan.inserts rows inserts → IsEffectOf deletes inserts effect
    → IsEffectBy domain dot pairs plan rows effect
effect_of_made domain dot pairs plan rows gone put deletes inserts effect e order f g is =
    let names = fresh_name domain dot plan.fresh in
    record {
      deletes = chosen_again pairs (made_from names plan.deletes 0 rows) gone effect.deletes e (chosen_pairs pairs gone put deletes effect.deletes order f is.deletes_kept);
      inserts = made_again (made_from names plan.inserts 0 rows) inserts effect.inserts g is.inserts_kept;
    }

-- there are no more solutions than were found
pub few_rows : (graph : List Triple) (group : Group) (rows : List (List (Option Term))) → IsSolutions graph group rows → length (found graph group) ≤ solution_limit
    → length rows ≤ solution_limit
few_rows graph group rows are few = let e = length_permutation (found graph group) rows are.sorted.same in omega (arith, e, few)

-- a plan in form has one effect
pub one_effect : OneEffect
one_effect domain dot pairs plan effect other form is are =
    let e = one_solutions (present pairs) plan.group are.rows is.rows form.group are.solutions is.solutions in
    let also = subst (λ (rows : List (List (Option Term))). IsEffectBy domain dot pairs plan rows other) e are.does in
    let gone : effect.deletes ≡ other.deletes =
    same_ascending tagged_cmp tagged_total tagged_exact effect.deletes other.deletes is.does.deletes.ascending also.deletes.ascending
    (λ pair h. (also.deletes.members pair).1 ((is.does.deletes.members pair).0 h))
    (λ pair h. (is.does.deletes.members pair).1 ((also.deletes.members pair).0 h)) in
    let come : effect.inserts ≡ other.inserts =
    same_ascending triple_cmp triple_total triple_exact effect.inserts other.inserts is.does.inserts.ascending also.inserts.ascending
    (λ triple h. (also.inserts.members triple).1 ((is.does.inserts.members triple).0 h))
    (λ triple h. (is.does.inserts.members triple).1 ((also.inserts.members triple).0 h)) in
    λ i. record { deletes = gone i; inserts = come i }
