-- What a search finds, triple by triple.
use Rattle.std.proofs.Common.{◌≡◌, ◌∙◌, List, [], ◌∷◌, ◌++◌, Option, None, Some, filter, filter_map, flat_map, refl, ap, subst, append_assoc}
use Rattle.std.specs.List.{cons_option}
use Rattle.std.specs.List.Sorted.{IsPermutation}
use Rattle.std.proofs.lemmas.List.Concat.{flat_map-append}
use Rattle.std.proofs.lemmas.List.Elements.{filter-append}
use Rattle.std.proofs.lemmas.List.Sorted.{IsPermutation-refl, IsPermutation-trans, IsPermutation-append_left, IsPermutation-append_right, IsPermutation-append_comm}
use Rattle.jrql_rows.specs.rdf_terms.declared.terms.Term.{Term}
use Rattle.jrql_rows.specs.rdf_terms.declared.terms.Triple.{Triple}
use Rattle.jrql_rows.specs.jrql_ast.Solutions.{agree, matches_from}
use Rattle.jrql_plans.specs.declared.plans.PatternStage.{PatternStage}
use Rattle.jrql_plans.specs.PlannedGroups.{checks_of, planned}
use Rattle.jrql_eval.specs.declared.searching.Ending.{Ending}
use Rattle.jrql_rows.proofs.of_jrql_ast.Rearranging.{by_neighbours, filter_permutes}
use Rattle.jrql_eval.specs.Evaluating.{all_hold, ended_by, led_to, led_from}

-- lists for elements in whatever order
pub flat_map_permuted : {X A : Type 0} (f : X → List A) (xs ys : List X) → IsPermutation xs ys → IsPermutation (flat_map f xs) (flat_map f ys)
flat_map_permuted f xs ys p =
    by_neighbours (λ l m. IsPermutation (flat_map f l) (flat_map f m)) (λ l. IsPermutation-refl (flat_map f l)) (λ l m n. IsPermutation-trans _ _ _)
    (λ x l m. IsPermutation-append_right (f x) (flat_map f l) (flat_map f m))
    (λ x y l. subst (λ z. IsPermutation z (f y ++ (f x ++ flat_map f l))) (append_assoc (f x) (f y) (flat_map f l))
    (subst (IsPermutation ((f x ++ f y) ++ flat_map f l)) (append_assoc (f y) (f x) (flat_map f l))
    (IsPermutation-append_left (flat_map f l) (f x ++ f y) (f y ++ f x) (IsPermutation-append_comm (f x) (f y)))))
    xs ys p

module _ (graph : List Triple) (ending : Ending) (stage : PatternStage) (stages : List PatternStage) where
  abbrev passed : List (List (Option Term)) → List (List (Option Term))
  passed rows = filter (all_hold ending.filters.now) (flat_map (ended_by graph ending.branches.now) rows)

  abbrev behind : List (Option Term) → List (List (Option Term))
  behind = matches_from graph (checks_of stage ++ planned stages)

  -- the rows behind a stage, choice by choice
  one_choice : (o : Option (List (Option Term))) (rest : List (List (Option Term)))
      → passed (flat_map behind (cons_option o rest)) ≡ led_from graph ending stage stages o ++ passed (flat_map behind rest)
  one_choice None rest = refl
  one_choice (Some next) rest =
      ap (filter (all_hold ending.filters.now)) (flat_map-append (ended_by graph ending.branches.now) (behind next) (flat_map behind rest))
      ∙ filter-append (all_hold ending.filters.now) (flat_map (ended_by graph ending.branches.now) (behind next)) (flat_map (ended_by graph ending.branches.now) (flat_map behind rest))

  by_choice : {X : Type 0} (h : X → Option (List (Option Term))) (xs : List X)
      → passed (flat_map behind (filter_map h xs)) ≡ flat_map (λ x. led_from graph ending stage stages (h x)) xs
  by_choice h [] = refl
  by_choice h (x ∷ xs) = one_choice (h x) (filter_map h xs) ∙ ap (λ l. led_from graph ending stage stages (h x) ++ l) (by_choice h xs)

  -- going over the triples that the pattern may be finds what going over the graph does
  pub led_by : (row : List (Option Term)) (triples : List Triple)
      → IsPermutation (filter_map (λ triple. agree stage.pattern.now triple row) graph) (filter_map (λ triple. agree stage.pattern.now triple row) triples)
      → IsPermutation (led_to graph ending (stage ∷ stages) row) (flat_map (λ triple. led_from graph ending stage stages (agree stage.pattern.now triple row)) triples)
  led_by row triples p =
      let found = filter_map (λ triple. agree stage.pattern.now triple row) graph in
      let given = filter_map (λ triple. agree stage.pattern.now triple row) triples in
      subst (IsPermutation (led_to graph ending (stage ∷ stages) row)) (by_choice (λ triple. agree stage.pattern.now triple row) triples)
      (filter_permutes (all_hold ending.filters.now) _ _ (flat_map_permuted (ended_by graph ending.branches.now) _ _ (flat_map_permuted behind found given p)))
