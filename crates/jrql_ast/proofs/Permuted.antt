-- The order of patterns makes no difference to what matches them.
use Rattle.std.proofs.Common.{◌≡◌, ◌∙◌, List, ◌∷◌, Option, None, Some, flat_map, filter_map, option_and_then, sym, ap, subst}
use Rattle.std.specs.List.Sorted.{IsPermutation}
use Rattle.std.proofs.lemmas.List.Sorted.{IsPermutation-refl, IsPermutation-trans}
use Rattle.rdf_terms.specs.declared.terms.Term.{Term}
use Rattle.rdf_terms.specs.declared.terms.Triple.{Triple}
use Rattle.jrql_ast.specs.declared.patterns.PatternTriple.{PatternTriple}
use Rattle.jrql_ast.specs.Solutions.{agree, matches_from}
use Rattle.jrql_ast.proofs.Bindings.{agree_commutes}
use Rattle.jrql_ast.proofs.Rearranging.{by_neighbours, flat_map_same, flat_map_none, flat_map_permutes, flat_map_turned, each_of, flat_map_filter_map}

module _ (graph : List Triple) where
  inner : (q : PatternTriple) (ps : List PatternTriple) (o : Option (List (Option Term)))
      → each_of (matches_from graph (q ∷ ps)) o ≡ flat_map (λ u. each_of (matches_from graph ps) (option_and_then (agree q u) o)) graph
  inner q ps None = sym (flat_map_none graph)
  inner q ps (Some row) = flat_map_filter_map (matches_from graph ps) (λ u. agree q u row) graph

  by_choices : (p q : PatternTriple) (ps : List PatternTriple) (row : List (Option Term))
      → matches_from graph (p ∷ q ∷ ps) row ≡ flat_map (λ t. flat_map (λ u. each_of (matches_from graph ps) (option_and_then (agree q u) (agree p t row))) graph) graph
  by_choices p q ps row =
      flat_map_filter_map (matches_from graph (q ∷ ps)) (λ t. agree p t row) graph
      ∙ flat_map_same _ _ (λ t. inner q ps (agree p t row)) graph

  neighbours : (p q : PatternTriple) (ps : List PatternTriple) (row : List (Option Term))
      → IsPermutation (matches_from graph (p ∷ q ∷ ps) row) (matches_from graph (q ∷ p ∷ ps) row)
  neighbours p q ps row =
      subst (λ l. IsPermutation l (matches_from graph (q ∷ p ∷ ps) row)) (sym (by_choices p q ps row))
      (subst (IsPermutation _) (same ∙ sym (by_choices q p ps row))
      (flat_map_turned (λ t u. each_of (matches_from graph ps) (option_and_then (agree q u) (agree p t row))) graph graph))
    where
      same : flat_map (λ u. flat_map (λ t. each_of (matches_from graph ps) (option_and_then (agree q u) (agree p t row))) graph) graph
          ≡ flat_map (λ u. flat_map (λ t. each_of (matches_from graph ps) (option_and_then (agree p t) (agree q u row))) graph) graph
      same = flat_map_same _ _ (λ u. flat_map_same _ _ (λ t. ap (each_of (matches_from graph ps)) (agree_commutes p q t u row)) graph) graph

  pub matches_permuted : (ps qs : List PatternTriple) → IsPermutation ps qs → (row : List (Option Term))
      → IsPermutation (matches_from graph ps row) (matches_from graph qs row)
  matches_permuted ps qs h =
      by_neighbours (λ l m. (row : List (Option Term)) → IsPermutation (matches_from graph l row) (matches_from graph m row))
      (λ l row. IsPermutation-refl _)
      (λ l m n f g row. IsPermutation-trans _ _ _ (f row) (g row))
      (λ p l m f row. flat_map_permutes (matches_from graph l) (matches_from graph m) f (filter_map (λ t. agree p t row) graph))
      neighbours ps qs h
