-- The triples of the pairs that match, each once, are those of the present triples that match.
use Rattle.std.proofs.Common.{◌≡◌, ◌∙◌, ℕ, zero, suc, ◌+◌, ◌<◌, ◌↔◌, List, [], ◌∷◌, ◌++◌, Bool, true, false, cond, Option, None, Some, if◌then◌else◌, true≢false, length, slice_get, map, take, filter, filter_map, IsTrue, refl, sym, ap, subst, arith}
use Rattle.std.specs.Option.{option_map, option_to_list}
use Rattle.std.specs.Cmp.{IsTotalOrder}
use Rattle.std.specs.List.{dedup, dedup_from}
use Rattle.std.specs.List.Sorted.{IsPermutation, IsSortedBy}
use Rattle.std.specs.Ordering.{is_lt, eq_by_cmp}
use Rattle.std.specs.declared.cmp.Ordering.{Ordering}
use Rattle.std.proofs.lemmas.List.Sorted.{IsPermutation-map, IsPermutation-refl}
use Rattle.std.proofs.lemmas.Map.Lookups.{CmpEqualImpliesEq}
use Rattle.jrql_rows.specs.rdf_terms.declared.terms.Term.{Term}
use Rattle.jrql_rows.specs.rdf_terms.declared.terms.Triple.{Triple}
use Rattle.jrql_rows.specs.rdf_terms.Order.{triple_cmp}
use Rattle.jrql_rows.specs.rdf_terms.OrderLaws.{triple_total, triple_exact}
use Rattle.jrql_rows.specs.tree_clock.Lists.{Has, IsAscending}
use Rattle.jrql_rows.specs.mld_ops.declared.tagged.Tagged.{Tagged}
use Rattle.jrql_rows.specs.mld_ops.InOrder.{IsPutInOrder}
use Rattle.jrql_rows.specs.mld_ops.Present.{present}
use Rattle.jrql_rows.specs.mld_ops.Tagged.{tagged_cmp}
use Rattle.jrql_rows.proofs.of_mld_ops.AscendingLaws.{has_filter, ascending_filter, sorted_from_ascending}
use Rattle.jrql_rows.proofs.of_mld_ops.Keeping.{once_members, sorted_in_order}
use Rattle.jrql_rows.proofs.of_mld_ops.PresentLaws.{has_present, present_ascends}
use Rattle.jrql_rows.specs.graph_index.Matching.{FindsEach, HasTriple, StandTogether, matches}
use Rattle.jrql_rows.proofs.of_graph_index.Sorting.{has_image, image_has, view_sorted}
use Rattle.jrql_rows.specs.jrql_ast.declared.patterns.PatternTriple.{PatternTriple}
use Rattle.jrql_rows.specs.jrql_ast.QueryAnswers.{IsSortingOf}
use Rattle.jrql_rows.specs.jrql_ast.Solutions.{agree}
use Rattle.jrql_rows.proofs.of_jrql_ast.Sortings.{one_sorting}
use Rattle.jrql_plans.specs.PlannedGroups.{IsBoundIn}
use Rattle.jrql_eval.specs.Evaluating.{has_parts, instance_of}
use Rattle.jrql_eval.proofs.BranchLaws.{sorting_of}
use Rattle.jrql_eval.proofs.EachOnce.{neighbours_once, once_ascending, once_permutes}
use Rattle.jrql_eval.proofs.Scanned.{there, absent, no_triple}

-- a list that is sorted by a part of each element, and then has each part once
module _ {X Y : Type 0} (f : X → Y) (order : Y → Y → Ordering) where
  view_from : (same : Y → Y → Bool) (k : X) (xs : List X) → map f (dedup_from (λ a b. same (f a) (f b)) k xs) ≡ dedup_from same (f k) (map f xs)
  view_from same k [] = refl
  view_from same k (x ∷ xs) = by (same (f x) (f k)) (view_from same k xs) (view_from same x xs)
    where
      by : (b : Bool) → map f (dedup_from (λ a b. same (f a) (f b)) k xs) ≡ dedup_from same (f k) (map f xs)
          → map f (dedup_from (λ a b. same (f a) (f b)) x xs) ≡ dedup_from same (f x) (map f xs)
          → map f (cond b (dedup_from (λ a b. same (f a) (f b)) k xs) (k ∷ dedup_from (λ a b. same (f a) (f b)) x xs))
          ≡ cond b (dedup_from same (f k) (map f xs)) (f k ∷ dedup_from same (f x) (map f xs))
      by true kept other = kept
      by false kept other = ap (λ l. f k ∷ l) other

  pub view_dedup : (same : Y → Y → Bool) (xs : List X) → map f (dedup (λ a b. same (f a) (f b)) xs) ≡ dedup same (map f xs)
  view_dedup same [] = refl
  view_dedup same (x ∷ xs) = view_from same x xs

  -- so its parts are put in order
  pub view_in_order : IsTotalOrder order → CmpEqualImpliesEq order → (given sorted kept : List X) → IsPermutation given sorted
      → IsSortedBy (λ a b. is_lt (order (f a) (f b))) sorted → kept ≡ dedup (λ a b. eq_by_cmp order (f a) (f b)) sorted → IsPutInOrder order (map f given) (map f kept)
  view_in_order total exact given sorted kept moved up once =
      sorted_in_order order total exact (map f given) (map f sorted) (map f kept) (IsPermutation-map f given sorted moved) (view_sorted f order sorted up)
      (ap (map f) once ∙ view_dedup (eq_by_cmp order) sorted)

-- the triples of the pairs that match, in order, are the present ones that match
module _ (pairs found : List Tagged) (s p : Option (List ℕ)) (o : Option Term) (ascending : IsAscending tagged_cmp pairs) (each : FindsEach (matches s p o) pairs found) where
  of_found : (triple : Triple) → Has (map (λ (pair : Tagged). pair.triple) found) triple → Has (filter (has_parts s p o) (present pairs)) triple
  of_found triple h =
      let i = image_has (λ (pair : Tagged). pair.triple) found triple h in
      let m = (each.members i.0).0 i.1 in
      (has_filter (has_parts s p o) (present pairs) triple).1 (
        (has_present pairs triple).1 (record { pair = i.0; stands = m.0; is = i.2 }),
        subst (λ (t : Triple). has_parts s p o t ≡ true) i.2 m.1,
      )

  is_found : (triple : Triple) → Has (filter (has_parts s p o) (present pairs)) triple → Has (map (λ (pair : Tagged). pair.triple) found) triple
  is_found triple h =
      let f = (has_filter (has_parts s p o) (present pairs) triple).0 h in
      let q = (has_present pairs triple).0 f.0 in
      subst (Has (map (λ (pair : Tagged). pair.triple) found)) q.is
      (has_image (λ (pair : Tagged). pair.triple) found q.pair
      ((each.members q.pair).1 (q.stands, subst (λ (t : Triple). has_parts s p o t ≡ true) (sym q.is) f.1)))

  -- each once, in whatever order
  pub scanned_are : StandTogether (λ (pair : Tagged). pair.triple) found → (kept : List Triple) → kept ≡ dedup (eq_by_cmp triple_cmp) (map (λ (pair : Tagged). pair.triple) found)
      → IsPermutation (filter (has_parts s p o) (present pairs)) kept
  scanned_are together kept e =
      let triples = map (λ (pair : Tagged). pair.triple) found in
      subst (IsPermutation (filter (has_parts s p o) (present pairs))) (sym e)
      (once_permutes (filter (has_parts s p o) (present pairs)) (dedup (eq_by_cmp triple_cmp) triples)
      (once_ascending triple_cmp triple_total (filter (has_parts s p o) (present pairs)) (ascending_filter triple_cmp (has_parts s p o) (present pairs) (present_ascends pairs ascending)))
      (neighbours_once (λ (pair : Tagged). pair.triple) triple_cmp triple_total triple_exact found together)
      (λ triple h. (once_members triple_cmp triple_total triple_exact triples triple).1 (is_found triple h))
      (λ triple h. of_found triple ((once_members triple_cmp triple_total triple_exact triples triple).0 h)))

-- what is found, sorted, is what matches, in order
pub sorted_found : (test : Triple → Bool) (graph given sorted : List Triple) → IsAscending triple_cmp graph → IsPermutation (filter test graph) given → IsSortingOf triple_cmp given sorted
    → sorted ≡ filter test graph
sorted_found test graph given sorted a moved s =
    one_sorting triple_cmp triple_total (λ x. Unit {0}) (λ x y h k e. triple_exact x y e) (filter test graph) sorted (filter test graph) (λ k d l. tt)
    (sorting_of triple_cmp (filter test graph) given sorted moved s)
    (record { same = IsPermutation-refl (filter test graph); ascending = sorted_from_ascending triple_cmp triple_total (filter test graph) (ascending_filter triple_cmp test graph a) })

-- a triple that some pair has is present
pub present_from_pair : (pairs : List Tagged) (triple : Triple) → HasTriple pairs triple → Has (present pairs) triple
present_from_pair pairs triple h = (has_present pairs triple).1 (record { pair = record { triple = triple; dot = h.0 }; stands = h.1; is = refl })

pub pair_from_present : (pairs : List Tagged) (triple : Triple) → Has (present pairs) triple → HasTriple pairs triple
pair_from_present pairs triple h =
    let q = (has_present pairs triple).0 h in
    (q.pair.dot, subst (λ (t : Triple). Has pairs (record { triple = t; dot = q.pair.dot })) q.is q.stands)

-- the pattern is a triple of the graph where the triple that it is has a pair
pub checked_by : (pairs : List Tagged) (pattern : PatternTriple) (row : List (Option Term)) (b : Bool) (triple : Triple) → IsAscending tagged_cmp pairs → IsBoundIn row pattern
    → instance_of pattern row ≡ Some triple → (IsTrue b ↔ HasTriple pairs triple)
    → filter_map (λ t. agree pattern t row) (present pairs) ≡ (if b then row ∷ [] else [])
checked_by pairs pattern row true triple a k e h =
    there (present pairs) pattern row k.s k.p k.o k.subject k.predicate k.object triple (present_ascends pairs a) e (present_from_pair pairs triple (h.0 refl))
checked_by pairs pattern row false triple a k e h =
    absent (present pairs) pattern row k.s k.p k.o k.subject k.predicate k.object triple e
    (λ g. true≢false (sym (h.1 (pair_from_present pairs triple g))))

pub unchecked : (pairs : List Tagged) (pattern : PatternTriple) (row : List (Option Term)) → IsBoundIn row pattern
    → instance_of pattern row ≡ None → filter_map (λ t. agree pattern t row) (present pairs) ≡ []
unchecked pairs pattern row k e = no_triple (present pairs) pattern row k.s k.p k.o k.subject k.predicate k.object e

-- one element more that is mapped
pub mapped_more : {X Y : Type 0} (f : X → Y) (xs : List X) (i : ℕ) → i < length xs → map f (take i xs) ++ option_to_list (option_map f (slice_get xs i)) ≡ map f (take (i + 1) xs)
mapped_more f [] i l = absurd (omega (arith, l))
mapped_more f (x ∷ xs) zero l = refl
mapped_more f (x ∷ xs) (suc i) l =
    let e : suc i + 1 ≡ suc (i + 1) = omega arith in
    ap (λ z. f x ∷ z) (mapped_more f xs i (omega (arith, l))) ∙ ap (λ n. map f (take n (x ∷ xs))) (sym e)
