-- Rows by numbers: what they are, once one more stands behind, and when two are the same.
use Rattle.std.proofs.Common.{◌≡◌, ◌∙◌, ℕ, suc, ◌+◌, ◌*◌, ◌-◌, ◌<◌, ◌⊎◌, List, [], ◌∷◌, ◌++◌, Bool, true, false, Option, None, Some, nat_eq, eqb-true, slice_index_or, length, get_or, map, take, refl, sym, ap, subst, inl, inr, arith}
use Rattle.std.specs.Cmp.{IsTotalOrder}
use Rattle.std.specs.Cmp.Lexicographic.{pointwise}
use Rattle.std.specs.Option.{option_and_then, option_eq}
use Rattle.std.proofs.lemmas.Bool.{and_parts, true≢false}
use Rattle.std.proofs.lemmas.List.{get_or_append_left, get_or_push, length-map, map-append, take_at, take_more}
use Rattle.std.specs.Ordering.{ordering_reverse}
use Rattle.std.specs.declared.cmp.Ordering.{Ordering}
use Rattle.std.specs.declared.cmp.Ordering.TheVariants.{Less, Equal, Greater}
use Rattle.rdf_terms.specs.declared.terms.Term.{Term}
use Rattle.graph_index.specs.hinted_chunks.tree_clock.Lists.{Has}
use Rattle.graph_index.proofs.of_hinted_chunks.of_mld_ops.AscendingLaws.{has_append, has_left, has_right}
use Rattle.graph_index.proofs.Sorting.{has_image}
use Rattle.graph_index.specs.Graphs.{GraphValue}
use Rattle.graph_index.specs.Numbered.{term_numbered}
use Rattle.jrql_ast.specs.Solutions.{value_of}
use Rattle.jrql_ast.specs.QueryAnswers.{project}
use Rattle.jrql_ast.proofs.Rearranging.{same_list}
use Rattle.jrql_rows.specs.Bindings.{row_numbered}
use Rattle.jrql_rows.specs.KeptValues.{AddsRow, KeepsRows, cut_rows, rows_numbered}
use Rattle.jrql_rows.proofs.RowNumbers.{cut_last, cut_length, has_place}

-- the same numbers
pub same_number : (a b : Option ℕ) → option_eq nat_eq a b ≡ true → a ≡ b
same_number None None h = refl
same_number None (Some y) h = absurd (true≢false (sym h))
same_number (Some x) None h = absurd (true≢false (sym h))
same_number (Some x) (Some y) h = ap Some (eqb-true x y h)

pub same_numbers : (a b : List (Option ℕ)) → pointwise (option_eq nat_eq) a b ≡ true → a ≡ b
same_numbers [] [] h = refl
same_numbers [] (y ∷ ys) h = absurd (true≢false (sym h))
same_numbers (x ∷ xs) [] h = absurd (true≢false (sym h))
same_numbers (x ∷ xs) (y ∷ ys) h =
    let both = and_parts (option_eq nat_eq x y) (pointwise (option_eq nat_eq) xs ys) h in
    let e = same_number x y both.0 in
    let r = same_numbers xs ys both.1 in
    λ i. e i ∷ r i

-- what is compared with itself
self_reversed : (o : Ordering) → o ≡ ordering_reverse o → o ≡ Equal
self_reversed Less e = absurd (not_less e)
  where
    not_less : Less ≡ Greater → ⊥
    not_less e = cc
self_reversed Equal e = refl
self_reversed Greater e = absurd (not_greater e)
  where
    not_greater : Greater ≡ Less → ⊥
    not_greater e = cc

pub compares_equal : {X : Type 0} (order : X → X → Ordering) → IsTotalOrder order → (x y : X) → x ≡ y → order x y ≡ Equal
compares_equal order total x y e = subst (λ z. order x z ≡ Equal) e (self_reversed (order x x) (total.antisymm x x))

-- ---- the numbers of a row, one after another
pub adds_nothing : (graph : GraphValue) (row : List (Option Term)) (old : List (Option ℕ)) → AddsRow graph [] row old old
adds_nothing graph row old = record { added = []; behind = sym (append_nothing old); are = refl }
  where
    append_nothing : (l : List (Option ℕ)) → l ++ [] ≡ l
    append_nothing [] = refl
    append_nothing (x ∷ l) = ap (λ z. x ∷ z) (append_nothing l)

-- one variable more
pub adds_more : (graph : GraphValue) (columns : List ℕ) (row : List (Option Term)) (old mid new : List (Option ℕ)) (n : Option ℕ) (i d : ℕ) → i < length columns
    → AddsRow graph (take i columns) row old mid → new ≡ mid ++ n ∷ [] → option_and_then (term_numbered graph) n ≡ value_of (get_or columns i d) row
    → AddsRow graph (take (i + 1) columns) row old new
adds_more graph columns row old mid new n i d l so_far pushed here = record {
  added = so_far.added ++ n ∷ [];
  behind = pushed ∙ ap (λ z. z ++ n ∷ []) so_far.behind ∙ append_twice old so_far.added (n ∷ []);
  are =
      map-append (option_and_then (term_numbered graph)) so_far.added (n ∷ [])
      ∙ ap (λ z. z ++ option_and_then (term_numbered graph) n ∷ []) so_far.are
      ∙ ap (λ (z : Option Term). project (take i columns) row ++ z ∷ []) here
      ∙ sym (ap (λ l. project l row) (take_more columns i d l) ∙ map-append (λ variable. value_of variable row) (take i columns) (get_or columns i d ∷ []));
}
  where
    append_twice : (a b c : List (Option ℕ)) → (a ++ b) ++ c ≡ a ++ (b ++ c)
    append_twice [] b c = refl
    append_twice (x ∷ a) b c = ap (λ z. x ∷ z) (append_twice a b c)

-- ---- one row more, which may be there before
pub rows_pushed : (b : Bool) (old : List (List (Option Term))) (row : List (Option Term)) → KeepsRows b old (row ∷ []) (old ++ row ∷ [])
rows_pushed false old row = same_list (old ++ row ∷ []) (old ++ row ∷ []) refl
rows_pushed true old row = λ other. (λ h. has_append old (row ∷ []) other h, λ h. joined other h)
  where
    joined : (other : List (Option Term)) → Has old other ⊎ Has (row ∷ []) other → Has (old ++ row ∷ []) other
    joined other (inl h) = has_left old (row ∷ []) other h
    joined other (inr h) = has_right old (row ∷ []) other h

pub rows_repeated : (b : Bool) (old : List (List (Option Term))) (row : List (Option Term)) → b ≡ true → Has old row → KeepsRows b old (row ∷ []) old
rows_repeated false old row e h = absurd (true≢false (sym e))
rows_repeated true old row e h = λ other. (λ m. inl m, λ m. joined other m)
  where
    joined : (other : List (Option Term)) → Has old other ⊎ Has (row ∷ []) other → Has old other
    joined other (inl m) = m
    joined other (inr (inl e)) = subst (λ (z : List (Option Term)). Has old z) e h
    joined other (inr (inr n)) = absurd n

module _ (graph : GraphValue) (columns : List ℕ) (row : List (Option Term)) (rows : ℕ) (old new : List (Option ℕ)) (whole : length old ≡ rows * length columns)
    (adds : AddsRow graph columns row old new) where
  -- as many numbers as columns
  pub added_width : length adds.added ≡ length columns
  added_width = sym (length-map adds.added (option_and_then (term_numbered graph))) ∙ ap length adds.are ∙ length-map columns (λ variable. value_of variable row)

  pub lists_more : cut_rows (length columns) (rows + 1) new ≡ cut_rows (length columns) rows old ++ adds.added ∷ []
  lists_more =
      let one : rows + 1 ≡ suc rows = omega arith in
      ap (λ n. cut_rows (length columns) n new) one ∙ ap (cut_rows (length columns) (suc rows)) adds.behind ∙ cut_last (length columns) rows old adds.added whole added_width

  pub rows_put : (b : Bool) → KeepsRows b (rows_numbered graph (length columns) rows old) (project columns row ∷ []) (rows_numbered graph (length columns) (rows + 1) new)
  rows_put b =
      let before = rows_numbered graph (length columns) rows old in
      subst (λ (l : List (List (Option Term))). KeepsRows b before (project columns row ∷ []) l)
      (sym (ap (map (row_numbered graph)) lists_more ∙ map-append (row_numbered graph) (cut_rows (length columns) rows old) (adds.added ∷ []) ∙ ap (λ (z : List (Option Term)). before ++ z ∷ []) adds.are))
      (rows_pushed b before (project columns row))

  -- the last of them is the one in front of it
  pub rows_dropped : (b : Bool) (start : ℕ) → b ≡ true → start ≡ length old → 0 < rows
      → slice_index_or (cut_rows (length columns) (rows + 1) new) (rows - 1) [] ≡ slice_index_or (cut_rows (length columns) (rows + 1) new) rows []
      → KeepsRows b (rows_numbered graph (length columns) rows old) (project columns row ∷ []) (rows_numbered graph (length columns) rows (take start new))
  rows_dropped b start t s some same =
      let before = cut_rows (length columns) rows old in
      let long = cut_length (length columns) rows old in
      let near : rows - 1 < length before = omega (arith, long) in
      let last : get_or before (rows - 1) [] ≡ adds.added =
      sym (ap (λ (l : List (List (Option ℕ))). get_or l (rows - 1) []) lists_more ∙ get_or_append_left before (adds.added ∷ []) [] (rows - 1) near)
      ∙ same ∙ ap (λ (l : List (List (Option ℕ))). get_or l rows []) lists_more ∙ get_or_push before adds.added [] rows long in
      let there = has_image (row_numbered graph) before adds.added (subst (λ (z : List (Option ℕ)). Has before z) last (has_place before (rows - 1) [] near)) in
      let back : take start new ≡ old = ap (take start) adds.behind ∙ take_at old adds.added start (sym s) in
      subst (λ (l : List (Option ℕ)). KeepsRows b (rows_numbered graph (length columns) rows old) (project columns row ∷ []) (rows_numbered graph (length columns) rows l)) (sym back)
      (rows_repeated b (rows_numbered graph (length columns) rows old) (project columns row) t
      (subst (λ (z : List (Option Term)). Has (rows_numbered graph (length columns) rows old) z) adds.are there))
