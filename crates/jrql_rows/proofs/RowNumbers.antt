-- Rows that stand one behind the other, and the rows of a list by their numbers.
use Rattle.std.proofs.Common.{◌≡◌, ◌∙◌, ℕ, zero, suc, ◌+◌, ◌*◌, ◌-◌, ◌<◌, ◌≤◌, List, [], ◌∷◌, ◌++◌, Option, None, Result, Ok, Err, IfOk, OnOk, slice_index_or, length, get_or, map, take, drop, refl, sym, ap, subst, inl, inr, arith, take_all}
use Rattle.std.proofs.Math.Nat.{mul-le-mul_right, suc-mul, zero-mul}
use Rattle.std.proofs.lemmas.List.{drop-append-le, drop-drop, length-drop, length-map, nil_from_length, take-append-le}
use Rattle.std.proofs.lemmas.List.FromFn.{fill_by_all}
use Rattle.std.proofs.lemmas.List.Sorted.{IsPermutation-map}
use Rattle.std.specs.List.{range_with_len}
use Rattle.std.specs.List.Sorted.{IsPermutation, IsSortedBy}
use Rattle.std.specs.Option.{option_and_then}
use Rattle.std.specs.Ordering.{is_lt}
use Rattle.std.specs.declared.cmp.Ordering.{Ordering}
use Rattle.rdf_terms.specs.declared.terms.Term.{Term}
use Rattle.graph_index.specs.hinted_chunks.tree_clock.Lists.{Has}
use Rattle.graph_index.specs.Graphs.{GraphValue}
use Rattle.graph_index.specs.Numbered.{term_numbered}
use Rattle.graph_index.proofs.Sorting.{view_sorted}
use Rattle.jrql_ast.specs.QueryAnswers.{IsSortingOf}
use Rattle.jrql_ast.specs.Solutions.{value_of}
use Rattle.jrql_rows.specs.Bindings.{row_numbered}
use Rattle.jrql_rows.specs.KeptValues.{cut_rows, row_at, rows_at, rows_numbered}

-- a row of so many lies within them
pub row_within : (row rows width n : ℕ) → row < rows → n ≡ rows * width → row * width + width ≤ n
row_within row rows width n l e =
    let up : suc row * width ≤ rows * width = mul-le-mul_right width (omega (arith, l)) in
    let next = suc-mul row width in
    omega (arith, up, next, e)

module _ {X : Type 0} where
  pub cut_length : (width rows : ℕ) (places : List X) → length (cut_rows width rows places) ≡ rows
  cut_length width zero places = refl
  cut_length width (suc rows) places = ap suc (cut_length width rows (drop width places))

  -- where a row stands
  pub cut_at : (width rows : ℕ) (places : List X) (row : ℕ) → row < rows → slice_index_or (cut_rows width rows places) row [] ≡ take width (drop (row * width) places)
  cut_at width zero places row l = absurd (omega (arith, l))
  cut_at width (suc rows) places zero l = ap (λ n. take width (drop n places)) (sym (zero-mul width))
  cut_at width (suc rows) places (suc row) l =
      let next = suc-mul row width in
      let far : width + row * width ≡ suc row * width = omega (arith, next) in
      cut_at width rows (drop width places) row (omega (arith, l)) ∙ ap (take width) (drop-drop (row * width) width places ∙ ap (λ n. drop n places) far)

  -- one row more
  pub cut_last : (width rows : ℕ) (old row : List X) → length old ≡ rows * width → length row ≡ width → cut_rows width (suc rows) (old ++ row) ≡ cut_rows width rows old ++ row ∷ []
  cut_last width zero old row e f =
      let none : length old ≡ 0 = e ∙ zero-mul width in
      ap (λ (l : List X). l ∷ []) (ap (λ (o : List X). take width (o ++ row)) (nil_from_length old none) ∙ take_all width row (omega (arith, f)))
  cut_last width (suc rows) old row e f =
      let next = suc-mul rows width in
      let fits : width ≤ length old = omega (arith, e, next) in
      let short : length (drop width old) ≡ rows * width = length-drop width old ∙ omega (arith, e, next) in
      let behind = ap (cut_rows width (suc rows)) (drop-append-le width old row fits) ∙ cut_last width rows (drop width old) row short f in
      λ i. take-append-le width old row fits i ∷ behind i

  pub has_place : (xs : List X) (i : ℕ) (d : X) → i < length xs → Has xs (get_or xs i d)
  has_place [] i d l = absurd (omega (arith, l))
  has_place (x ∷ xs) zero d l = inl refl
  has_place (x ∷ xs) (suc i) d l = inr (has_place xs i d (omega (arith, l)))

  -- a list is what its places have
  pub each_place : (xs : List X) (d : X) → xs ≡ map (λ i. get_or xs i d) (range_with_len 0 (length xs))
  each_place xs d = fill_by_all (λ i. get_or xs i d) xs (length xs) d refl (λ k l. refl)

-- the row of the numbers of a place
pub row_got : (graph : GraphValue) (lists : List (List (Option ℕ))) (i : ℕ) → row_numbered graph (slice_index_or lists i []) ≡ row_at (map (row_numbered graph) lists) i
row_got graph [] i = refl
row_got graph (list ∷ lists) zero = refl
row_got graph (list ∷ lists) (suc i) = row_got graph lists i

-- the value of a variable
pub value_numbered : (graph : GraphValue) (numbers : List (Option ℕ)) (variable : ℕ) → value_of variable (row_numbered graph numbers) ≡ option_and_then (term_numbered graph) (slice_index_or numbers variable None)
value_numbered graph [] variable = refl
value_numbered graph (n ∷ numbers) zero = refl
value_numbered graph (n ∷ numbers) (suc variable) = value_numbered graph numbers variable

pub rows_length : (graph : GraphValue) (width rows : ℕ) (numbers : List (Option ℕ)) → length (rows_numbered graph width rows numbers) ≡ rows
rows_length graph width rows numbers = length-map (cut_rows width rows numbers) (row_numbered graph) ∙ cut_length width rows numbers

-- all rows by their numbers, sorted
pub rows_sorted : (order : List (Option Term) → List (Option Term) → Ordering) (rows : List (List (Option Term))) (count : ℕ) (old sorted : List ℕ) → count ≡ length rows → old ≡ range_with_len 0 count
    → IsPermutation old sorted → IsSortedBy (λ a b. is_lt (order (row_at rows a) (row_at rows b))) sorted → IsSortingOf order rows (rows_at rows sorted)
rows_sorted order rows count old sorted e all same up =
    let are : rows_at rows old ≡ rows = ap (rows_at rows) (all ∙ ap (range_with_len 0) e) ∙ sym (each_place rows []) in
    record {
      same = subst (λ (l : List (List (Option Term))). IsPermutation l (rows_at rows sorted)) are (IsPermutation-map (row_at rows) old sorted same);
      ascending = view_sorted (row_at rows) order sorted up;
    }
