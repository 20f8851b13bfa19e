-- Names that are sorted with their numbers give the columns.
use Rattle.std.proofs.Common.{◌≡◌, ◌∙◌, ℕ, zero, suc, ◌+◌, List, [], ◌∷◌, ◌++◌, All, Bor, length, get_or, map, refl, sym, ap, subst, arith}
use Rattle.std.specs.Cmp.Lexicographic.{slice_cmp}
use Rattle.std.specs.List.{range_with_len}
use Rattle.std.specs.List.Sorted.{IsPermutation, IsSortedBy}
use Rattle.std.specs.Ordering.{is_lt, nat_cmp}
use Rattle.std.proofs.lemmas.List.Elements.{All-push}
use Rattle.std.proofs.lemmas.List.Sorted.{All-permutation, IsPermutation-map}
use Rattle.jrql_rows.specs.ColumnOrder.{AreColumnsOf}
use Rattle.graph_index.proofs.Sorting.{view_sorted}

-- a range goes on at its end
range_goes_on : (first n : ℕ) → range_with_len first (suc n) ≡ range_with_len first n ++ (first + n) ∷ []
range_goes_on first zero = let e : first ≡ first + 0 = omega arith in ap (λ z. z ∷ []) e
range_goes_on first (suc n) =
    let e : first + 1 + n ≡ first + suc n = omega arith in
    ap (λ l. first ∷ l) (range_goes_on (first + 1) n ∙ ap (λ z. range_with_len (first + 1) n ++ z ∷ []) e)

pub range_more : (first n : ℕ) → range_with_len first (n + 1) ≡ range_with_len first n ++ (first + n) ∷ []
range_more first n = let e : n + 1 ≡ suc n = omega arith in ap (range_with_len first) e ∙ range_goes_on first n

pub columns_are : (names : List (List ℕ)) (hidden : ℕ) (pairs sorted : List (Bor (List ℕ) × ℕ)) (columns : List ℕ) → map (λ pair. pair.1) pairs ≡ range_with_len 0 (length names)
    → All (λ pair. pair.0.now ≡ get_or names pair.1 []) pairs → IsPermutation pairs sorted
    → IsSortedBy (λ pair other. is_lt (slice_cmp nat_cmp pair.0.now other.0.now)) sorted
    → columns ≡ map (λ pair. pair.1) sorted ++ range_with_len (length names) hidden → AreColumnsOf names hidden columns
columns_are names hidden pairs sorted columns numbers all moved up whole =
    let named = All-permutation (λ pair. pair.0.now ≡ get_or names pair.1 []) pairs sorted moved all in record {
      named = map (λ pair. pair.1) sorted;
      by_name = record {
        same = subst (λ l. IsPermutation l (map (λ pair. pair.1) sorted)) numbers (IsPermutation-map (λ pair. pair.1) pairs sorted moved);
        ascending = view_sorted (λ pair. pair.1) (λ left right. slice_cmp nat_cmp (get_or names left []) (get_or names right [])) sorted (by_number named);
      };
      whole = whole;
    }
  where
    by_number : All (λ pair. pair.0.now ≡ get_or names pair.1 []) sorted
        → IsSortedBy (λ pair other. is_lt (slice_cmp nat_cmp (get_or names pair.1 []) (get_or names other.1 []))) sorted
    by_number named k d low high =
        let one = named (k + 1) d high in
        let other = named k d (omega (arith, high)) in
        (λ i. is_lt (slice_cmp nat_cmp (sym one i) (sym other i))) ∙ up k d low high

-- one named variable more
pub one_more_named : (names : List (List ℕ)) (pairs new : List (Bor (List ℕ) × ℕ)) (pair : Bor (List ℕ) × ℕ) (number : ℕ) → new ≡ pairs ++ pair ∷ [] → pair.1 ≡ number
    → pair.0.now ≡ get_or names number [] → map (λ p. p.1) pairs ≡ range_with_len 0 number → All (λ p. p.0.now ≡ get_or names p.1 []) pairs
    → (map (λ p. p.1) new ≡ range_with_len 0 (number + 1)) × All (λ p. p.0.now ≡ get_or names p.1 []) new
one_more_named names pairs new pair number e is name numbers all = (
  ap (map (λ p. p.1)) e ∙ one_more_number pairs pair
      ∙ (λ i. numbers i ++ is i ∷ []) ∙ (let z : number ≡ 0 + number = omega arith in ap (λ n. range_with_len 0 number ++ n ∷ []) z) ∙ sym (range_more 0 number),
  subst (All (λ p. p.0.now ≡ get_or names p.1 [])) (sym e) (All-push (λ p. p.0.now ≡ get_or names p.1 []) pairs pair all (name ∙ ap (λ n. get_or names n []) (sym is))),
)
  where
    one_more_number : (pairs : List (Bor (List ℕ) × ℕ)) (pair : Bor (List ℕ) × ℕ) → map (λ p. p.1) (pairs ++ pair ∷ []) ≡ map (λ p. p.1) pairs ++ pair.1 ∷ []
    one_more_number [] pair = refl
    one_more_number (first ∷ pairs) pair = ap (λ l. first.1 ∷ l) (one_more_number pairs pair)
