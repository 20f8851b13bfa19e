-- Each list has a sorting; and lists with the same members are one list, once each is sorted and has each member once.
use Rattle.std.proofs.Common.{◌≡◌, ◌∙◌, zero, suc, ◌+◌, ◌<◌, ◌↔◌, List, [], ◌∷◌, Bool, true, false, cond, Option, length, get_or, refl, sym, subst, true≢false, arith}
use Rattle.std.specs.Cmp.{IsTotalOrder, eq_by_cmp_equiv}
use Rattle.std.specs.Cmp.Lexicographic.{slice_cmp}
use Rattle.std.specs.List.{dedup}
use Rattle.std.specs.List.Sorted.{IsPermutation, IsSorted}
use Rattle.std.specs.Ordering.{eq_by_cmp, is_lt, ordering_reverse}
use Rattle.std.specs.declared.cmp.Ordering.{Ordering}
use Rattle.std.specs.declared.cmp.Ordering.TheVariants.{Less, Equal, Greater}
use Rattle.std.proofs.lemmas.List.Sorted.{IsPermutation-refl, IsPermutation-trans, IsPermutation-append_left, IsPermutation-append_right, IsPermutation-append_comm}
use Rattle.std.proofs.lemmas.Map.Views.{tells_apart}
use Rattle.jrql_rows.specs.rdf_terms.declared.terms.Term.{Term}
use Rattle.jrql_rows.specs.tree_clock.Lists.{Has}
use Rattle.jrql_rows.proofs.of_mld_ops.AscendingLaws.{same_ascending}
use Rattle.jrql_rows.proofs.of_mld_ops.Keeping.{once_ascends, once_members}
use Rattle.jrql_rows.specs.jrql_ast.QueryAnswers.{IsSortingOf, distinct_rows, place_cmp, reply_place_cmp}
use Rattle.jrql_rows.proofs.of_jrql_ast.OneAnswer.{exact_list, exact_place, exact_reply_place, replies_total, values_total}
use Rattle.jrql_eval.proofs.DescribeLaws.{agree_tests, dedup_alike}

module _ {X : Type 0} (order : X → X → Ordering) (total : IsTotalOrder order) where
  -- no member in front is behind this one
  abbrev leads : X → List X → Type 0
  leads x xs = (d : X) → 0 < length xs → is_lt (order (get_or xs 0 d) x) ≡ false

  led_sorted : (x : X) (xs : List X) → leads x xs → IsSorted order xs → IsSorted order (x ∷ xs)
  led_sorted x xs first s zero d l g = first d (omega (arith, g))
  led_sorted x xs first s (suc k) d l g =
      let e : suc k + 1 ≡ suc (k + 1) = omega arith in
      rw e (s k d (omega arith) (omega (arith, g)))

  rest_sorted : (x : X) (xs : List X) → IsSorted order (x ∷ xs) → IsSorted order xs
  rest_sorted x xs h k d l g =
      let e : suc k + 1 ≡ suc (k + 1) = omega arith in
      subst (λ n. is_lt (order (get_or (x ∷ xs) n d) (get_or xs k d)) ≡ false) e (h (suc k) d (omega arith) (omega (arith, g)))

  turned : (x y : X) → is_lt (order y x) ≡ true → is_lt (order x y) ≡ false
  turned x y h = by (order y x) (order x y) (total.antisymm x y) h
    where
      by : (o p : Ordering) → p ≡ ordering_reverse o → is_lt o ≡ true → is_lt p ≡ false
      by Less p e t = subst (λ q. is_lt q ≡ false) (sym e) refl
      by Equal p e t = absurd (true≢false (sym t))
      by Greater p e t = absurd (true≢false (sym t))

  -- a sorted list with one more
  put_in : X → List X → List X
  put_in x [] = x ∷ []
  put_in x (y ∷ ys) = cond (is_lt (order y x)) (y ∷ put_in x ys) (x ∷ y ∷ ys)

  leads_put : (y x : X) (ys : List X) → is_lt (order x y) ≡ false → leads y ys → leads y (put_in x ys)
  unfolding put_in
  leads_put y x [] h first d l = h
  leads_put y x (z ∷ zs) h first d l = by (is_lt (order z x))
    where
      by : (b : Bool) → is_lt (order (get_or (cond b (z ∷ put_in x zs) (x ∷ z ∷ zs)) 0 d) y) ≡ false
      by true = first d (omega arith)
      by false = h

  put_sorted : (x : X) (xs : List X) → IsSorted order xs → IsSorted order (put_in x xs)
  unfolding put_in
  put_sorted x [] s = led_sorted x [] (λ d l. absurd (omega (arith, l))) s
  put_sorted x (y ∷ ys) s = by (is_lt (order y x)) refl (put_sorted x ys (rest_sorted y ys s))
    where
      by : (b : Bool) → is_lt (order y x) ≡ b → IsSorted order (put_in x ys) → IsSorted order (cond b (y ∷ put_in x ys) (x ∷ y ∷ ys))
      by true e later = led_sorted y (put_in x ys) (leads_put y x ys (turned x y e) (λ d l. s 0 d (omega arith) (omega (arith, l)))) later
      by false e later = led_sorted x (y ∷ ys) (λ d l. e) s

  put_permutes : (x : X) (xs : List X) → IsPermutation (x ∷ xs) (put_in x xs)
  unfolding put_in
  put_permutes x [] = IsPermutation-refl (x ∷ [])
  put_permutes x (y ∷ ys) = by (is_lt (order y x)) (put_permutes x ys)
    where
      by : (b : Bool) → IsPermutation (x ∷ ys) (put_in x ys) → IsPermutation (x ∷ y ∷ ys) (cond b (y ∷ put_in x ys) (x ∷ y ∷ ys))
      by true p =
          IsPermutation-trans (x ∷ y ∷ ys) (y ∷ x ∷ ys) (y ∷ put_in x ys)
          (IsPermutation-append_left ys (x ∷ y ∷ []) (y ∷ x ∷ []) (IsPermutation-append_comm (x ∷ []) (y ∷ [])))
          (IsPermutation-append_right (y ∷ []) (x ∷ ys) (put_in x ys) p)
      by false p = IsPermutation-refl (x ∷ y ∷ ys)

  pub sorting_there : (xs : List X) → (ys : List X) × IsSortingOf order xs ys
  sorting_there [] = ([], record { same = IsPermutation-refl []; ascending = λ k d l g. absurd (omega (arith, g)) })
  sorting_there (x ∷ xs) =
      let rest = sorting_there xs in
      let s = rest.1 in (
        put_in x rest.0,
        record {
          same = IsPermutation-trans (x ∷ xs) (x ∷ rest.0) (put_in x rest.0) (IsPermutation-append_right (x ∷ []) xs rest.0 s.same) (put_permutes x rest.0);
          ascending = put_sorted x rest.0 s.ascending;
        },
      )

-- rows that are the same in one order are so in the other
same_rows : (row other : List (Option Term)) → eq_by_cmp (slice_cmp place_cmp) row other ≡ eq_by_cmp (slice_cmp reply_place_cmp) row other
same_rows row other =
    agree_tests (eq_by_cmp (slice_cmp place_cmp) row other) (eq_by_cmp (slice_cmp reply_place_cmp) row other)
    (λ h. subst (λ (z : List (Option Term)). eq_by_cmp (slice_cmp reply_place_cmp) row z ≡ true) (tells_apart (exact_list place_cmp exact_place) row other h) ((eq_by_cmp_equiv replies_total).refl row))
    (λ h. subst (λ (z : List (Option Term)). eq_by_cmp (slice_cmp place_cmp) row z ≡ true) (tells_apart (exact_list reply_place_cmp exact_reply_place) row other h) ((eq_by_cmp_equiv values_total).refl row))

-- sorted lists of rows with the same members, each once
pub one_distinct : (rows others : List (List (Option Term))) → IsSorted (slice_cmp reply_place_cmp) rows → IsSorted (slice_cmp reply_place_cmp) others
    → ((row : List (Option Term)) → Has rows row ↔ Has others row) → distinct_rows true rows ≡ distinct_rows true others
one_distinct rows others s t same =
    let order = slice_cmp reply_place_cmp in
    let exact = exact_list reply_place_cmp exact_reply_place in
    let alike = dedup_alike (eq_by_cmp (slice_cmp place_cmp)) (eq_by_cmp order) same_rows in
    alike rows
    ∙ same_ascending order replies_total exact (dedup (eq_by_cmp order) rows) (dedup (eq_by_cmp order) others)
    (once_ascends order replies_total exact rows s) (once_ascends order replies_total exact others t)
    (λ row h. (once_members order replies_total exact others row).1 ((same row).0 ((once_members order replies_total exact rows row).0 h)))
    (λ row h. (once_members order replies_total exact rows row).1 ((same row).1 ((once_members order replies_total exact others row).0 h)))
    ∙ sym (alike others)
