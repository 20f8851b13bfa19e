-- How often rows stand in the lists of a watch, before and behind a change.
use Rattle.std.proofs.Common.{◌≡◌, ◌∙◌, ℕ, ◌+◌, ◌-◌, ◌<◌, ◌≤◌, min, List, [], ◌∷◌, ◌++◌, length, map, Bool, true, false, cond, Option, refl, sym, ap, subst, inl, inr, true≢false, length-append, arith}
use Rattle.std.specs.Cmp.Lexicographic.{slice_cmp}
use Rattle.std.specs.List.{AllByRecursion, dedup, dedup_from}
use Rattle.std.specs.List.Sorted.{IsPermutation, IsSorted}
use Rattle.std.specs.Ordering.{eq_by_cmp, is_eq}
use Rattle.std.specs.declared.cmp.Ordering.{Ordering}
use Rattle.std.specs.declared.cmp.Ordering.TheVariants.{Less, Equal}
use Rattle.std.proofs.lemmas.Cmp.{tied_itself}
use Rattle.std.proofs.lemmas.List.{length-map, map-append}
use Rattle.std.proofs.lemmas.List.Sorted.{IsPermutation-map, IsPermutation-sym, IsPermutation-trans, length_permutation}
use Rattle.rdf_terms.specs.declared.terms.Term.{Term}
use Rattle.tree_clock.specs.Lists.{IsAscending, IsBelowAll}
use Rattle.mld_ops.proofs.Keeping.{once_ascends}
use Rattle.jrql_ast.specs.QueryAnswers.{IsSortingOf, distinct_rows, project}
use Rattle.jrql_eval.proofs.DescribeLaws.{dedup_alike}
use Rattle.reply_rows.specs.Times.{is_same_row, times}
use Rattle.reply_rows.specs.Rising.{IsUpto, IsRising, row_order}
use Rattle.watch_laws.proofs.Members.{same_tests}
use Rattle.reply_rows.proofs.Filtered.{all_weaker}
use Rattle.reply_rows.proofs.Risen.{below_upto, often_append, often_none, often_other, often_permuted, often_same, one_rising, permuted_by_often, rising_from_sorted, same_or, sorted_from_rising, upto_other, below_then, below_apart, upto_trans}
use Rattle.reply_rows.proofs.RowLaws.{rows_decide, rows_exact, rows_total, told_equal}

abbrev pub Row : Type 0
Row = List (Option Term)

-- ---- what is sorted

pub rising_of : (given sorted : List Row) → IsSortingOf row_order given sorted → IsRising row_order sorted
rising_of given sorted s = rising_from_sorted is_same_row rows_decide row_order rows_total rows_exact sorted s.ascending

pub times_of : (row : Row) (given sorted : List Row) → IsSortingOf row_order given sorted → times row sorted ≡ times row given
times_of row given sorted s = sym (often_permuted is_same_row rows_decide row given sorted s.same)

pub length_of : (given sorted : List Row) → IsSortingOf row_order given sorted → length sorted ≡ length given
length_of given sorted s = length_permutation given sorted s.same

pub sorting_by_times : (given rows : List Row) → IsRising row_order rows → ((row : Row) → times row given ≡ times row rows) → IsSortingOf row_order given rows
sorting_by_times given rows up same = record {
  same = permuted_by_often is_same_row rows_decide given rows same;
  ascending = sorted_from_rising is_same_row rows_decide row_order rows_total rows_exact rows up;
}

-- a sorting of one order of a list is one of another
pub sorting_moved : (given moved sorted : List Row) → IsPermutation given moved → IsSortingOf row_order moved sorted → IsSortingOf row_order given sorted
sorting_moved given moved sorted p s = record { same = IsPermutation-trans given moved sorted p s.same; ascending = s.ascending }

-- values of rows that are parted
pub times_parted : (f : Row → Row) (row : Row) (whole rest part values : List Row) → IsPermutation whole (rest ++ part) → IsSortingOf row_order (map f whole) values
    → times row values ≡ times row (map f rest) + times row (map f part)
times_parted f row whole rest part values p s =
    times_of row (map f whole) values s
    ∙ often_permuted is_same_row rows_decide row (map f whole) (map f (rest ++ part)) (IsPermutation-map f whole (rest ++ part) p)
    ∙ ap (times row) (map-append f rest part)
    ∙ often_append is_same_row rows_decide row (map f rest) (map f part)

pub length_parted : (f : Row → Row) (whole rest part values : List Row) → IsPermutation whole (rest ++ part) → IsSortingOf row_order (map f whole) values
    → length values ≡ length rest + length part
length_parted f whole rest part values p s =
    length_of (map f whole) values s ∙ length-map whole f ∙ sym (length_permutation whole (rest ++ part) p) ∙ length-append rest part

-- ---- values that are lost and gained

-- with the rows that stay, how often a row is among the values before and behind, among those that come and go, and in a list that they change
numbers : (r l g v n come go : ℕ) → v ≡ r + l → come ≡ g - l → go ≡ l - g → n ≡ (v - go) + come → n ≡ r + g
numbers r l g v n come go a b c d = omega (arith, a, b, c, d)

module _ (f : Row → Row) (found next rest lost_rows gained_rows : List Row) (values lost gained come go moved : List Row)
    (old_parts : IsPermutation found (rest ++ lost_rows)) (new_parts : IsPermutation next (rest ++ gained_rows))
    (values_are : IsSortingOf row_order (map f found) values) (lost_are : IsSortingOf row_order (map f lost_rows) lost) (gained_are : IsSortingOf row_order (map f gained_rows) gained)
    (comes : (row : Row) → times row come ≡ times row gained - times row lost) (goes : (row : Row) → times row go ≡ times row lost - times row gained)
    (moves : (row : Row) → times row moved ≡ (times row values - times row go) + times row come) where
  -- the values before and behind
  pub before : (row : Row) → times row values ≡ times row (map f rest) + times row lost
  before row = times_parted f row found rest lost_rows values old_parts values_are ∙ ap (λ n. times row (map f rest) + n) (sym (times_of row (map f lost_rows) lost lost_are))

  pub behind : (row : Row) → times row moved ≡ times row (map f rest) + times row gained
  behind row =
      numbers (times row (map f rest)) (times row lost) (times row gained) (times row values) (times row moved) (times row come) (times row go)
      (before row) (comes row) (goes row) (moves row)

  next_times : (row : Row) → times row (map f next) ≡ times row (map f rest) + times row gained
  next_times row =
      often_permuted is_same_row rows_decide row (map f next) (map f (rest ++ gained_rows)) (IsPermutation-map f next (rest ++ gained_rows) new_parts)
      ∙ ap (times row) (map-append f rest gained_rows)
      ∙ often_append is_same_row rows_decide row (map f rest) (map f gained_rows)
      ∙ ap (λ n. times row (map f rest) + n) (sym (times_of row (map f gained_rows) gained gained_are))

  -- the list is the values behind
  pub moved_values : IsRising row_order moved → IsSortingOf row_order (map f next) moved
  moved_values up = sorting_by_times (map f next) moved up (λ row. next_times row ∙ sym (behind row))

-- and their number
pub next_length : (f : Row → Row) (found next rest lost_rows gained_rows values lost gained : List Row) → IsPermutation found (rest ++ lost_rows) → IsPermutation next (rest ++ gained_rows)
    → IsSortingOf row_order (map f found) values → IsSortingOf row_order (map f lost_rows) lost → IsSortingOf row_order (map f gained_rows) gained
    → length next ≡ (length values - length lost) + length gained
next_length f found next rest lost_rows gained_rows values lost gained p q v l g =
    let a = length_parted f found rest lost_rows values p v in
    let b = length_of (map f lost_rows) lost l ∙ length-map lost_rows f in
    let c = length_of (map f gained_rows) gained g ∙ length-map gained_rows f in
    let d = sym (length_permutation next (rest ++ gained_rows) q) ∙ length-append rest gained_rows in
    omega (arith, a, b, c, d)

-- those that are lost are no more than those that were
pub lost_length : (f : Row → Row) (found rest lost_rows values lost : List Row) → IsPermutation found (rest ++ lost_rows) → IsSortingOf row_order (map f found) values
    → IsSortingOf row_order (map f lost_rows) lost → length lost ≤ length values
lost_length f found rest lost_rows values lost p v l =
    let a = length_parted f found rest lost_rows values p v in
    let b = length_of (map f lost_rows) lost l ∙ length-map lost_rows f in
    omega (arith, a, b)

-- ---- each value once

same_alike : (x y : Row) → is_same_row x y ≡ eq_by_cmp row_order x y
same_alike x y = same_tests (is_same_row x y) (eq_by_cmp row_order x y)
    (λ e. ap is_eq (ap (row_order x) (sym ((rows_decide x y).0 e)) ∙ tied_itself rows_total x))
    (λ e. (rows_decide x y).1 (rows_exact x y (told_equal (row_order x y) e)))

below_rising : (x : Row) (xs : List Row) → IsBelowAll row_order x xs → AllByRecursion (IsUpto row_order x) xs
below_rising x [] b = tt
below_rising x (y ∷ ys) b = (below_upto is_same_row rows_decide row_order rows_total rows_exact x y b.0, below_rising x ys b.1)

ascending_rising : (xs : List Row) → IsAscending row_order xs → IsRising row_order xs
ascending_rising [] up = tt
ascending_rising (x ∷ xs) up = (below_rising x xs up.0, ascending_rising xs up.1)

pub once_rising : (values : List Row) → IsRising row_order values → IsRising row_order (distinct_rows true values)
once_rising values up =
    subst (IsRising row_order) (sym (dedup_alike is_same_row (eq_by_cmp row_order) same_alike values))
    (ascending_rising (dedup (eq_by_cmp row_order) values) (once_ascends row_order rows_total rows_exact values (sorted_from_rising is_same_row rows_decide row_order rows_total rows_exact values up)))

least : (n : ℕ) → 0 < n → min 1 n ≡ 1
least n h = omega (arith, h)

once_from : (k : Row) (xs : List Row) → IsRising row_order (k ∷ xs) → (row : Row) → times row (dedup_from is_same_row k xs) ≡ min 1 (times row (k ∷ xs))
once_from k [] up row = elim (same_or is_same_row rows_decide row k) [
  | inl e ↦ (let f = often_same is_same_row rows_decide row k [] e in omega (arith, f))
  | inr n ↦ (let f = often_other is_same_row rows_decide row k [] n in omega (arith, f))
]
once_from k (y ∷ ys) up row = by (is_same_row y k) refl (once_from k ys (up.0.1, up.1.1) row) (once_from y ys up.1 row)
  where
    by : (b : Bool) → is_same_row y k ≡ b → times row (dedup_from is_same_row k ys) ≡ min 1 (times row (k ∷ ys)) → times row (dedup_from is_same_row y ys) ≡ min 1 (times row (y ∷ ys))
        → times row (cond b (dedup_from is_same_row k ys) (k ∷ dedup_from is_same_row y ys)) ≡ min 1 (times row (k ∷ y ∷ ys))
    by true e kept other =
        let same = (rows_decide y k).0 e in
        elim (same_or is_same_row rows_decide row k) [
          | inl s ↦ (
              let f = often_same is_same_row rows_decide row k ys s in
              let g = often_same is_same_row rows_decide row k (y ∷ ys) s in
              omega (arith, kept, f, g))
          | inr n ↦ (
              let f = often_other is_same_row rows_decide row k ys n in
              let g = often_other is_same_row rows_decide row k (y ∷ ys) n in
              let h = often_other is_same_row rows_decide row y ys (λ s. n (s ∙ same)) in
              omega (arith, kept, f, g, h))
        ]
    by false e kept other =
        let apart : k ≡ y → ⊥ = λ s. true≢false (sym ((rows_decide y k).1 (sym s)) ∙ e) in
        let less = upto_other is_same_row rows_decide row_order rows_total rows_exact k y up.0.0 apart in
        elim (same_or is_same_row rows_decide row k) [
          | inl s ↦ (
              let f = often_same is_same_row rows_decide row k (dedup_from is_same_row y ys) s in
              let g = often_same is_same_row rows_decide row k (y ∷ ys) s in
              let above : AllByRecursion (λ z. k ≡ z → ⊥) (y ∷ ys) =
              (apart, all_weaker (IsUpto row_order y) (λ z. k ≡ z → ⊥) (λ z u t. below_apart is_same_row rows_decide row_order rows_total rows_exact k z (below_then is_same_row rows_decide row_order rows_total rows_exact k y z less u) (sym t)) ys up.1.0) in
              let z = often_none is_same_row rows_decide row (y ∷ ys) (subst (λ w. AllByRecursion (λ z. w ≡ z → ⊥) (y ∷ ys)) (sym s) above) in
              omega (arith, other, f, g, z))
          | inr n ↦ (
              let f = often_other is_same_row rows_decide row k (dedup_from is_same_row y ys) n in
              let g = often_other is_same_row rows_decide row k (y ∷ ys) n in
              omega (arith, other, f, g))
        ]

pub once_times : (values : List Row) → IsRising row_order values → (row : Row) → times row (distinct_rows true values) ≡ min 1 (times row values)
once_times [] up row = omega arith
once_times (k ∷ xs) up row = once_from k xs up row

-- so a rising list in which each value stands once is that
pub is_once : (values once : List Row) → IsRising row_order values → IsRising row_order once → ((row : Row) → times row once ≡ min 1 (times row values)) → once ≡ distinct_rows true values
is_once values once up also same =
    one_rising is_same_row rows_decide row_order rows_total rows_exact once (distinct_rows true values) also (once_rising values up) (λ row. same row ∙ sym (once_times values up row))

-- fewer than the values
pub once_length : (values : List Row) → length (distinct_rows true values) ≤ length values
once_length [] = omega arith
once_length (k ∷ xs) = from k xs
  where
    from : (k : Row) (xs : List Row) → length (dedup_from is_same_row k xs) ≤ length (k ∷ xs)
    from k [] = omega arith
    from k (y ∷ ys) = by (is_same_row y k) (from k ys) (from y ys)
      where
        by : (b : Bool) → length (dedup_from is_same_row k ys) ≤ length (k ∷ ys) → length (dedup_from is_same_row y ys) ≤ length (y ∷ ys)
            → length (cond b (dedup_from is_same_row k ys) (k ∷ dedup_from is_same_row y ys)) ≤ length (k ∷ y ∷ ys)
        by true h g = omega (arith, h)
        by false h g = omega (arith, g)

-- ---- reports

-- where each value counts, what comes and what goes is how often a row stands more or less
pub more_of : (r l g : ℕ) → g - l ≡ (r + g) - (r + l)
more_of r l g = omega arith

-- where each counts once
pub more_once : (r l g : ℕ) → min 1 (g - l) - min 1 (r + l) ≡ min 1 (r + g) - min 1 (r + l)
more_once r l g = omega arith

pub fewer_once : (r l g : ℕ) → min 1 (l - g) - (r + g) ≡ min 1 (r + l) - min 1 (r + g)
fewer_once r l g = omega arith

pub moved_once : (a b : ℕ) → (a - (a - b)) + (b - a) ≡ b
moved_once a b = omega arith

-- ---- what is made

-- what rows have for variables, sorted, where they are rows that were sought in whatever order
pub projected : (variables other : List ℕ) (given rows lent values : List Row) → other ≡ variables → IsPermutation given rows → lent ≡ rows → IsSortingOf row_order (map (project other) lent) values
    → IsSortingOf row_order (map (project variables) given) values
projected variables other given rows lent values v p l s =
    sorting_moved (map (project variables) given) (map (project variables) rows) values (IsPermutation-map (project variables) given rows p)
    (subst (λ w. IsSortingOf row_order (map (project w) rows) values) v (subst (λ r. IsSortingOf row_order (map (project other) r) values) l s))

-- each value once, where none is known
pub once_made : (values copies once : List Row) → copies ≡ values → IsRising row_order values → IsRising row_order once → ((row : Row) → times row once ≡ min 1 (times row copies) - times row [])
    → once ≡ distinct_rows true values
once_made values copies once e up also same =
    is_once values once up also (λ row. let s = same row in let c = ap (λ l. min 1 (times row l)) e in omega (arith, s, c))
