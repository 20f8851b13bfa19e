-- Pairs that are put in order one by one: the list ascends and has the same pairs, and no fewer where none stood twice.
use Rattle.std.proofs.Common.{◌≡◌, ◌∙◌, ℕ, suc, List, [], ◌∷◌, Bool, true, false, length, map, ◌↔◌, ◌⊎◌, cond, refl, sym, subst, ap, inl, inr}
use Rattle.std.proofs.lemmas.List.Sorted.{IsPermutation-map}
use Rattle.std.specs.List.{filter}
use Rattle.std.specs.List.Sorted.{IsPermutation, IsSortedBy}
use Rattle.std.specs.Ordering.{is_lt}
use Rattle.std.specs.declared.cmp.Ordering.{Ordering}
use Rattle.std.specs.declared.cmp.Ordering.TheVariants.{Less, Equal, Greater}
use Rattle.tree_clock.specs.Lists.{Has, IsAscending}
use Rattle.mld_ops.specs.declared.pair_lists.PairRow.{PairRow}
use Rattle.mld_ops.specs.declared.tagged.Tagged.{Tagged}
use Rattle.mld_ops.specs.PairLists.{row_pair, rows_pairs}
use Rattle.mld_ops.specs.Tagged.{tagged_cmp}
use Rattle.mld_ops.proofs.AscendingLaws.{below_member, below_from_members, below_all_after, same_ascending}
use Rattle.mld_ops.proofs.TaggedLaws.{tagged_total, tagged_exact}
use Rattle.graph_index.specs.Graphs.{put_by, with_pair, in_order_of}
use Rattle.graph_index.specs.Matching.{HasNoRepeat}
use Rattle.pair_orders.specs.PairEntries.{StandOnce}
use Rattle.graph_index.proofs.Sorting.{same_members, sorted_once, view_ascends, view_sorted}

-- ---- the members

with_members : (pair : Tagged) (xs : List Tagged) (other : Tagged) → Has (with_pair pair xs) other ↔ ((other ≡ pair) ⊎ Has xs other)
with_members pair [] other = (
  λ h. elim h [ inl e ↦ inl (sym e) | inr n ↦ absurd n ],
  λ h. elim h [ inl e ↦ inl (sym e) | inr n ↦ absurd n ],
)
with_members pair (first ∷ rest) other = by (tagged_cmp pair first) (λ e. tagged_exact pair first e) (with_members pair rest other)
  where
    by : (o : Ordering) → (o ≡ Equal → pair ≡ first) → (Has (with_pair pair rest) other ↔ ((other ≡ pair) ⊎ Has rest other))
        → Has (put_by o (pair ∷ first ∷ rest) (first ∷ rest) (first ∷ with_pair pair rest)) other ↔ ((other ≡ pair) ⊎ Has (first ∷ rest) other)
    by Less same tail = (
      λ h. elim h [ inl e ↦ inl (sym e) | inr k ↦ inr k ],
      λ h. elim h [ inl e ↦ inl (sym e) | inr k ↦ inr k ],
    )
    by Equal same tail = (
      λ h. inr h,
      λ h. elim h [ inl e ↦ inl (sym (same refl) ∙ sym e) | inr k ↦ k ],
    )
    by Greater same tail = (
      λ h. elim h [ inl e ↦ inr (inl e) | inr k ↦ elim (tail.0 k) [ inl e ↦ inl e | inr m ↦ inr (inr m) ] ],
      λ h. elim h [ inl e ↦ inr (tail.1 (inl e)) | inr k ↦ elim k [ inl e ↦ inl e | inr m ↦ inr (tail.1 (inr m)) ] ],
    )

pub order_members : (xs : List Tagged) (pair : Tagged) → Has (in_order_of xs) pair ↔ Has xs pair
order_members [] pair = (λ h. h, λ h. h)
order_members (x ∷ xs) pair = (
  λ h. elim ((with_members x (in_order_of xs) pair).0 h) [ inl e ↦ inl (sym e) | inr k ↦ inr ((order_members xs pair).0 k) ],
  λ h. (with_members x (in_order_of xs) pair).1 (elim h [ inl e ↦ inl (sym e) | inr k ↦ inr ((order_members xs pair).1 k) ]),
)

-- ---- the order

above : (x y : Tagged) → tagged_cmp y x ≡ Greater → tagged_cmp x y ≡ Less
above x y h = let e = tagged_total.antisymm x y in cc

with_ascends : (pair : Tagged) (xs : List Tagged) → IsAscending tagged_cmp xs → IsAscending tagged_cmp (with_pair pair xs)
with_ascends pair [] a = (tt, tt)
with_ascends pair (first ∷ rest) a = by (tagged_cmp pair first) (λ e. e) (λ e. e) (with_ascends pair rest a.1)
  where
    by : (o : Ordering) → (o ≡ Less → tagged_cmp pair first ≡ Less) → (o ≡ Greater → tagged_cmp pair first ≡ Greater) → IsAscending tagged_cmp (with_pair pair rest)
        → IsAscending tagged_cmp (put_by o (pair ∷ first ∷ rest) (first ∷ rest) (first ∷ with_pair pair rest))
    by Less low high tail = ((low refl, below_all_after tagged_cmp tagged_total pair first rest (low refl) a.0), a)
    by Equal low high tail = a
    by Greater low high tail = (
      below_from_members tagged_cmp first (with_pair pair rest) (λ y h. elim ((with_members pair rest y).0 h) [
        | inl e ↦ subst (λ (w : Tagged). tagged_cmp first w ≡ Less) (sym e) (above first pair (high refl))
        | inr k ↦ below_member tagged_cmp first rest y a.0 k
      ]),
      tail,
    )

pub order_ascends : (xs : List Tagged) → IsAscending tagged_cmp (in_order_of xs)
order_ascends [] = tt
order_ascends (x ∷ xs) = with_ascends x (in_order_of xs) (order_ascends xs)

-- an ascending list of the same pairs is the one that is put in order
pub order_is : (xs ys : List Tagged) → IsAscending tagged_cmp ys → ((pair : Tagged) → Has ys pair ↔ Has xs pair) → ys ≡ in_order_of xs
order_is xs ys a same =
    same_ascending tagged_cmp tagged_total tagged_exact ys (in_order_of xs) a (order_ascends xs)
    (λ pair h. (order_members xs pair).1 ((same pair).0 h)) (λ pair h. (same pair).1 ((order_members xs pair).0 h))

-- lists of the same pairs are one list, once they are in order
pub same_order : (xs ys : List Tagged) → ((pair : Tagged) → Has ys pair ↔ Has xs pair) → in_order_of ys ≡ in_order_of xs
same_order xs ys same =
    order_is xs (in_order_of ys) (order_ascends ys) (λ pair. (
      λ h. (same pair).0 ((order_members ys pair).0 h),
      λ h. (order_members ys pair).1 ((same pair).1 h),
    ))

-- ---- how many pass a test

with_count : (test : Tagged → Bool) (pair : Tagged) (xs : List Tagged) → ¬ Has xs pair → length (filter test (with_pair pair xs)) ≡ length (filter test (pair ∷ xs))
with_count test pair [] new = refl
with_count test pair (first ∷ rest) new = by (tagged_cmp pair first) (λ e. tagged_exact pair first e) (with_count test pair rest (λ h. new (inr h)))
  where
    swap : (p q : Bool) (xs ys : List Tagged) → length xs ≡ length (cond p (pair ∷ ys) ys) → length (cond q (first ∷ xs) xs) ≡ length (cond p (pair ∷ (cond q (first ∷ ys) ys)) (cond q (first ∷ ys) ys))
    swap true true xs ys e = ap (λ n. suc n) e
    swap true false xs ys e = e
    swap false true xs ys e = ap (λ n. suc n) e
    swap false false xs ys e = e

    by : (o : Ordering) → (o ≡ Equal → pair ≡ first) → length (filter test (with_pair pair rest)) ≡ length (filter test (pair ∷ rest))
        → length (filter test (put_by o (pair ∷ first ∷ rest) (first ∷ rest) (first ∷ with_pair pair rest))) ≡ length (filter test (pair ∷ first ∷ rest))
    by Less same tail = refl
    by Equal same tail = absurd (new (inl (sym (same refl))))
    by Greater same tail = swap (test pair) (test first) (filter test (with_pair pair rest)) (filter test rest) tail

pub order_count : (test : Tagged → Bool) (xs : List Tagged) → HasNoRepeat xs → length (filter test (in_order_of xs)) ≡ length (filter test xs)
order_count test [] once = refl
order_count test (x ∷ xs) once =
    with_count test x (in_order_of xs) (λ h. once.0 ((order_members xs x).0 h)) ∙ more (test x) (filter test (in_order_of xs)) (filter test xs) (order_count test xs once.1)
  where
    more : (b : Bool) (ys zs : List Tagged) → length ys ≡ length zs → length (cond b (x ∷ ys) ys) ≡ length (cond b (x ∷ zs) zs)
    more true ys zs e = ap (λ n. suc n) e
    more false ys zs e = e

filter_all : (xs : List Tagged) → filter (λ pair. true) xs ≡ xs
filter_all [] = refl
filter_all (x ∷ xs) = ap (λ (ys : List Tagged). x ∷ ys) (filter_all xs)

pub order_length : (xs : List Tagged) → HasNoRepeat xs → length (in_order_of xs) ≡ length xs
order_length xs once = sym (ap length (filter_all (in_order_of xs))) ∙ (order_count (λ pair. true) xs once ∙ ap length (filter_all xs))

-- pairs of which none stands twice, as what they are an instance of
pub stand_once : (xs : List Tagged) → HasNoRepeat xs → StandOnce xs
stand_once [] once = tt
stand_once (x ∷ xs) once = (once.0, stand_once xs once.1)

-- pairs of which none stands twice, sorted, are put in order
pub sorted_order : {X : Type 0} (f : X → Tagged) (xs ys : List X) → HasNoRepeat (map f xs) → IsPermutation xs ys → IsSortedBy (λ a b. is_lt (tagged_cmp (f a) (f b))) ys
    → map f ys ≡ in_order_of (map f xs)
sorted_order f xs ys once moved up =
    let moved = IsPermutation-map f xs ys moved in
    order_is (map f xs) (map f ys) (sorted_once tagged_cmp tagged_total tagged_exact (map f xs) (map f ys) (stand_once (map f xs) once) moved (view_sorted f tagged_cmp ys up))
    (λ pair. same_members (map f xs) (map f ys) moved pair)

-- pairs that ascend are in order
pub ascending_order : {X : Type 0} (f : X → Tagged) (xs : List X) → IsAscending (λ a b. tagged_cmp (f a) (f b)) xs → map f xs ≡ in_order_of (map f xs)
ascending_order f xs up = order_is (map f xs) (map f xs) (view_ascends f tagged_cmp xs up) (λ pair. (λ h. h, λ h. h))

-- ---- rows

-- the pairs of rows that others are images of
pub pairs_twice : {X : Type 0} (paths : List (List ℕ)) (row : X → PairRow) (xs : List X) → map (λ x. row_pair paths (row x)) xs ≡ rows_pairs paths (map row xs)
pairs_twice paths row [] = refl
pairs_twice paths row (x ∷ xs) = ap (λ (rest : List Tagged). row_pair paths (row x) ∷ rest) (pairs_twice paths row xs)

-- rows of whose pairs none stands twice, sorted by these, have their pairs in order
pub sorted_rows : {X : Type 0} (paths : List (List ℕ)) (row : X → PairRow) (xs ys : List X) → HasNoRepeat (rows_pairs paths (map row xs)) → IsPermutation xs ys
    → IsSortedBy (λ a b. is_lt (tagged_cmp (row_pair paths (row a)) (row_pair paths (row b)))) ys → rows_pairs paths (map row ys) ≡ in_order_of (rows_pairs paths (map row xs))
sorted_rows paths row xs ys once moved up =
    sym (pairs_twice paths row ys)
    ∙ sorted_order (λ x. row_pair paths (row x)) xs ys (subst HasNoRepeat (sym (pairs_twice paths row xs)) once) moved up
    ∙ ap in_order_of (pairs_twice paths row xs)

-- those of rows whose pairs ascend are in order
pub ascending_rows : {X : Type 0} (paths : List (List ℕ)) (row : X → PairRow) (xs : List X) → IsAscending (λ a b. tagged_cmp (row_pair paths (row a)) (row_pair paths (row b))) xs
    → rows_pairs paths (map row xs) ≡ in_order_of (rows_pairs paths (map row xs))
ascending_rows paths row xs up =
    sym (pairs_twice paths row xs) ∙ ascending_order (λ x. row_pair paths (row x)) xs up ∙ ap in_order_of (pairs_twice paths row xs)
