-- Keys that begin with given numbers stand together.
use Rattle.std.proofs.Common.{◌≡◌, ◌∙◌, ℕ, suc, zero, List, [], ◌∷◌, Bool, true, false, take, length, ◌⊎◌, None, Some, refl, sym, ap, inl, inr}
use Rattle.std.proofs.lemmas.Bool.{cases_Bool, true≢false, false≢true}
use Rattle.std.proofs.lemmas.Cmp.{nat_list_cmp_total, tied_itself}
use Rattle.std.proofs.lemmas.Map.Lookups.{exact_bytes}
use Rattle.std.specs.Cmp.{IsTotalOrder}
use Rattle.std.specs.Cmp.Lexicographic.{slice_cmp}
use Rattle.std.specs.Ordering.{nat_cmp, is_lt, is_le, is_eq, ordering_reverse, ordering_then}
use Rattle.std.specs.declared.cmp.Ordering.{Ordering}
use Rattle.std.specs.declared.cmp.Ordering.TheVariants.{Less, Equal, Greater}
use Rattle.tree_clock.specs.Lists.{Has, IsAscending}
use Rattle.mld_ops.proofs.AscendingLaws.{below_member}
use Rattle.chunked_list.specs.Parted.{IsParted, IsFirstOf}
use Rattle.chunked_list.proofs.Parting.{has_all}
use Rattle.pair_orders.specs.KeyFronts.{HasFront, key_front_cmp, is_before_front, is_up_to_front}
use Rattle.pair_orders.specs.Keys.{row_of, ranked_cmp}
use Rattle.pair_orders.specs.declared.keys.RankedKey.{RankedKey}

-- ---- what ascends with the elements divides them

lower : (o : Ordering) → is_lt o ≡ true → o ≡ Less
lower Less h = refl
lower Equal h = absurd (false≢true h)
lower Greater h = absurd (false≢true h)

higher : (o : Ordering) → is_le o ≡ false → o ≡ Greater
higher Less h = absurd (true≢false h)
higher Equal h = absurd (true≢false h)
higher Greater h = refl

-- a test that fails for each element behind one for which it fails
parted_by : {X : Type 0} (Q : X → X → Ordering) (p : X → Bool) → ((x y : X) → Q x y ≡ Less → p x ≡ false → p y ≡ false) → (xs : List X) → IsAscending Q xs → IsParted p xs
parted_by Q p fails [] a = tt
parted_by Q p fails (x ∷ xs) a = (
  λ f. has_all (λ y. p y ≡ false) xs (λ y k. fails x y (below_member Q x xs y a.0 k) f),
  parted_by Q p fails xs a.1,
)

module _ {X K : Type 0} (Q : X → X → Ordering) (R : K → K → Ordering) (total : IsTotalOrder R) (key : X → K)
    (ascends : (x y : X) → Q x y ≡ Less → (R (key x) (key y) ≡ Less) ⊎ (R (key x) (key y) ≡ Equal)) (k : K) where
  not_before : (x y : X) → Q x y ≡ Less → is_lt (R (key x) k) ≡ false → is_lt (R (key y) k) ≡ false
  not_before x y l f = elim (ascends x y l) [
    | inl e ↦ elim (cases_Bool (is_lt (R (key y) k))) [
      | inl t ↦ absurd (true≢false (sym (ap is_lt (total.trans (key x) (key y) k e (lower (R (key y) k) t))) ∙ f))
      | inr g ↦ g
    ]
    | inr e ↦ ap is_lt (sym (total.congr (key x) (key y) k e)) ∙ f
  ]

  behind : (x y : X) → Q x y ≡ Less → is_le (R (key x) k) ≡ false → is_le (R (key y) k) ≡ false
  behind x y l f = elim (ascends x y l) [
    | inl e ↦
        let g = total.antisymm k (key x) ∙ ap ordering_reverse (higher (R (key x) k) f) in
        ap is_le (total.antisymm (key y) k ∙ ap ordering_reverse (total.trans k (key x) (key y) g e))
    | inr e ↦ ap is_le (sym (total.congr (key x) (key y) k e)) ∙ f
  ]

  parted_before : (xs : List X) → IsAscending Q xs → IsParted (λ x. is_lt (R (key x) k)) xs
  parted_before = parted_by Q (λ x. is_lt (R (key x) k)) not_before

  parted_up_to : (xs : List X) → IsAscending Q xs → IsParted (λ x. is_le (R (key x) k)) xs
  parted_up_to = parted_by Q (λ x. is_le (R (key x) k)) behind

-- ---- fronts

-- of two lists in order the fronts are in order, or the same
pub front_ascends : (n : ℕ) (xs ys : List ℕ) → slice_cmp nat_cmp xs ys ≡ Less → (slice_cmp nat_cmp (take n xs) (take n ys) ≡ Less) ⊎ (slice_cmp nat_cmp (take n xs) (take n ys) ≡ Equal)
front_ascends zero xs ys l = inr refl
front_ascends (suc n) [] [] l = cc
front_ascends (suc n) [] (y ∷ ys) l = inl refl
front_ascends (suc n) (x ∷ xs) [] l = cc
front_ascends (suc n) (x ∷ xs) (y ∷ ys) l = by (nat_cmp x y) (slice_cmp nat_cmp xs ys) (slice_cmp nat_cmp (take n xs) (take n ys)) l (front_ascends n xs ys)
  where
    by : (o a b : Ordering) → ordering_then o a ≡ Less → (a ≡ Less → (b ≡ Less) ⊎ (b ≡ Equal)) → (ordering_then o b ≡ Less) ⊎ (ordering_then o b ≡ Equal)
    by Less a b l next = inl refl
    by Equal a b l next = next l
    by Greater a b l next = cc

module _ (front : List ℕ) where
  begins : RankedKey → List ℕ
  begins key = take (length front) (row_of key)

  ascends : (a b : RankedKey) → ranked_cmp a b ≡ Less → (slice_cmp nat_cmp (begins a) (begins b) ≡ Less) ⊎ (slice_cmp nat_cmp (begins a) (begins b) ≡ Equal)
  unfolding begins
  ascends a b l = front_ascends (length front) (row_of a) (row_of b) l

  pub before_front : (keys : List RankedKey) → IsAscending ranked_cmp keys → IsParted (is_before_front front) keys
  unfolding begins
  before_front = parted_before ranked_cmp (slice_cmp nat_cmp) nat_list_cmp_total begins ascends front

  pub up_to_front : (keys : List RankedKey) → IsAscending ranked_cmp keys → IsParted (is_up_to_front front) keys
  unfolding begins
  up_to_front = parted_up_to ranked_cmp (slice_cmp nat_cmp) nat_list_cmp_total begins ascends front

  -- what begins so isn't in front of them
  not_in_front : (key : RankedKey) → HasFront front key → is_before_front front key ≡ false
  not_in_front key e = ap is_lt (ap (λ w. slice_cmp nat_cmp w front) e ∙ tied_itself nat_list_cmp_total front)

  -- what compares as equal begins so
  pub begins_so : (key : RankedKey) → key_front_cmp front key ≡ Equal → HasFront front key
  begins_so key e = exact_bytes (take (length front) (row_of key)) front e

  -- what stands behind the first that isn't in front of them, and begins so: then the first does too
  between : (a b : RankedKey) → ranked_cmp a b ≡ Less → is_before_front front a ≡ false → HasFront front b → key_front_cmp front a ≡ Equal
  between a b l f e = elim (front_ascends (length front) (row_of a) (row_of b) l) [
    | inl m ↦ absurd (true≢false (sym (ap is_lt (ap (λ w. slice_cmp nat_cmp (take (length front) (row_of a)) w) (sym e) ∙ m)) ∙ f))
    | inr m ↦ ap (λ w. slice_cmp nat_cmp (take (length front) (row_of a)) w) (sym e) ∙ m
  ]

  -- where the first that isn't in front of them doesn't begin so, none does
  pub first_tells : (keys : List RankedKey) (first : RankedKey) → IsAscending ranked_cmp keys → IsFirstOf (is_before_front front) keys (Some first) → ¬ (key_front_cmp front first ≡ Equal)
      → (key : RankedKey) → Has keys key → ¬ HasFront front key
  first_tells [] first a h n key k e = k
  first_tells (x ∷ keys) first a (inl h) n key (inl same) e = true≢false (sym h.0 ∙ ap (is_before_front front) same ∙ not_in_front key e)
  first_tells (x ∷ keys) first a (inl h) n key (inr k) e = first_tells keys first a.1 h.1 n key k e
  first_tells (x ∷ keys) first a (inr h) n key (inl same) e =
      let q : x ≡ first = cc in
      n (ap (key_front_cmp front) (sym q ∙ same) ∙ ap (λ w. slice_cmp nat_cmp w front) e ∙ tied_itself nat_list_cmp_total front)
  first_tells (x ∷ keys) first a (inr h) n key (inr k) e =
      let q : x ≡ first = cc in
      n (ap (key_front_cmp front) (sym q) ∙ between x key (below_member ranked_cmp x keys key a.0 k) h.0 e)

  pub none_tells : (keys : List RankedKey) → IsFirstOf (is_before_front front) keys None → (key : RankedKey) → Has keys key → ¬ HasFront front key
  none_tells [] h key k e = k
  none_tells (x ∷ keys) (inl h) key (inl same) e = true≢false (sym h.0 ∙ ap (is_before_front front) same ∙ not_in_front key e)
  none_tells (x ∷ keys) (inl h) key (inr k) e = none_tells keys h.1 key k e
  none_tells (x ∷ keys) (inr h) key k e = cc

-- what a test for equality tells
pub tied : (o : Ordering) → is_eq o ≡ true → o ≡ Equal
tied Less h = absurd (false≢true h)
tied Equal h = refl
tied Greater h = absurd (false≢true h)

-- the first is one of them
pub first_is : {X : Type 0} (p : X → Bool) (xs : List X) (first : X) → IsFirstOf p xs (Some first) → Has xs first
first_is p [] first h = cc
first_is p (x ∷ xs) first (inl h) = inr (first_is p xs first h.1)
first_is p (x ∷ xs) first (inr h) = let q : x ≡ first = cc in inl q
