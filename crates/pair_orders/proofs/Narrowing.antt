-- The range of places that a search by halves has left.
use Rattle.std.proofs.Common.{◌≡◌, ◌∙◌, ℕ, ◌+◌, ◌-◌, ◌/◌, ◌<◌, ◌≤◌, List, Bool, true, false, not, length, get_or, refl, inl, inr, sym, arith}
use Rattle.std.proofs.lemmas.Bool.{cases_Bool, true≢false}
use Rattle.std.specs.List.{AllWithin}
use Rattle.std.specs.List.Sorted.{IsPartitionedBy}
use Rattle.pair_orders.specs.Orders.{binary_digits}
use Rattle.pair_orders.proofs.Halving.{digits_least, front_digits, back_digits}

-- what passes is in front of it, what fails is behind it, and its digits are what may still be spent
pub record IsNarrowed {X : Type 0} (test : X → Bool) (xs : List X) (low high steps limit : ℕ) : Type 0 where
  pub low_is : low ≤ high
  pub high_is : high ≤ length xs
  pub front : AllWithin (λ x. test x ≡ true) xs 0 low
  pub back : AllWithin (λ x. test x ≡ false) xs high (length xs)
  pub bound : steps + binary_digits (high - low) ≤ limit

module _ {X : Type 0} (test : X → Bool) (xs : List X) (low high middle steps more limit : ℕ) (parted : IsPartitionedBy test xs)
    (n : IsNarrowed test xs low high steps limit) (l : low < high) (m : middle ≡ low + (high - low) / 2) (s : more ≡ steps + 1) where
  within : middle < high
  within = omega (arith, l, m)

  -- the element at the middle passes
  pub raised : ((x : X) → test (get_or xs middle x) ≡ true) → IsNarrowed test xs (middle + 1) high more limit
  raised t = record {
    low_is = omega (arith, within);
    high_is = n.high_is;
    front = λ k d a b. parted k middle d (omega (arith, b)) (omega (arith, within, n.high_is)) (t d);
    back = n.back;
    bound = omega (arith, s, n.bound, back_digits low high middle l m);
  }

  -- it fails
  pub lowered : ((x : X) → test (get_or xs middle x) ≡ false) → IsNarrowed test xs low middle more limit
  lowered f = record {
    low_is = omega (arith, m);
    high_is = omega (arith, within, n.high_is);
    front = n.front;
    back = λ k d a b. elim (cases_Bool (test (get_or xs k d))) [
      | inl t ↦ absurd (true≢false (sym (parted middle k d a b t) ∙ f d))
      | inr g ↦ g
    ];
    bound = omega (arith, s, n.bound, front_digits low high middle l m);
  }

-- the range from a place on, which what passes a narrower test divides
pub begun : {X : Type 0} (test before : X → Bool) (xs : List X) (from high steps : ℕ) → from ≤ length xs → high ≡ length xs → ((x : X) → before x ≡ true → test x ≡ true)
    → AllWithin (λ x. before x ≡ true) xs 0 from → IsNarrowed test xs from high steps (steps + binary_digits (length xs))
begun test before xs from high steps l e wider front = record {
  low_is = omega (arith, l, e);
  high_is = omega (arith, e);
  front = λ k d a b. wider (get_or xs k d) (front k d a b);
  back = λ k d a b. absurd (omega (arith, e, a, b));
  bound = omega (arith, digits_least (high - from) (length xs) (omega (arith, e)));
}

-- what is at a place passes too, and so all up to it
pub one_more : {X : Type 0} (test : X → Bool) (xs : List X) (at : ℕ) → IsPartitionedBy test xs → at < length xs → ((x : X) → test (get_or xs at x) ≡ true)
    → AllWithin (λ x. test x ≡ true) xs 0 (at + 1)
one_more test xs at parted l t = λ k d a b. parted k at d (omega (arith, b)) l (t d)

pub one_before : {X : Type 0} (test : X → Bool) (xs : List X) (at : ℕ) → IsPartitionedBy test xs → 0 < at → at ≤ length xs → ((x : X) → test (get_or xs (at - 1) x) ≡ true)
    → AllWithin (λ x. test x ≡ true) xs 0 at
one_before test xs at parted some l t = λ k d a b. parted k (at - 1) d (omega (arith, b)) (omega (arith, some, l)) (t d)

-- what is at a place fails, or nothing is there: so all from there on do
pub stops_at : {X : Type 0} (test : X → Bool) (xs : List X) (at : ℕ) → IsPartitionedBy test xs → (at < length xs → (x : X) → test (get_or xs at x) ≡ false)
    → AllWithin (λ x. test x ≡ false) xs at (length xs)
stops_at test xs at parted f = λ k d a b. elim (cases_Bool (test (get_or xs k d))) [
  | inl t ↦ absurd (true≢false (sym (parted at k d a b t) ∙ f (omega (arith, a, b)) d))
  | inr g ↦ g
]

-- a range in front of which all pass, and behind which all fail
pub ranged : {X : Type 0} (test : X → Bool) (xs : List X) (low high steps : ℕ) → low ≤ high → high ≤ length xs → AllWithin (λ x. test x ≡ true) xs 0 low
    → AllWithin (λ x. test x ≡ false) xs high (length xs) → IsNarrowed test xs low high steps (steps + binary_digits (length xs))
ranged test xs low high steps l h front back = record {
  low_is = l;
  high_is = h;
  front = front;
  back = back;
  bound = omega (arith, digits_least (high - low) (length xs) (omega (arith, h)));
}

-- what is not true is false
pub told_false : (b : Bool) → not b ≡ true → b ≡ false
told_false true h = absurd (true≢false (sym h))
told_false false h = refl
