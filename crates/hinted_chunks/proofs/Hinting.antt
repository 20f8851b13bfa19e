-- What the first bytes of texts, as numbers, tell of the texts.
use Rattle.std.proofs.Common.{◌≡◌, ◌∙◌, ℕ, suc, zero, ◌+◌, ◌-◌, ◌*◌, ◌^◌, ◌<◌, ◌≤◌, List, [], ◌∷◌, length, get_or, take, drop, refl, sym, ap, inl, inr, arith, cond, Bool, true, false}
use Rattle.std.proofs.Math.Dec.{ltb}
use Rattle.std.proofs.Math.Nat.{mul-le-mul_right, pow-suc}
use Rattle.std.proofs.lemmas.Bool.{cases_lt, lt-ltb, le-ltb}
use Rattle.std.proofs.lemmas.Cmp.{nat_list_cmp_total}
use Rattle.std.specs.Cmp.{nat_cmp_is}
use Rattle.std.specs.Cmp.Lexicographic.{slice_cmp}
use Rattle.std.specs.Ordering.{nat_cmp, ordering_then, ordering_reverse}
use Rattle.std.specs.declared.cmp.Ordering.TheVariants.{Less, Equal, Greater}
use Rattle.hinted_chunks.specs.Leading.{leading}

-- the number of a text that begins with a byte, and of one that begins with what is no byte
pub of_byte : (n b : ℕ) (bs : List ℕ) → b < 256 → leading (suc n) (b ∷ bs) ≡ b * 256 ^ n + leading n bs
of_byte n b bs l = ap (λ t. cond t (b * 256 ^ n + leading n bs) (256 ^ suc n - 1)) (lt-ltb b 256 l)

of_other : (n b : ℕ) (bs : List ℕ) → 256 ≤ b → leading (suc n) (b ∷ bs) ≡ 256 ^ suc n - 1
of_other n b bs l = ap (λ t. cond t (b * 256 ^ n + leading n bs) (256 ^ suc n - 1)) (le-ltb b 256 l)

powered : (n : ℕ) → 0 < 256 ^ n
powered zero = omega arith
powered (suc n) = let h = powered n in let e = pow-suc 256 n in omega (arith, h, e)

-- the number is one of so many digits
pub leading_below : (n : ℕ) (text : List ℕ) → leading n text < 256 ^ n
leading_below zero text = omega arith
leading_below (suc n) [] = powered (suc n)
leading_below (suc n) (b ∷ bs) = elim (cases_lt b 256) [
  | inl l ↦
      let e = of_byte n b bs l in
      let h = leading_below n bs in
      let m : (b + 1) * 256 ^ n ≤ 256 * 256 ^ n = mul-le-mul_right (256 ^ n) (omega (arith, l)) in
      let p = pow-suc 256 n in
      rw e (omega (arith, h, m, p))
  | inr l ↦
      let e = of_other n b bs l in
      let h = powered (suc n) in
      rw e (omega (arith, h))
]

-- a lesser number is that of a lesser text
pub leading_less : (n : ℕ) (a b : List ℕ) → leading n a < leading n b → slice_cmp nat_cmp a b ≡ Less
leading_less zero a b h = absurd (omega (arith, h))
leading_less (suc n) [] [] h = absurd (omega (arith, h))
leading_less (suc n) [] (y ∷ ys) h = refl
leading_less (suc n) (x ∷ xs) [] h = absurd (omega (arith, h))
leading_less (suc n) (x ∷ xs) (y ∷ ys) h = elim (cases_lt x y) [
  | inl l ↦ ap (λ o. ordering_then o (slice_cmp nat_cmp xs ys)) (sym (nat_cmp_is x y Less l))
  | inr l ↦ elim (cases_lt y x) [
    | inl m ↦ absurd (not_after m)
    | inr m ↦
        let e : x ≡ y = omega (arith, l, m) in
        ap (λ o. ordering_then o (slice_cmp nat_cmp xs ys)) (sym (nat_cmp_is x y Equal e)) ∙ leading_less n xs ys (same e)
  ]
]
  where
    same : x ≡ y → leading n xs < leading n ys
    same e = elim (cases_lt x 256) [
      | inl l ↦
          let p = of_byte n x xs l in
          let q = of_byte n y ys (omega (arith, l, e)) in
          let k : x * 256 ^ n ≡ y * 256 ^ n = ap (λ z. z * 256 ^ n) e in
          omega (arith, h, p, q, k)
      | inr l ↦
          let p = of_other n x xs l in
          let q = of_other n y ys (omega (arith, l, e)) in
          absurd (omega (arith, h, p, q))
    ]

    not_after : y < x → ⊥
    not_after m = elim (cases_lt x 256) [
      | inl l ↦
          let p = of_byte n x xs l in
          let q = of_byte n y ys (omega (arith, l, m)) in
          let k : (y + 1) * 256 ^ n ≤ x * 256 ^ n = mul-le-mul_right (256 ^ n) (omega (arith, m)) in
          let b = leading_below n ys in
          omega (arith, h, p, q, k, b)
      | inr l ↦
          let p = of_other n x xs l in
          let b = leading_below (suc n) (y ∷ ys) in
          omega (arith, h, p, b)
    ]

flipped : (a b : List ℕ) → slice_cmp nat_cmp b a ≡ Less → slice_cmp nat_cmp a b ≡ Greater
flipped a b e = nat_list_cmp_total.antisymm a b ∙ ap ordering_reverse e

-- what two texts share at their starts doesn't count
pub compared_behind : (n : ℕ) (a b : List ℕ) → take n a ≡ take n b → slice_cmp nat_cmp a b ≡ slice_cmp nat_cmp (drop n a) (drop n b)
compared_behind zero a b e = refl
compared_behind (suc n) [] [] e = refl
compared_behind (suc n) [] (y ∷ ys) e = let l = ap length e in absurd (omega (arith, l))
compared_behind (suc n) (x ∷ xs) [] e = let l = ap length e in absurd (omega (arith, l))
compared_behind (suc n) (x ∷ xs) (y ∷ ys) e =
    ap (λ o. ordering_then o (slice_cmp nat_cmp xs ys)) (sym (nat_cmp_is x y Equal (ap (λ zs. get_or zs 0 x) e)))
    ∙ compared_behind n xs ys (ap (drop 1) e)

module _ (n mark : ℕ) (a b : List ℕ) (e : take mark a ≡ take mark b) where
  pub less_by_hint : leading n (drop mark a) < leading n (drop mark b) → slice_cmp nat_cmp a b ≡ Less
  less_by_hint h = compared_behind mark a b e ∙ leading_less n (drop mark a) (drop mark b) h

  pub greater_by_hint : leading n (drop mark b) < leading n (drop mark a) → slice_cmp nat_cmp a b ≡ Greater
  greater_by_hint h = compared_behind mark a b e ∙ flipped (drop mark a) (drop mark b) (leading_less n (drop mark b) (drop mark a) h)

-- what their hints tell of an element and a bound
pub told_by_hints : (before : Bool) (mark hint wanted : ℕ) (a b : List ℕ) → take mark a ≡ take mark b → hint ≡ leading 8 (drop mark a) → wanted ≡ leading 8 (drop mark b)
    → ¬ (hint ≡ wanted) → (slice_cmp nat_cmp a b ≡ Less → before ≡ true) → (slice_cmp nat_cmp a b ≡ Greater → before ≡ false) → ltb hint wanted ≡ before
told_by_hints before mark hint wanted a b e h w n below above = elim (cases_lt hint wanted) [
  | inl l ↦ lt-ltb hint wanted l ∙ sym (below (less_by_hint 8 mark a b e (omega (arith, l, h, w))))
  | inr l ↦ elim (cases_lt wanted hint) [
    | inl m ↦ le-ltb hint wanted l ∙ sym (above (greater_by_hint 8 mark a b e (omega (arith, m, h, w))))
    | inr m ↦ absurd (n (omega (arith, l, m)))
  ]
]
