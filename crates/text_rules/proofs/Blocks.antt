-- How many bytes two texts have in common, where blocks of them are compared at once.
use Rattle.std.proofs.Common.{◌≡◌, ℕ, zero, suc, ◌+◌, ◌<◌, ◌≤◌, ◌%◌, ◌^◌, Bool, not, cond, eqb, List, [], ◌∷◌, map, length, take, drop, min, w8, refl, sym, ap, ◌∙◌, inl, inr, arith}
use Rattle.std.proofs.lemmas.Bool.{cases_eq, eq-eqb, ne_eqb}
use Rattle.std.proofs.lemmas.List.{map-id, length-map}
use Rattle.std.proofs.lemmas.Simd.{length-zip2, tops_compared, mask_l-mod, leading_from_mask_l, trailing_mask_l}
use Rattle.std.specs.List.{prefix_len}
use lib.Count.{count_trailing_zeros}
use lib.Lanes.{zip2, mask_l, top}
use Rattle.text_rules.specs.Compare.{common}

-- no more than either text has
pub common_within : (xs ys : List ℕ) → (common xs ys ≤ length xs) × (common xs ys ≤ length ys)
common_within [] ys = (omega arith, omega arith)
common_within (x ∷ xs) [] = (omega arith, omega arith)
common_within (x ∷ xs) (y ∷ ys) =
    elim (cases_eq x y) [
      | inl e ↦ let h = common_within xs ys in rw (eq-eqb x y e) (omega arith, omega arith)
      | inr n ↦ rw (ne_eqb x y n) (omega arith, omega arith)
    ]

-- of the fronts of both, as many or all
pub common_fronts : (n : ℕ) (xs ys : List ℕ) → common (take n xs) (take n ys) ≡ min n (common xs ys)
common_fronts zero xs ys = omega arith
common_fronts (suc n) [] ys = omega arith
common_fronts (suc n) (x ∷ xs) [] = omega arith
common_fronts (suc n) (x ∷ xs) (y ∷ ys) =
    elim (cases_eq x y) [
      | inl e ↦ let h = common_fronts n xs ys in rw (eq-eqb x y e) (omega arith)
      | inr m ↦ rw (ne_eqb x y m) (omega arith)
    ]

-- what is passed, and what the rests have in common
pub common_rests : (n : ℕ) (xs ys : List ℕ) → n ≤ common xs ys → common xs ys ≡ n + common (drop n xs) (drop n ys)
common_rests zero xs ys h = omega arith
common_rests (suc n) [] ys h = absurd (omega arith)
common_rests (suc n) (x ∷ xs) [] h = absurd (omega arith)
common_rests (suc n) (x ∷ xs) (y ∷ ys) h =
    elim (cases_eq x y) [
      | inl e ↦
          let g : suc n ≤ suc (common xs ys) = rw (eq-eqb x y e) at h in
          let r = common_rests n xs ys (omega arith) in
          rw (eq-eqb x y e) (omega arith)
      | inr m ↦ let g : suc n ≤ 0 = rw (ne_eqb x y m) at h in absurd (omega arith)
    ]

-- a block is passed whole where the texts go on alike
pub common_passed : (n i : ℕ) (xs ys : List ℕ) → i ≤ common xs ys → n ≤ common (take n (drop i xs)) (take n (drop i ys)) → i + n ≤ common xs ys
common_passed n i xs ys h g =
    let f = common_fronts n (drop i xs) (drop i ys) in
    let r = common_rests i xs ys h in
    omega arith

-- a block in which they differ tells where
pub common_found : (n i : ℕ) (xs ys : List ℕ) → i ≤ common xs ys → common (take n (drop i xs)) (take n (drop i ys)) < n → i + common (take n (drop i xs)) (take n (drop i ys)) ≡ common xs ys
common_found n i xs ys h g =
    let f = common_fronts n (drop i xs) (drop i ys) in
    let r = common_rests i xs ys h in
    omega arith

-- so does the last block, which ends with one of them
pub common_last : (n i : ℕ) (xs ys : List ℕ) → i ≤ common xs ys → i + n ≡ min (length xs) (length ys) → i + common (take n (drop i xs)) (take n (drop i ys)) ≡ common xs ys
common_last n i xs ys h g =
    let f = common_fronts n (drop i xs) (drop i ys) in
    let r = common_rests i xs ys h in
    let w = common_within xs ys in
    omega arith

abbrev differ : ℕ → ℕ → Bool
differ x y = not (eqb x y)

lanes_alike : (xs ys : List ℕ) → length xs ≡ length ys → prefix_len (λ b. not b) (zip2 differ xs ys) ≡ common xs ys
lanes_alike [] ys e = refl
lanes_alike (x ∷ xs) [] e = refl
lanes_alike (x ∷ xs) (y ∷ ys) e =
    elim (cases_eq x y) [
      | inl d ↦ let r = lanes_alike xs ys (omega arith) in rw (eq-eqb x y d) (omega arith)
      | inr m ↦ rw (ne_eqb x y m) refl
    ]

-- the mask of two blocks, whose bits that are set tell which bytes differ
abbrev pub mask : List ℕ → List ℕ → ℕ
mask xs ys = mask_l (map (top 7) (zip2 (λ x y. cond (differ x y) 255 0) xs ys)) % 2 ^ 64

mask_is : (xs ys : List ℕ) → length xs ≡ length ys → length xs ≤ 64 → mask xs ys ≡ mask_l (map (λ b. b) (zip2 differ xs ys))
mask_is xs ys e few =
    ap (λ ms. mask_l ms % 2 ^ 64) (tops_compared w8 differ xs ys ∙ sym (map-id (zip2 differ xs ys)))
    ∙ mask_l-mod (map (λ b. b) (zip2 differ xs ys)) 64 (omega (arith, length-map (zip2 differ xs ys) (λ b. b), length-zip2 differ xs ys e))

-- where no bit is set, they are the same
pub none_differs : (xs ys : List ℕ) (n : ℕ) → length xs ≡ n → length ys ≡ n → n ≤ 64 → mask xs ys ≡ 0 → n ≡ common xs ys
none_differs xs ys n e f few none =
    let long : length xs ≡ length ys = omega arith in
    let few : length xs ≤ 64 = omega arith in
    let all = leading_from_mask_l (λ b. b) (zip2 differ xs ys) (sym (mask_is xs ys long few) ∙ none) in
    let zipped = length-zip2 differ xs ys long in
    sym e ∙ sym zipped ∙ sym all ∙ lanes_alike xs ys long

-- else the lowest tells how many they have in common
pub first_differs : (xs ys : List ℕ) (n : ℕ) → length xs ≡ n → length ys ≡ n → n ≤ 64 → 0 < mask xs ys → count_trailing_zeros 64 (mask xs ys) ≡ common xs ys
first_differs xs ys n e f few some =
    let long : length xs ≡ length ys = omega arith in
    let few : length xs ≤ 64 = omega arith in
    let is = mask_is xs ys long few in
    ap (count_trailing_zeros 64) is
    ∙ trailing_mask_l (λ b. b) 64 (zip2 differ xs ys) (omega (arith, length-zip2 differ xs ys long)) (omega arith)
    ∙ lanes_alike xs ys long
