-- How letters are turned into numbers and back, letter by letter.
use Rattle.std.proofs.Common.{◌≡◌, ℕ, suc, ◌+◌, ◌-◌, ◌*◌, ◌/◌, ◌%◌, ◌^◌, ◌<◌, ◌≤◌, List, [], ◌∷◌, ◌++◌, Bool, true, false, nat_eq, bit_and, if◌then◌else◌, length, take, slice_index, sym, ap, ◌∙◌, arith}
use Rattle.std.proofs.lemmas.Bool.Decides.{nat_tests}
use Rattle.std.proofs.lemmas.List.{take_more}
use Rattle.std.proofs.lemmas.List.Sums.{fold_push}
use Rattle.std.proofs.Math.Nat.{pow-succ', pow-le-pow_right}
use Rattle.std.proofs.lemmas.Nat.{and_mask, shr-shr}
use Rattle.tree_clock.specs.Letters.{number_of}
use Rattle.tree_clock.specs.Path.{letters, zero_letter, one_letter}

-- the number of one letter more
pub number_more : (path : List ℕ) (i : ℕ) (one : Bool) (n bit : ℕ) → i < length path → slice_index path i ≡ (if one then one_letter else zero_letter) → bit ≡ (if one then 1 else 0) → n ≡ number_of (take i path)
    → 2 * n + bit ≡ number_of (take (i + 1) path)
number_more path i one n bit l e g h =
    let step : number_of (take (i + 1) path) ≡ 2 * number_of (take i path) + (slice_index path i - zero_letter) =
    ap number_of (take_more path i 0 l) ∙ fold_push (λ m letter. 2 * m + (letter - zero_letter)) 0 (take i path) (slice_index path i) in
    elim one as (λ b. slice_index path i ≡ (if b then one_letter else zero_letter) → bit ≡ (if b then 1 else 0) → 2 * n + bit ≡ number_of (take (i + 1) path)) [
      | true ↦ λ f k. omega (arith, step, f, h, k)
      | false ↦ λ f k. omega (arith, step, f, h, k)
    ] e g

-- the bit of a letter
pub bit_below : (one : Bool) (bit : ℕ) → bit ≡ (if one then 1 else 0) → bit < 2
bit_below true bit e = omega arith
bit_below false bit e = omega arith

-- a number of one bit more
pub fits_more : (n i : ℕ) (bit : ℕ) → n < 2 ^ i → bit < 2 → 2 * n + bit < 2 ^ (i + 1)
fits_more n i bit l b = let e : 2 ^ (i + 1) ≡ 2 * 2 ^ i = ap (λ (m : ℕ). 2 ^ m) (omega arith) ∙ pow-succ' 2 i in omega arith

-- a number of one bit more fits so many bits
pub fits_width : (n i width bit : ℕ) → n < 2 ^ i → i < width → bit < 2 → 2 * n + bit < 2 ^ width
fits_width n i width bit l w b =
    let more = fits_more n i bit l b in
    let wide : 2 ^ (i + 1) ≤ 2 ^ width = pow-le-pow_right (omega arith) (omega arith) in
    omega arith

-- the letter of a bit
letter_bit : (b : ℕ) → (if nat_eq (bit_and b 1) 1 then one_letter else zero_letter) ≡ zero_letter + b % 2
letter_bit b = let odd : bit_and b 1 ≡ b % 2 = and_mask b 1 in grind (arith, nat_tests)

-- the path of one letter more
pub letters_more : (path : List ℕ) (bits count i : ℕ) → i < count → path ≡ letters i (bits / 2 ^ (count - i))
    → path ++ (if nat_eq (bit_and (bits / 2 ^ (count - 1 - i)) 1) 1 then one_letter else zero_letter) ∷ [] ≡ letters (i + 1) (bits / 2 ^ (count - (i + 1)))
letters_more path bits count i l h =
    let e : i + 1 ≡ suc i = omega arith in
    let f : count - (i + 1) ≡ count - 1 - i = omega arith in
    let g : count - i ≡ (count - 1 - i) + 1 = omega arith in
    let b = bits / 2 ^ (count - 1 - i) in
    let front : path ≡ letters i (b / 2) = h ∙ ap (λ (m : ℕ). letters i (bits / 2 ^ m)) g ∙ ap (letters i) (sym (shr-shr bits (count - 1 - i) 1)) in
    let last : (if nat_eq (bit_and b 1) 1 then one_letter else zero_letter) ≡ zero_letter + b % 2 = letter_bit b in
    let whole : path ++ (if nat_eq (bit_and b 1) 1 then one_letter else zero_letter) ∷ [] ≡ letters (suc i) b = λ k. front k ++ last k ∷ [] in
    whole ∙ ap (λ (m : ℕ). letters m b) (sym e) ∙ ap (λ (m : ℕ). letters (i + 1) (bits / 2 ^ m)) (sym f)
