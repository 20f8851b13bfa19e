-- Letters and the numbers whose bits spell them.
use Rattle.std.specs.Prelude.{◌≡◌, ℕ, zero, suc, ◌+◌, ◌-◌, ◌*◌, ◌/◌, ◌%◌, ◌^◌, ◌<◌, ◌≤◌, List, ◌⊎◌, length, fold}
use Rattle.std.proofs.Common.{refl, ◌∙◌, arith}
use Rattle.std.proofs.lemmas.List.{length_push}
use Rattle.std.proofs.lemmas.List.Sums.{fold_push}
use Rattle.tree_clock.specs.Limits.{path_limit}
use Rattle.tree_clock.specs.Path.{letters, zero_letter, one_letter}
use Rattle.tree_clock.specs.declared.paths.Path.TheInside.{Inside}

-- `0` or `1`
abbrev pub IsLetter : ℕ → Type 0
IsLetter letter = (letter ≡ zero_letter) ⊎ (letter ≡ one_letter)

-- the number whose lowest bits spell the letters
abbrev pub number_of : List ℕ → ℕ
number_of path = fold (λ n letter. 2 * n + (letter - zero_letter)) 0 path

-- a number's letters are as many as were asked for
pub length-letters : (n bits : ℕ) → length (letters n bits) ≡ n
length-letters zero bits = refl
length-letters (suc n) bits =
    length_push (letters n (bits / 2)) (zero_letter + bits % 2) ∙ (let e = length-letters n (bits / 2) in omega arith)

-- the letters give the number back
pub number_of-letters : (n bits : ℕ) → bits < 2 ^ n → number_of (letters n bits) ≡ bits
number_of-letters zero bits h = omega arith
number_of-letters (suc n) bits h =
    let below : bits / 2 < 2 ^ n = omega arith in
    let e = number_of-letters n (bits / 2) below in
    fold_push (λ n letter. 2 * n + (letter - zero_letter)) 0 (letters n (bits / 2)) (zero_letter + bits % 2) ∙ omega arith

-- what a path's fields are, given back by its letters
pub inside-letters : (p : Inside) → (p.len ≤ path_limit) × (p.bits < 2 ^ p.len) → record { bits = number_of (letters p.len p.bits); len = length (letters p.len p.bits) } ≡ p
inside-letters p h = λ i. record { bits = number_of-letters p.len p.bits h.1 i; len = length-letters p.len p.bits i }
