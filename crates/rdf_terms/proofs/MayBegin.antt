-- The digits before the last one of an escape: what they begin may stand where the character that they name does.
use Rattle.std.proofs.Common.{◌≡◌, ℕ, zero, suc, ◌+◌, ◌-◌, ◌*◌, ◌^◌, ◌<◌, ◌≤◌, List, [], ◌∷◌, length, true, false, ◌&&◌, Some, None, inl, inr, arith, eqb, IsTrue}
use Rattle.std.specs.Char.{IsScalar, digit_value}
use Rattle.std.proofs.lemmas.Bool.{cases_Bool, and_from, and_parts, cases_lt, lt-ltb, ltb-true}
use Rattle.std.proofs.lemmas.Bool.Decides.{nat_tests}
use Rattle.std.proofs.Math.Nat.{pow-succ', mul-le-mul_left}
use Rattle.std.proofs.Math.Utf8.{scalar_cases, low_scalar}
use lib.Utf8.{scalar}
use lib.Dec.{ltb}
use Rattle.std.specs.List.{list_all}
use Rattle.text_rules.specs.Iri.{is_letter, is_scheme_byte, is_excluded}
use Rattle.text_rules.specs.declared.spots.Spot.{Spot}
use Rattle.text_rules.specs.declared.spots.Spot.TheVariants.{SchemeStart, Scheme, IriRest, Lexical}
use Rattle.rdf_terms.specs.Escapes.{code_with, is_hexadecimal}
use Rattle.rdf_terms.specs.TripleReading.{spot_behind, may_hold, may_begin}

-- codes above the surrogates are those of characters
scalar_high : (x : ℕ) → 57344 ≤ x → x < 1114112 → scalar x ≡ true
scalar_high x h g = grind (arith, nat_tests)

-- a number that is below the surrogates, or not below their end, is a character's up to another one's code
around : (x c : ℕ) → x ≤ c → c < 1114112 → (55296 ≤ x → 57344 ≤ x) → scalar x ≡ true
around x c le lt over =
    elim (cases_lt x 55296) [
      | inl h ↦ low_scalar x h
      | inr h ↦ scalar_high x (over h) (omega arith)
    ]

-- a block of codes with a character's begins with a character's
begins_scalar : (n code c : ℕ) → n < 7 → code * 16 ^ suc n ≤ c → c < code * 16 ^ suc n + 16 ^ suc n → IsScalar c → scalar (code * 16 ^ suc n) ≡ true
begins_scalar n code c small low high h =
    elim (scalar_cases c h) [
      | inl k ↦ low_scalar (code * 16 ^ suc n) (omega arith)
      | inr k ↦ around (code * 16 ^ suc n) c low k.1 (over n small low high k.0)
    ]
  where
    over : (n : ℕ) → n < 7 → code * 16 ^ suc n ≤ c → c < code * 16 ^ suc n + 16 ^ suc n → 57344 ≤ c → 55296 ≤ code * 16 ^ suc n → 57344 ≤ code * 16 ^ suc n
    over zero small low high g h = omega arith
    over (suc zero) small low high g h = omega arith
    over (suc (suc zero)) small low high g h = omega arith
    over (suc (suc (suc zero))) small low high g h = omega arith
    over (suc (suc (suc (suc zero)))) small low high g h = omega arith
    over (suc (suc (suc (suc (suc zero))))) small low high g h = omega arith
    over (suc (suc (suc (suc (suc (suc zero)))))) small low high g h = omega arith
    over (suc (suc (suc (suc (suc (suc (suc n))))))) small low high g h = absurd (omega arith)

-- a code at which a scheme or an IRI goes on
letter_range : (c : ℕ) → is_letter c ≡ true → (64 < c) × (c < 128)
letter_range c h = grind (arith, nat_tests)

colon_range : (c : ℕ) → eqb c 58 ≡ true → (32 < c) × (c < 128)
colon_range c h = grind (arith, nat_tests)

scheme_range : (c : ℕ) → is_scheme_byte c ≡ true → (32 < c) × (c < 128)
scheme_range c h = grind (arith, nat_tests)

rest_range : (c : ℕ) → is_excluded c ≡ false → 32 < c
rest_range c h = grind (arith, nat_tests)

-- nothing is no result
pub none_some : {A : Type 0} {x : A} → None ≡ Some x → ⊥
none_some h = cc

-- a block of codes in which some character may stand
small_block : (bound low size c : ℕ) → low ≤ c → c < low + size → bound < c → c < 128 → (ltb low 128 && ltb bound (low + (size - 1))) ≡ true
small_block bound low size c le lt over under = and_from (ltb low 128) (ltb bound (low + (size - 1))) (lt-ltb low 128 (omega arith)) (lt-ltb bound (low + (size - 1)) (omega arith))

-- a block of codes with a character's that may stand there
holds : (spot next : Spot) (low size c : ℕ) → low ≤ c → c < low + size → scalar low ≡ true → spot_behind spot c ≡ Some next → may_hold spot low (low + (size - 1)) ≡ true
holds SchemeStart next low size c le lt h e =
    elim (cases_Bool (is_letter c)) [
      | inl k ↦ let r = letter_range c k in small_block 64 low size c le lt r.0 r.1
      | inr k ↦ absurd (none_some (rw k at e))
    ]
holds Scheme next low size c le lt h e =
    elim (cases_Bool (eqb c 58)) [
      | inl k ↦ let r = colon_range c k in small_block 32 low size c le lt r.0 r.1
      | inr k ↦ elim (cases_Bool (is_scheme_byte c)) [
        | inl g ↦ let r = scheme_range c g in small_block 32 low size c le lt r.0 r.1
        | inr g ↦ absurd (none_some (rw (k, g) at e))
      ]
    ]
holds IriRest next low size c le lt h e =
    elim (cases_Bool (is_excluded c)) [
      | inl k ↦ absurd (none_some (rw k at e))
      | inr k ↦ and_from (scalar low) (ltb 32 (low + (size - 1))) h (lt-ltb 32 (low + (size - 1)) (let r = rest_range c k in omega arith))
    ]
holds Lexical next low size c le lt h e = h

-- one digit more at the front of a block's lowest code, and of its highest
above_step : (code digit p q x : ℕ) → q ≡ 16 * p → (16 * code + digit) * p ≤ x → code * q ≤ x
above_step code digit p q x e h = rw e (omega arith)

below_step : (code digit p q x : ℕ) → q ≡ 16 * p → digit < 16 → x < (16 * code + digit) * p + p → x < code * q + q
below_step code digit p q x e small h =
    let most : digit ≤ 15 = omega arith in
    rw e (omega (arith, mul-le-mul_left p most))

-- what a hexadecimal digit is worth
digit_small : (byte : ℕ) → is_hexadecimal byte ≡ true → digit_value byte < 16
digit_small byte h = ltb-true (digit_value byte) 16 h

-- digits behind a code name one of its block: none below it, and none above it
above : (code : ℕ) (digits : List ℕ) → code * 16 ^ length digits ≤ code_with code digits
above code [] = omega arith
above code (digit ∷ digits) =
    above_step code (digit_value digit) (16 ^ length digits) (16 ^ suc (length digits)) (code_with (16 * code + digit_value digit) digits)
    (pow-succ' 16 (length digits)) (above (16 * code + digit_value digit) digits)

below : (code : ℕ) (digits : List ℕ) → list_all is_hexadecimal digits ≡ true → code_with code digits < code * 16 ^ length digits + 16 ^ length digits
below code [] h = omega arith
below code (digit ∷ digits) h =
    let p = and_parts (is_hexadecimal digit) (list_all is_hexadecimal digits) h in
    below_step code (digit_value digit) (16 ^ length digits) (16 ^ suc (length digits)) (code_with (16 * code + digit_value digit) digits)
    (pow-succ' 16 (length digits)) (digit_small digit p.0) (below (16 * code + digit_value digit) digits p.1)

-- what stands before the last digit of an escape may begin the code of a character that may stand there
pub may_begin-from_code : (spot next : Spot) (code digit : ℕ) (digits : List ℕ) → length digits < 7 → IsTrue (list_all is_hexadecimal (digit ∷ digits))
    → IsScalar (code_with code (digit ∷ digits)) → spot_behind spot (code_with code (digit ∷ digits)) ≡ Some next → may_begin spot (suc (length digits)) code ≡ true
may_begin-from_code spot next code digit digits small hexadecimal h e =
    let c : ℕ = code_with code (digit ∷ digits) in
    let low = above code (digit ∷ digits) in
    let high = below code (digit ∷ digits) hexadecimal in
    holds spot next (code * 16 ^ suc (length digits)) (16 ^ suc (length digits)) c low high (begins_scalar (length digits) code c small low high h) e
