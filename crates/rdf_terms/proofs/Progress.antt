-- A begun escape can go on: a digit more that keeps to the codes that may stand there, and a last one.
use Rattle.std.proofs.Common.{◌≡◌, ℕ, zero, suc, ◌+◌, ◌-◌, ◌*◌, ◌^◌, ◌<◌, ◌≤◌, true, false, Some, refl, subst, inl, inr, arith, pow-suc, eqb, ltb, lt-ltb, ltb-true, ne_eqb}
use Rattle.std.specs.Char.{digit_value}
use lib.Utf8.{scalar, scalar_cases, low_scalar}
use Rattle.std.proofs.lemmas.Bool.{and_parts, and_from, cases_lt}
use Rattle.std.proofs.lemmas.Bool.Decides.{nat_tests}
use Rattle.text_rules.specs.Iri.{is_letter, is_scheme_byte, is_excluded}
use Rattle.text_rules.specs.declared.spots.Spot.{Spot}
use Rattle.text_rules.specs.declared.spots.Spot.TheVariants.{SchemeStart, Scheme, IriRest, Lexical}
use Rattle.rdf_terms.specs.Escapes.{is_hexadecimal}
use Rattle.rdf_terms.specs.TripleReading.{spot_behind, may_hold, may_begin}

-- a digit that may come next, with so many digits behind it
pub record NextDigit (spot : Spot) (digits code : ℕ) : Type 0 where
  pub digit : ℕ
  pub hexadecimal : is_hexadecimal digit ≡ true
  pub fits : may_begin spot digits (16 * code + digit_value digit) ≡ true

-- a digit that may come last
pub record LastDigit (spot : Spot) (code : ℕ) : Type 0 where
  pub digit : ℕ
  pub hexadecimal : is_hexadecimal digit ≡ true
  pub is_scalar : scalar (16 * code + digit_value digit) ≡ true
  pub next : Spot
  pub leads : spot_behind spot (16 * code + digit_value digit) ≡ Some next

-- ---- scalars

high_scalar : (code : ℕ) → 57344 ≤ code → code < 1114112 → scalar code ≡ true
high_scalar code h k = grind (arith, nat_tests)

-- the last code of a block of 256 is a scalar value as the first one is
scalar_block : (block code : ℕ) → scalar (block * 256) ≡ true → block * 256 ≤ code → code ≤ block * 256 + 255 → scalar code ≡ true
scalar_block block code h l k =
    elim (scalar_cases (block * 256) h) [
      | inl g ↦ low_scalar code (omega arith)
      | inr g ↦ high_scalar code (omega arith) (omega arith)
    ]

-- the same of blocks of 16
scalar_row : (row code : ℕ) → scalar (row * 16) ≡ true → row * 16 ≤ code → code ≤ row * 16 + 15 → scalar code ≡ true
scalar_row row code h l k =
    elim (scalar_cases (row * 16) h) [
      | inl g ↦ low_scalar code (omega arith)
      | inr g ↦ high_scalar code (omega arith) (omega arith)
    ]

-- ---- a digit more, with two or more to come

-- the first codes that may stand here are enough, where they are 256 or more
first_enough : (spot : Spot) (low high less : ℕ) → 255 ≤ less → may_hold spot low high ≡ true → may_hold spot low less ≡ true
first_enough SchemeStart low high less h e =
    let p = and_parts (ltb low 128) (ltb 64 high) e in
    and_from (ltb low 128) (ltb 64 less) p.0 (lt-ltb 64 less (omega arith))
first_enough Scheme low high less h e =
    let p = and_parts (ltb low 128) (ltb 32 high) e in
    and_from (ltb low 128) (ltb 32 less) p.0 (lt-ltb 32 less (omega arith))
first_enough IriRest low high less h e =
    let p = and_parts (scalar low) (ltb 32 high) e in
    and_from (scalar low) (ltb 32 less) p.0 (lt-ltb 32 less (omega arith))
first_enough Lexical low high less h e = e

pow_more : (n : ℕ) → 16 ^ suc n ≡ 16 * 16 ^ n
pow_more n = omega (arith, pow-suc 16 n)

pow_large : (n : ℕ) → 256 ≤ 16 ^ suc (suc n)
pow_large zero = omega arith
pow_large (suc n) = let h : 256 ≤ 16 ^ suc (suc n) = pow_large n in omega (arith, pow_more (suc (suc n)))

low_same : (code width wider : ℕ) → wider ≡ 16 * width → code * wider ≡ (16 * code + 0) * width
low_same code width wider h = rw h (omega arith)

next_far : (spot : Spot) (n code : ℕ) → may_begin spot (suc (suc (suc n))) code ≡ true → NextDigit spot (suc (suc n)) code
next_far spot n code e =
    let width : ℕ = 16 ^ suc (suc n) in
    let wider : ℕ = 16 ^ suc (suc (suc n)) in
    let large : 255 ≤ (16 * code + 0) * width + (width - 1) = omega (arith, pow_large n) in
    let same : code * wider ≡ (16 * code + 0) * width = low_same code width wider (pow_more (suc (suc n))) in
    record {
      digit = 48;
      hexadecimal = refl;
      fits = first_enough spot ((16 * code + 0) * width) (code * wider + (wider - 1)) ((16 * code + 0) * width + (width - 1)) large
          (subst (λ (low : ℕ). may_hold spot low (code * wider + (wider - 1)) ≡ true) same e);
    }

-- ---- a digit more, with one to come

next_near : (spot : Spot) (code : ℕ) → may_begin spot 2 code ≡ true → NextDigit spot 1 code
next_near SchemeStart code e =
    let p = and_parts (ltb (code * 256) 128) (ltb 64 (code * 256 + 255)) e in
    let low : code * 256 < 128 = ltb-true (code * 256) 128 p.0 in
    record {
      digit = 52;
      hexadecimal = refl;
      fits = and_from (ltb ((16 * code + 4) * 16) 128) (ltb 64 ((16 * code + 4) * 16 + 15)) (lt-ltb ((16 * code + 4) * 16) 128 (omega arith)) (lt-ltb 64 ((16 * code + 4) * 16 + 15) (omega arith));
    }
next_near Scheme code e =
    let p = and_parts (ltb (code * 256) 128) (ltb 32 (code * 256 + 255)) e in
    let low : code * 256 < 128 = ltb-true (code * 256) 128 p.0 in
    record {
      digit = 52;
      hexadecimal = refl;
      fits = and_from (ltb ((16 * code + 4) * 16) 128) (ltb 32 ((16 * code + 4) * 16 + 15)) (lt-ltb ((16 * code + 4) * 16) 128 (omega arith)) (lt-ltb 32 ((16 * code + 4) * 16 + 15) (omega arith));
    }
next_near IriRest code e =
    let p = and_parts (scalar (code * 256)) (ltb 32 (code * 256 + 255)) e in
    record {
      digit = 70;
      hexadecimal = refl;
      fits = and_from (scalar ((16 * code + 15) * 16)) (ltb 32 ((16 * code + 15) * 16 + 15))
          (scalar_block code ((16 * code + 15) * 16) p.0 (omega arith) (omega arith)) (lt-ltb 32 ((16 * code + 15) * 16 + 15) (omega arith));
    }
next_near Lexical code e = record {
  digit = 48;
  hexadecimal = refl;
  fits = scalar_block code ((16 * code + 0) * 16) e (omega arith) (omega arith);
}

-- a digit more that leaves some to come
pub next_digit : (spot : Spot) (n code : ℕ) → may_begin spot (suc (suc n)) code ≡ true → NextDigit spot (suc n) code
next_digit spot zero code e = next_near spot code e
next_digit spot (suc n) code e = next_far spot n code e

-- ---- the last digit

not_excluded : (row : ℕ) → 32 < row * 16 + 15 → is_excluded (16 * row + 15) ≡ false
not_excluded row h = grind (arith, nat_tests)

-- the codes 0x41, 0x51, 0x61 and 0x71 are letters
letter_row : (row : ℕ) → 3 < row → row < 8 → is_letter (16 * row + 1) ≡ true
letter_row row h k = grind (arith, nat_tests)

-- the codes 0x31, 0x41, 0x51, 0x61 and 0x71 may stand in schemes, and are no colon
scheme_row : (row : ℕ) → 2 < row → row < 8 → is_scheme_byte (16 * row + 1) ≡ true
scheme_row row h k = grind (arith, nat_tests)

no_colon : (row : ℕ) → eqb (16 * row + 1) 58 ≡ false
no_colon row = ne_eqb (16 * row + 1) 58 (λ h. omega arith)

-- in a scheme: `+` where the first digit is a 2, and else such a code
scheme_digit : (row : ℕ) → row * 16 < 128 → 32 < row * 16 + 15 → LastDigit Scheme row
scheme_digit row low high =
    elim (cases_lt row 3) [
      | inl h ↦
          let two : 2 ≡ row = omega arith in
          subst (λ (r : ℕ). LastDigit Scheme r) two (record {
            digit = 66;
            hexadecimal = refl;
            is_scalar = refl;
            next = Scheme;
            leads = refl;
          })
      | inr h ↦ record {
        digit = 49;
        hexadecimal = refl;
        is_scalar = low_scalar (16 * row + 1) (omega arith);
        next = Scheme;
        leads = rw (no_colon row, scheme_row row (omega arith) (omega arith)) refl;
      }
    ]

pub last_digit : (spot : Spot) (code : ℕ) → may_begin spot 1 code ≡ true → LastDigit spot code
last_digit SchemeStart code e =
    let p = and_parts (ltb (code * 16) 128) (ltb 64 (code * 16 + 15)) e in
    let low : code * 16 < 128 = ltb-true (code * 16) 128 p.0 in
    let high : 64 < code * 16 + 15 = ltb-true 64 (code * 16 + 15) p.1 in
    record {
      digit = 49;
      hexadecimal = refl;
      is_scalar = low_scalar (16 * code + 1) (omega arith);
      next = Scheme;
      leads = rw (letter_row code (omega arith) (omega arith)) refl;
    }
last_digit Scheme code e =
    let p = and_parts (ltb (code * 16) 128) (ltb 32 (code * 16 + 15)) e in
    scheme_digit code (ltb-true (code * 16) 128 p.0) (ltb-true 32 (code * 16 + 15) p.1)
last_digit IriRest code e =
    let p = and_parts (scalar (code * 16)) (ltb 32 (code * 16 + 15)) e in
    record {
      digit = 70;
      hexadecimal = refl;
      is_scalar = scalar_row code (16 * code + 15) p.0 (omega arith) (omega arith);
      next = IriRest;
      leads = rw (not_excluded code (ltb-true 32 (code * 16 + 15) p.1)) refl;
    }
last_digit Lexical code e = record {
  digit = 48;
  hexadecimal = refl;
  is_scalar = scalar_row code (16 * code + 0) e (omega arith) (omega arith);
  next = Lexical;
  leads = refl;
}

-- ---- the beginning

-- an escape that begins may be of any character
pub short_begins : (spot : Spot) → may_begin spot 4 0 ≡ true
short_begins SchemeStart = refl
short_begins Scheme = refl
short_begins IriRest = refl
short_begins Lexical = refl

pub long_begins : (spot : Spot) → may_begin spot 8 0 ≡ true
long_begins SchemeStart = refl
long_begins Scheme = refl
long_begins IriRest = refl
long_begins Lexical = refl
