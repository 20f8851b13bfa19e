-- Numbers and their plain decimal forms.
use Rattle.std.proofs.Common.{◌≡◌, ◌∙◌, ℕ, ℤ, zero, suc, pos, negsuc, neg_ℤ, ◌<◌, ◌≤◌, ◌^◌, ◌==◌, List, [], ◌∷◌, Bool, true, false, not, ◌&&◌, ◌||◌, cond, Option, Some, None, length, get_or, nat_le, nat_lt, refl, sym, ap, subst, inl, inr, leb-true, true≢false, lit<, arith}
use Rattle.std.specs.Fmt.{decimal, signed_decimal}
use Rattle.std.specs.Option.{option_and_then}
use Rattle.std.specs.Char.{is_ascii_digit}
use Rattle.std.specs.Str.{all_ascii_digits}
use Rattle.std.specs.Str.Parse.{digits_value, signed_digits_value}
use Rattle.std.proofs.lemmas.Bool.{and_parts, or_cases, eqb-true, eq-eqb, ne_eqb, not-true, ltb-true}
use Rattle.std.proofs.lemmas.Fmt.{decimal_digit, decimal-digits_value}
use Rattle.std.proofs.lemmas.Str.Parse.{IsNumeralModel, numerals_by_value, tells_all_ascii_digits}
use Rattle.serde_json.specs.Data.{Num, unsigned, negative}
use Rattle.serde_json.specs.Find.{is_float}
use Rattle.text_rules.specs.Integers.{is_positive_integer, is_plain_integer}
use Rattle.text_rules.specs.Resolution.{is_empty}
use Rattle.jsonld_values.specs.Literals.{whole_text}
use Rattle.jsonld_values.specs.TermWriting.{json_number, plain_number}

own : IsNumeralModel (λ digits. all_ascii_digits digits ≡ true) (digits_value 10)
own = numerals_by_value (λ digits. all_ascii_digits digits ≡ true) tells_all_ascii_digits

-- ---- numbers of JSON

-- a number that JSON has as its own, from -2^63 to 2^64 - 1
abbrev IsSmall : ℤ → Type 0
IsSmall (pos value) = value < 2 ^ 64
IsSmall (negsuc before) = before < 2 ^ 63

-- it is written as it is, and no float
pub record Writes (value : ℤ) (n : Num) : Type 0 where
  pub small : IsSmall value
  pub text_is : whole_text n ≡ Some (signed_decimal value)
  pub whole : is_float n ≡ false

pub json_writes : (value : ℤ) (n : Num) → json_number value ≡ Some n → Writes value n
json_writes (pos value) n h = by (nat_lt value (2 ^ 64)) refl h
  where
    by : (small : Bool) → nat_lt value (2 ^ 64) ≡ small → cond small (Some (unsigned value)) None ≡ Some n → Writes (pos value) n
    by true e g =
        let is : unsigned value ≡ n = cc in
        subst (λ (m : Num). Writes (pos value) m) is (record { small = ltb-true value (2 ^ 64) e; text_is = refl; whole = refl })
    by false e g = cc
json_writes (negsuc before) n h = by (nat_lt before (2 ^ 63)) refl h
  where
    by : (small : Bool) → nat_lt before (2 ^ 63) ≡ small → cond small (Some (negative (negsuc before))) None ≡ Some n → Writes (negsuc before) n
    by true e g =
        let is : negative (negsuc before) ≡ n = cc in
        subst (λ (m : Num). Writes (negsuc before) m) is (record { small = ltb-true before (2 ^ 63) e; text_is = refl; whole = refl })
    by false e g = cc

-- ---- texts

-- digits without a needless zero are written anew for their number
digits_again : (digits : List ℕ) → is_positive_integer digits ≡ true → digits_value 10 digits < 2 ^ 64 → decimal (digits_value 10 digits) ≡ digits
unfolding is_positive_integer
digits_again [] e small = absurd (true≢false (sym e))
digits_again (byte ∷ bytes) e small =
    let first = and_parts (not (byte == 48)) (nat_le (length (byte ∷ bytes)) 30 && all_ascii_digits (byte ∷ bytes)) e in
    let parts = and_parts (nat_le (length (byte ∷ bytes)) 30) (all_ascii_digits (byte ∷ bytes)) first.1 in
    decimal-digits_value own (byte ∷ bytes) parts.1 (omega arith) (λ zeros. absurd (true≢false (sym (eq-eqb byte 48 zeros) ∙ not-true (byte == 48) first.0))) small

-- and are no 0
no_zero : (digits : List ℕ) → is_positive_integer digits ≡ true → digits_value 10 digits ≡ 0 → ⊥
unfolding is_positive_integer
no_zero [] e z = true≢false (sym e)
no_zero (byte ∷ bytes) e z =
    let first = and_parts (not (byte == 48)) (nat_le (length (byte ∷ bytes)) 30 && all_ascii_digits (byte ∷ bytes)) e in
    let parts = and_parts (nat_le (length (byte ∷ bytes)) 30) (all_ascii_digits (byte ∷ bytes)) first.1 in
    let again : decimal (digits_value 10 (byte ∷ bytes)) ≡ byte ∷ bytes =
    decimal-digits_value own (byte ∷ bytes) parts.1 (omega arith) (λ zeros. absurd (true≢false (sym (eq-eqb byte 48 zeros) ∙ not-true (byte == 48) first.0))) (subst (λ n. n < 2 ^ 64) (sym z) (lit< tt)) in
    let same : 48 ≡ byte = ap (λ (l : List ℕ). get_or l 0 0) (sym (decimal_digit 0 (lit< tt)) ∙ ap decimal (sym z) ∙ again) in
    true≢false (sym (eq-eqb byte 48 (sym same)) ∙ not-true (byte == 48) first.0)

-- those behind a minus
behind_minus : (digits : List ℕ) (value : ℕ) → is_positive_integer digits ≡ true → digits_value 10 digits ≡ value → IsSmall (neg_ℤ (pos value))
    → signed_decimal (neg_ℤ (pos value)) ≡ 45 ∷ digits
behind_minus digits zero e is small = absurd (no_zero digits e is)
behind_minus digits (suc before) e is small = ap (λ l. 45 ∷ l) (ap decimal (sym is) ∙ digits_again digits e (subst (λ n. n < 2 ^ 64) (sym is) (omega (arith, small))))

-- and begin with a digit
digit_above : (byte : ℕ) (bytes : List ℕ) → is_positive_integer (byte ∷ bytes) ≡ true → 48 ≤ byte
unfolding is_positive_integer
digit_above byte bytes e =
    let rest = and_parts (not (byte == 48)) (nat_le (length (byte ∷ bytes)) 30 && all_ascii_digits (byte ∷ bytes)) e in
    let parts = and_parts (nat_le (length (byte ∷ bytes)) 30) (all_ascii_digits (byte ∷ bytes)) rest.1 in
    let first = and_parts (is_ascii_digit byte) (all_ascii_digits bytes) parts.1 in
    leb-true 48 byte (and_parts (nat_le 48 byte) (nat_le byte 57) first.0).0

-- a plain integer is written anew for its number
pub written_again : (text : List ℕ) → is_plain_integer text ≡ true → IsSmall (signed_digits_value 10 text) → signed_decimal (signed_digits_value 10 text) ≡ text
unfolding is_plain_integer
written_again [] e small = absurd (true≢false (sym e))
written_again (byte ∷ bytes) e small =
    elim (or_cases (is_positive_integer (byte ∷ bytes)) ((byte == 45 && is_positive_integer bytes) || (byte == 48 && is_empty bytes)) e) [
      | inl p ↦
          let is : signed_digits_value 10 (byte ∷ bytes) ≡ pos (digits_value 10 (byte ∷ bytes)) = unsigned_is byte bytes (digit_above byte bytes p) in
          ap signed_decimal is ∙ digits_again (byte ∷ bytes) p (subst IsSmall is small)
      | inr r ↦ elim (or_cases (byte == 45 && is_positive_integer bytes) (byte == 48 && is_empty bytes) r) [
        | inl q ↦
            let parts = and_parts (byte == 45) (is_positive_integer bytes) q in
            let is : signed_digits_value 10 (byte ∷ bytes) ≡ neg_ℤ (pos (digits_value 10 bytes)) = minus_is byte bytes parts.0 in
            ap signed_decimal is ∙ behind_minus bytes (digits_value 10 bytes) parts.1 refl (subst IsSmall is small)
            ∙ ap (λ (b : ℕ). b ∷ bytes) (sym (eqb-true byte 45 parts.0))
        | inr q ↦
            let parts = and_parts (byte == 48) (is_empty bytes) q in
            alone byte bytes (eqb-true byte 48 parts.0) parts.1
      ]
    ]
  where
    unsigned_is : (byte : ℕ) (bytes : List ℕ) → 48 ≤ byte → signed_digits_value 10 (byte ∷ bytes) ≡ pos (digits_value 10 (byte ∷ bytes))
    unsigned_is byte bytes h = rw (ne_eqb byte 45 (λ e. omega arith), ne_eqb byte 43 (λ e. omega arith)) refl

    minus_is : (byte : ℕ) (bytes : List ℕ) → (byte == 45) ≡ true → signed_digits_value 10 (byte ∷ bytes) ≡ neg_ℤ (pos (digits_value 10 bytes))
    minus_is byte bytes e = rw e refl

    alone : (byte : ℕ) (bytes : List ℕ) → byte ≡ 48 → is_empty bytes ≡ true → signed_decimal (signed_digits_value 10 (byte ∷ bytes)) ≡ byte ∷ bytes
    alone byte [] e f = rw e (decimal_digit 0 (lit< tt))
    alone byte (x ∷ xs) e f = absurd (true≢false (sym f))

-- ---- laws

-- a plain number is a plain integer, written so
reads : (text : List ℕ) (n : Num) (plain : Bool) → is_plain_integer text ≡ plain
    → option_and_then json_number (cond plain (Some (signed_digits_value 10 text)) None) ≡ Some n → (whole_text n ≡ Some text) × (is_float n ≡ false)
reads text n true is h =
    let writes = json_writes (signed_digits_value 10 text) n h in
    (writes.text_is ∙ ap Some (written_again text is writes.small), writes.whole)
reads text n false is h = cc

-- a plain number's text is the one that it was read from
pub plain_number_reads : (text : List ℕ) (n : Num) → plain_number text ≡ Some n → whole_text n ≡ Some text
plain_number_reads text n h = (reads text n (is_plain_integer text) refl h).0

-- and it is no float
pub plain_number_whole : (text : List ℕ) (n : Num) → plain_number text ≡ Some n → is_float n ≡ false
plain_number_whole text n h = (reads text n (is_plain_integer text) refl h).1
