-- Numbers in decimal digits of which the first is not 0.
use Rattle.std.proofs.Common.{◌≡◌, ◌≢◌, ℕ, zero, suc, ◌<◌, ◌≤◌, ◌^◌, List, length, get_or, sym, ◌∙◌, subst, ap, arith, lit<}
use Rattle.std.specs.Fmt.{decimal}
use Rattle.std.specs.Str.Parse.{ParsesUnsigned, AllDigits, digits_value}
use Rattle.std.specs.Result.{OkIff}
use Rattle.std.proofs.lemmas.Str.Parse.{IsNumeralModel, numerals_by_value, tells_digits, parse_plain}
use Rattle.std.specs.declared.result.Result.{Result}
use Rattle.std.specs.declared.result.Result.TheVariants.{Ok, Err}
use Rattle.std.proofs.lemmas.Fmt.{decimal_digit, decimal_nonempty, parse-decimal, first_decimal, decimal-digits_value}
use Rattle.node_run.specs.WordSpelling.{SpellsTurns}

-- an empty text spells none
pub not_empty : (text : List ℕ) → ¬ (0 < length text) → (turns : ℕ) → ¬ SpellsTurns text turns
not_empty text empty turns s = empty (subst (λ (t : List ℕ). 0 < length t) (sym s.written) (decimal_nonempty turns s.most))

-- and none that begins with a plus or a 0
pub not_low : (text : List ℕ) → get_or text 0 0 ≤ 48 → (turns : ℕ) → ¬ SpellsTurns text turns
not_low text low turns s =
    let first : 48 < get_or (decimal turns) 0 0 = first_decimal turns s.least s.most in
    let here : 48 < get_or text 0 0 = subst (λ (t : List ℕ). 48 < get_or t 0 0) (sym s.written) first in
    omega (arith, here, low)

-- what isn't parsed is none that is spelled
pub unread : {E : Type 0} (text : List ℕ) (result : Result ℕ E) (e : E) → result ≡ Err e → ParsesUnsigned 64 10 text result → (turns : ℕ) → ¬ SpellsTurns text turns
unread {E} text result e failed parses turns s =
    let read : result ≡ Ok turns = parse-decimal 64 turns text result s.most s.most s.written parses in
    cc

-- what was parsed
parsed : {E : Type 0} (result : Result ℕ E) (read : ℕ) (P : Type 0) (value : ℕ) → result ≡ Ok read → OkIff result P value → P × (read ≡ value)
parsed (Ok found) read P value is h = let same : found ≡ read = cc (is) in (h.0, sym same ∙ h.1)
parsed (Err error) read P value is h = absurd (cc (is))

-- a number that is written without a 0 in front isn't 0
not_zero : (text : List ℕ) (turns : ℕ) → get_or text 0 0 ≢ 48 → turns < 2 ^ 64 → text ≡ decimal turns → SpellsTurns text turns
not_zero text zero none below e = absurd (none (ap (λ (t : List ℕ). get_or t 0 0) (e ∙ decimal_digit 0 (lit< tt))))
not_zero text (suc before) none below e = record { written = e; least = omega arith; most = below }

-- what is parsed where neither stands first is spelled
pub read_so : {E : Type 0} (text : List ℕ) (result : Result ℕ E) (read : ℕ) → get_or text 0 0 ≢ 43 → get_or text 0 0 ≢ 48 → result ≡ Ok read
    → ParsesUnsigned 64 10 text result → SpellsTurns text read
read_so {E} text result read plus zeros is parses =
    let own : IsNumeralModel (AllDigits 10) (digits_value 10) = numerals_by_value (AllDigits 10) tells_digits in
    let told = parsed result read (AllDigits 10 text × (0 < length text) × (digits_value 10 text < 2 ^ 64)) (digits_value 10 text) is (parse_plain own 64 text result parses plus) in
    let lead : get_or text 0 0 ≡ 48 → length text ≡ 1 = λ zero. absurd (zeros zero) in
    let same : decimal (digits_value 10 text) ≡ text = decimal-digits_value own text told.0.0 told.0.1 lead told.0.2 in
    not_zero text read zeros (subst (λ (n : ℕ). n < 2 ^ 64) (sym told.1) told.0.2) (sym (ap decimal told.1 ∙ same))
