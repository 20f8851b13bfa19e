-- Numbers as they are written, and texts that begin with one.
use Rattle.std.proofs.Common.{◌≡◌, ◌≢◌, ℕ, zero, suc, ◌<◌, ◌≤◌, ◌^◌, List, ◌∷◌, ◌++◌, length, get_or, refl, sym, ◌∙◌, subst, ap, arith, lit≤, lit<}
use Rattle.std.specs.Fmt.{decimal}
use Rattle.std.specs.Str.{IsUtf8}
use Rattle.std.specs.Str.Parse.{ParsesUnsigned, AllDigits, digits_value}
use Rattle.std.specs.Result.{OkIff}
use Rattle.std.proofs.lemmas.Str.Parse.{IsNumeralModel, numerals_by_value, tells_digits, parse_plain}
use Rattle.std.specs.declared.result.Result.{Result}
use Rattle.std.specs.declared.result.Result.TheVariants.{Ok, Err}
use Rattle.std.proofs.lemmas.Fmt.{decimal_digit, decimal_nonempty, parse-decimal, IsAscii-decimal, decimal_injective, first_decimal, decimal-digits_value}
use Rattle.std.proofs.lemmas.Str.{IsUtf8-from_ascii}
use Rattle.schedule_model.specs.Characters.{space}
use Rattle.mld_model.specs.World.{clone_count}
use Rattle.schedule_model.proofs.LackingLaws.{Lacks, Lacks-decimal, one_split}

-- the number of a clone is a small number
pub small : {number : ℕ} → number < clone_count → number < 2 ^ 64
small h = omega arith

-- and so is that of a call
pub small_call : {call : ℕ} → call < 2 ^ 32 → call < 2 ^ 64
small_call h = omega arith

-- numbers are written in ASCII
pub decimal_text : (text : List ℕ) (number : ℕ) → number < 2 ^ 64 → text ≡ decimal number → IsUtf8 text
decimal_text text number h e = subst (λ (t : List ℕ). IsUtf8 t) (sym e) (IsUtf8-from_ascii (decimal number) (IsAscii-decimal number h))

-- what isn't read as a number is none that is written
pub unread : {E : Type 0} (text other : List ℕ) (result : Result ℕ E) (e : E) → other ≡ text → result ≡ Err e → ParsesUnsigned 64 10 other result
    → (number : ℕ) → number < 2 ^ 64 → text ≡ decimal number → ⊥
unread {E} text other result e here failed h number below same =
    let read : result ≡ Ok number = parse-decimal 64 number other result below below (here ∙ same) h in
    cc

-- a number that is written begins with a digit, and with 0 only where it is 0
pub first_digit : (number : ℕ) → number < 2 ^ 64 → 48 ≤ get_or (decimal number) 0 0
first_digit zero below = subst (λ (d : List ℕ). 48 ≤ get_or d 0 0) (sym (decimal_digit 0 (lit< tt))) (lit≤ tt)
first_digit (suc before) below = let first : 48 < get_or (decimal (suc before)) 0 0 = first_decimal (suc before) (omega arith) below in omega (arith, first)

pub one_zero : (number : ℕ) → number < 2 ^ 64 → get_or (decimal number) 0 0 ≡ 48 → length (decimal number) ≡ 1
one_zero zero below same = ap (λ (d : List ℕ). length d) (decimal_digit 0 (lit< tt))
one_zero (suc before) below same = let first : 48 < get_or (decimal (suc before)) 0 0 = first_decimal (suc before) (omega arith) below in absurd (omega (arith, first, same))

-- a length that is not 0 and not above 1
pub only_one : (count : ℕ) → 0 < count → ¬ (1 < count) → count ≡ 1
only_one zero some none = absurd (omega (arith, some))
only_one (suc zero) some none = refl
only_one (suc (suc count)) some none = absurd (none (omega arith))

-- what was parsed
parsed : {E : Type 0} (result : Result ℕ E) (read : ℕ) (P : Type 0) (value : ℕ) → result ≡ Ok read → OkIff result P value → P × (read ≡ value)
parsed (Ok found) read P value is h = let same : found ≡ read = cc (is) in (h.0, sym same ∙ h.1)
parsed (Err error) read P value is h = absurd (cc (is))

-- a text that is empty, or that a plus or a needless zero stands first in, is no number that is written
pub not_empty : (text : List ℕ) → ¬ (0 < length text) → (number : ℕ) → number < 2 ^ 64 → text ≡ decimal number → ⊥
not_empty text empty number below same = empty (subst (λ (t : List ℕ). 0 < length t) (sym same) (decimal_nonempty number below))

pub no_plus : (text : List ℕ) → get_or text 0 0 < 48 → (number : ℕ) → number < 2 ^ 64 → text ≡ decimal number → ⊥
no_plus text first number below same =
    let digit : 48 ≤ get_or text 0 0 = subst (λ (t : List ℕ). 48 ≤ get_or t 0 0) (sym same) (first_digit number below) in
    omega (arith, digit, first)

pub no_zeros : (text : List ℕ) → get_or text 0 0 ≡ 48 → 1 < length text → (number : ℕ) → number < 2 ^ 64 → text ≡ decimal number → ⊥
no_zeros text first long number below same =
    let one : length text ≡ 1 = ap (λ (t : List ℕ). length t) same ∙ one_zero number below (ap (λ (t : List ℕ). get_or t 0 0) (sym same) ∙ first) in
    omega (arith, one, long)

-- what is read where no plus and no needless zero stand first is written as it stands
pub plain_read : {E : Type 0} (text other : List ℕ) (result : Result ℕ E) (read : ℕ) → other ≡ text → get_or text 0 0 ≢ 43 → (get_or text 0 0 ≡ 48 → length text ≡ 1) → result ≡ Ok read
    → ParsesUnsigned 64 10 other result → (read < 2 ^ 64) × (text ≡ decimal read)
plain_read {E} text other result read here plus zeros is parses =
    let own : IsNumeralModel (AllDigits 10) (digits_value 10) = numerals_by_value (AllDigits 10) tells_digits in
    let here_parses : ParsesUnsigned 64 10 text result = subst (λ (t : List ℕ). ParsesUnsigned 64 10 t result) here parses in
    let told = parsed result read (AllDigits 10 text × (0 < length text) × (digits_value 10 text < 2 ^ 64)) (digits_value 10 text) is (parse_plain own 64 text result here_parses plus) in
    let same : decimal (digits_value 10 text) ≡ text = decimal-digits_value own text told.0.0 told.0.1 zeros told.0.2 in
    (subst (λ (n : ℕ). n < 2 ^ 64) (sym told.1) told.0.2, sym (ap decimal told.1 ∙ same))

-- a text writes one number
pub one_number : (text : List ℕ) (read number : ℕ) → read < 2 ^ 64 → number < 2 ^ 64 → text ≡ decimal read → text ≡ decimal number → read ≡ number
one_number text read number r n e f = decimal_injective read number r n (sym e ∙ f)

-- numbers are written without spaces
no_space : (number : ℕ) → number < 2 ^ 64 → Lacks space (decimal number)
no_space = Lacks-decimal space (λ digit h e. omega arith)

-- a number that is written, and what stands behind the space after it
pub number_first : (text front rest behind : List ℕ) (number : ℕ) → Lacks space front → text ≡ front ++ space ∷ rest → number < 2 ^ 64 → text ≡ decimal number ++ space ∷ behind → (front ≡ decimal number) × (rest ≡ behind)
number_first text front rest behind number h e small same = one_split space front (decimal number) rest behind h (no_space number small) (sym e ∙ same)
