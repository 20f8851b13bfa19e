-- The IRI of a fresh subject is an absolute IRI.
use Rattle.std.proofs.Common.{◌≡◌, ℕ, suc, ◌<◌, ◌≤◌, ◌^◌, List, [], ◌∷◌, ◌++◌, All, length, Bool, true, ◌&&◌, not, IsTrue, codes, nat_le, get_or, inl, inr, refl, ◌∙◌, length-append, arith}
use Rattle.std.specs.Fmt.{decimal}
use Rattle.std.specs.List.{list_all}
use Rattle.std.proofs.lemmas.Bool.{and_parts, and_from}
use Rattle.std.proofs.lemmas.Bool.Decides.{nat_tests}
use Rattle.std.proofs.lemmas.Fmt.{digits_decimal, length-decimal-le}
use Rattle.std.proofs.lemmas.List.Folds.{list_all-append}
use Rattle.std.proofs.lemmas.Str.Parse.{IsNumeralModel, numerals_by_value, tells_by_index}
use Rattle.std.specs.Str.Parse.{digits_value}
use Rattle.text_rules.specs.Domain.{is_domain, is_domain_byte, domain_limit}
use Rattle.text_rules.specs.Iri.{is_excluded, is_iri, is_absolute, iri_limit}
use Rattle.tree_clock.specs.declared.dots.Dot.{Dot}
use Rattle.tree_clock.specs.Dot.{dot_text}
use Rattle.tree_clock.specs.Letters.{IsLetter}
use Rattle.tree_clock.specs.Limits.{path_limit}
use Rattle.jrql_ast.specs.FreshNames.{fresh_iri}

abbrev is_allowed : ℕ → Bool
is_allowed byte = not (is_excluded byte)

-- no byte of a text is excluded
abbrev IsClean : List ℕ → Type 0
IsClean text = list_all is_allowed text ≡ true

clean_append : (xs ys : List ℕ) → IsClean xs → IsClean ys → IsClean (xs ++ ys)
clean_append xs ys a b = list_all-append is_allowed xs ys ∙ and_from (list_all is_allowed xs) (list_all is_allowed ys) a b

allowed_in_domain : (byte : ℕ) → is_domain_byte byte ≡ true → is_allowed byte ≡ true
allowed_in_domain byte h = grind (arith, nat_tests)

clean_domain : (bytes : List ℕ) → list_all is_domain_byte bytes ≡ true → IsClean bytes
clean_domain [] h = refl
clean_domain (byte ∷ bytes) h =
    let parts = and_parts (is_domain_byte byte) (list_all is_domain_byte bytes) h in
    and_from (is_allowed byte) (list_all is_allowed bytes) (allowed_in_domain byte parts.0) (clean_domain bytes parts.1)

allowed_digit : (byte : ℕ) → 48 ≤ byte → byte ≤ 57 → is_allowed byte ≡ true
allowed_digit byte l h = grind (arith, nat_tests)

-- digits, by their places
clean_digits : (bytes : List ℕ) → ((i : ℕ) → i < length bytes → (48 ≤ get_or bytes i 0) × (get_or bytes i 0 ≤ 57)) → IsClean bytes
clean_digits [] h = refl
clean_digits (byte ∷ bytes) h =
    let first = h 0 (omega arith) in
    and_from (is_allowed byte) (list_all is_allowed bytes) (allowed_digit byte first.0 first.1)
    (clean_digits bytes (λ i l. h (suc i) (omega (arith, l))))

clean_path : (path : List ℕ) → All IsLetter path → IsClean path
clean_path path letters = clean_digits path (λ i l. elim (letters i 0 l) [
  | inl e ↦ (omega (arith, e), omega (arith, e))
  | inr e ↦ (omega (arith, e), omega (arith, e))
])

-- by places, its bytes are digits
abbrev HasDigits : List ℕ → Type 0
HasDigits bytes = (i : ℕ) → i < length bytes → (48 ≤ get_or bytes i 0) × (get_or bytes i 0 ≤ 57)

own : IsNumeralModel HasDigits (digits_value 10)
own = numerals_by_value HasDigits tells_by_index

clean_decimal : (n : ℕ) → n < 2 ^ 64 → IsClean (decimal n)
clean_decimal n h = clean_digits (decimal n) (digits_decimal own n h)

le_yes : (a b : ℕ) → nat_le a b ≡ true → a ≤ b
le_yes a b h = grind (arith, nat_tests)

le_test : (a b : ℕ) → a ≤ b → nat_le a b ≡ true
le_test a b h = grind (arith, nat_tests)

-- the text of a dot
clean_dot : (dot : Dot) → All IsLetter dot.path → dot.tick < 2 ^ 32 → IsClean (dot_text dot)
clean_dot dot letters h =
    clean_append (codes "r" ++ dot.path) (codes "." ++ decimal dot.tick) (clean_append (codes "r") dot.path refl (clean_path dot.path letters))
    (clean_append (codes ".") (decimal dot.tick) refl (clean_decimal dot.tick (omega (arith, h))))

short_dot : (dot : Dot) → length dot.path ≤ path_limit → dot.tick < 2 ^ 32 → length (dot_text dot) ≤ 76
short_dot dot short h =
    let text = length-append (codes "r" ++ dot.path) (codes "." ++ decimal dot.tick) in
    let front = length-append (codes "r") dot.path in
    let back = length-append (codes ".") (decimal dot.tick) in
    let digits = length-decimal-le 10 dot.tick (omega arith) (omega (arith, h)) (omega (arith, h)) in
    omega (arith, text, front, back, digits, short)

-- what stands behind the domain
abbrev behind_domain : Dot → ℕ → List ℕ
behind_domain dot number = codes "/.well-known/genid/" ++ (dot_text dot ++ (codes "." ++ decimal number))

clean_behind : (dot : Dot) (number : ℕ) → All IsLetter dot.path → dot.tick < 2 ^ 32 → number < 2 ^ 64 → IsClean (behind_domain dot number)
clean_behind dot number letters t n =
    clean_append (codes "/.well-known/genid/") (dot_text dot ++ (codes "." ++ decimal number)) refl
    (clean_append (dot_text dot) (codes "." ++ decimal number) (clean_dot dot letters t) (clean_append (codes ".") (decimal number) refl (clean_decimal number n)))

short_behind : (dot : Dot) (number : ℕ) → length dot.path ≤ path_limit → dot.tick < 2 ^ 32 → number < 2 ^ 64 → length (behind_domain dot number) ≤ 116
short_behind dot number short t n =
    let whole = length-append (codes "/.well-known/genid/") (dot_text dot ++ (codes "." ++ decimal number)) in
    let back = length-append (dot_text dot) (codes "." ++ decimal number) in
    let last = length-append (codes ".") (decimal number) in
    let text = short_dot dot short t in
    let digits = length-decimal-le 20 number (omega arith) (omega (arith, n)) n in
    omega (arith, whole, back, last, text, digits)

pub fresh_absolute : (domain : List ℕ) (dot : Dot) (number : ℕ) → IsTrue (is_domain domain) → All IsLetter dot.path → length dot.path ≤ path_limit → dot.tick < 2 ^ 32
    → number < 2 ^ 64 → IsTrue (is_absolute (fresh_iri domain dot number))
unfolding is_iri is_domain
fresh_absolute domain dot number h letters short t n =
    let tests = and_parts (nat_le 1 (length domain) && nat_le (length domain) domain_limit) (list_all is_domain_byte domain) h in
    let within : length domain ≤ domain_limit = le_yes (length domain) domain_limit (and_parts (nat_le 1 (length domain)) (nat_le (length domain) domain_limit) tests.0).1 in
    let back = behind_domain dot number in
    let front = length-append (codes "http://") (domain ++ back) in
    let rest = length-append domain back in
    let end = short_behind dot number short t n in
    let size : length (fresh_iri domain dot number) ≤ iri_limit = omega (arith, front, rest, end, within) in
    let all : IsClean (fresh_iri domain dot number) =
    clean_append (codes "http://") (domain ++ back) refl (clean_append domain back (clean_domain domain tests.1) (clean_behind dot number letters t n)) in
    and_from (nat_le (length (fresh_iri domain dot number)) iri_limit) _ (le_test _ iri_limit size) all
