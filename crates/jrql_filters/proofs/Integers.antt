-- The numbers of signs and digits.
use Rattle.std.proofs.Common.{◌≡◌, ℤ, List, ℕ, true, ◌&&◌, Result, Ok, length, nat_le, leb-true}
use Rattle.std.specs.Int.{w128}
use Rattle.std.specs.Str.{all_ascii_digits}
use Rattle.std.specs.Str.Parse.{ParsesSigned, without_leading_sign, signed_digits_value}
use Rattle.std.proofs.lemmas.Bool.{and_parts}
use Rattle.text_rules.specs.Integers.{plain_digit_limit}
use Rattle.text_rules.proofs.Numbers.{digits_parsed}
use Rattle.jrql_ast.specs.FilterMeaning.{is_integer_text}

-- a text of a sign or none and few digits is read as its number
pub parsed : {E : Type 0} (text : List ℕ) (r : Result ℤ E) → ParsesSigned w128 10 text r → is_integer_text text ≡ true → r ≡ Ok (signed_digits_value 10 text)
parsed text r h is =
    let digits = without_leading_sign text in
    let first = and_parts (nat_le 1 (length digits)) (nat_le (length digits) plain_digit_limit && all_ascii_digits digits) is in
    let second = and_parts (nat_le (length digits) plain_digit_limit) (all_ascii_digits digits) first.1 in
    digits_parsed text r h (record { some = leb-true 1 (length digits) first.0; few = leb-true (length digits) plain_digit_limit second.0; decimal = second.1 })
