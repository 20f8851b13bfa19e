use Rattle.std.proofs.Common.{◌≡◌, ◌<◌, arith, rules, sym, ◌∙◌, get_or, length}
use Rattle.std.proofs.lemmas.Bool.{false≢true}
use Rattle.schedule_text.proofs.LinesNumbers.{decimal_text, unread, plain_read, not_empty, no_plus, no_zeros, only_one}
use Rattle.schedule_text.proofs.numbers.read_number.Goals as goal

pub returns-then-is_empty : goal.returns-then-is_empty
returns-then-is_empty c = let empty : ¬ (0 < length c.args.text.now) = search rules in not_empty c.args.text.now empty

pub returns-then-text-eq43 : goal.returns-then-text-eq43
returns-then-text-eq43 c = no_plus c.args.text.now (omega (arith, c.if-text-eq43.true))

pub returns-then-has_needless_zero : goal.returns-then-has_needless_zero
returns-then-has_needless_zero c = let zero = c.has_needless_zero.ensures.0 c.if-has_needless_zero.true in no_zeros c.args.text.now zero.0 zero.1

pub returns-in_default : goal.returns-in_default
returns-in_default c = λ number below same. c.in_default.ensures.cases.0 (decimal_text c.args.text.now number below same)

pub returns-in-Ok-parse : goal.returns-in-Ok-parse
returns-in-Ok-parse c =
    let some : 0 < length c.args.text.now = search rules in
    let zeros : get_or c.args.text.now 0 0 ≡ 48 → length c.args.text.now ≡ 1 = λ zero.
    only_one (length c.args.text.now) some (λ more. false≢true (sym c.if-has_needless_zero.false ∙ c.has_needless_zero.ensures.1 (zero, more))) in
    plain_read c.args.text.now c.in-Ok.text.now c.parse.result c.in-Ok-parse.number c.in-Ok.ensures.cases.0 c.if-text-eq43.false zeros c.in-Ok-parse.is c.parse.ensures.value.0

pub returns-in-Err : goal.returns-in-Err
returns-in-Err c = unread c.args.text.now c.in-Ok.text.now c.parse.result c.in-Err.field-0 c.in-Ok.ensures.cases.0 c.in-Err.is c.parse.ensures.value.0
