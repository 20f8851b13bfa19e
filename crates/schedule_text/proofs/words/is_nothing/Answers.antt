use Rattle.std.proofs.Common.{◌≡◌, length, refl, sym, ◌∙◌, arith}
use Rattle.std.specs.Str.{IsValidUpTo, valid_up_to}
use Rattle.std.proofs.lemmas.Bool.{eqb-true, eqb-false}
use Rattle.schedule_text.proofs.LinesText.{nothing_empty, text_tested, nothing_tested}
use Rattle.schedule_text.proofs.words.is_nothing.Goals as goal

pub returns-then-is_empty : goal.returns-then-is_empty
returns-then-is_empty c = (
  λ h. nothing_empty c.args.line.now (eqb-true (length c.args.line.now) 0 (sym c.is_empty.ensures ∙ c.if-is_empty.true)),
  λ h. refl,
)

pub returns-then-line-eq35 : goal.returns-then-line-eq35
returns-then-line-eq35 c =
    let some = eqb-false (length c.args.line.now) 0 (sym c.is_empty.ensures ∙ c.if-is_empty.false) in
    let tested = text_tested (λ s. s.now ≡ c.args.line.now) (λ e. IsValidUpTo c.args.line.now (valid_up_to e)) c.from_utf8.result c.args.line.now c.from_utf8.ensures.cases in
    nothing_tested c.args.line.now c.is_ok.result (omega (arith, some)) c.if-line-eq35.true
    (λ h. tested.0 (sym c.is_ok.ensures.value ∙ h), λ h. c.is_ok.ensures.value ∙ tested.1 h)
