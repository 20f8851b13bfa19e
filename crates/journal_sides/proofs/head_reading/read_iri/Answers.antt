use Rattle.std.proofs.Common.{not, inl, inr, sym, ap, subst}
use Rattle.std.proofs.lemmas.Result.{err_from_is_err_and}
use Rattle.std.proofs.lemmas.Bool.{cases_Bool}
use Rattle.std.specs.Str.{IsUtf8}
use Rattle.text_rules.specs.Iri.{is_absolute}
use Rattle.journal_sides.proofs.FieldReading.{text_read, text_no_utf8}
use Rattle.journal_sides.proofs.head_reading.read_iri.Goals as goal

pub returns-in_err-start : goal.returns-in_err-start
returns-in_err-start c =
    let p = err_from_is_err_and c.from_residual.result c.from_residual.ensures.1 in rw (p.1, p.2) (c.in_err-start.ensures is_absolute)

pub returns-in_default : goal.returns-in_default
returns-in_default c = text_no_utf8 is_absolute c.args.input.now c.args.at c.in_ok-start.start c.in_ok-start.stop c.in_ok-start.ensures c.in_default.ensures.cases.0

pub returns-in-Ok-new : goal.returns-in-Ok-new
returns-in-Ok-new c =
    let e = c.in-Ok.ensures.cases.0 in
    rw c.in-Ok-new.ensures.ok (text_read is_absolute c.args.input.now c.args.at c.in_ok-start.start c.in_ok-start.stop c.in_ok-start.ensures c.in-Ok.text.now e (subst IsUtf8 (sym e) c.in-Ok.ensures.cases.1)
    (elim (cases_Bool (is_absolute c.in-Ok.text.now)) [
      | inl t ↦ t
      | inr f ↦ let k = c.in-Ok-new.ensures.bad_iri.1 (ap not f) in absurd (cc k)
    ]))
