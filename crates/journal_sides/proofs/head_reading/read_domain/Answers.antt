use Rattle.std.proofs.Common.{sym, ◌∙◌, subst}
use Rattle.std.proofs.lemmas.Result.{err_from_is_err_and}
use Rattle.std.specs.Str.{IsUtf8}
use Rattle.text_rules.specs.Domain.{is_domain}
use Rattle.journal_sides.proofs.FieldReading.{text_read, text_unfit, text_no_utf8}
use Rattle.journal_sides.proofs.head_reading.read_domain.Goals as goal

pub returns-in_err-start : goal.returns-in_err-start
returns-in_err-start c =
    let p = err_from_is_err_and c.from_residual.result c.from_residual.ensures.1 in rw (p.1, p.2) (c.in_err-start.ensures is_domain)

pub returns-in_default : goal.returns-in_default
returns-in_default c = text_no_utf8 is_domain c.args.input.now c.args.at c.in_ok-start.start c.in_ok-start.stop c.in_ok-start.ensures c.in_default.ensures.cases.0

pub returns-then-not-is_domain : goal.returns-then-not-is_domain
returns-then-not-is_domain c =
    text_unfit is_domain c.args.input.now c.args.at c.in_ok-start.start c.in_ok-start.stop c.in_ok-start.ensures c.in-Ok.text.now c.in-Ok.ensures.cases.0 (sym c.is_domain.ensures ∙ c.if-not-is_domain.true)

pub returns : goal.returns
returns c =
    let e = c.in-Ok.ensures.cases.0 in
    rw c.in_ok-new.ensures (text_read is_domain c.args.input.now c.args.at c.in_ok-start.start c.in_ok-start.stop c.in_ok-start.ensures c.in-Ok.text.now e (subst IsUtf8 (sym e) c.in-Ok.ensures.cases.1)
    (sym c.is_domain.ensures ∙ c.if-not-is_domain.false))
