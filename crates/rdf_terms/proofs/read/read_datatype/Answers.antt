use Rattle.std.proofs.Common.{sym, ap, ◌∙◌}
use Rattle.std.proofs.lemmas.Result.{err_from_is_err_and}
use Rattle.rdf_terms.specs.Literal.{is_same, rdf_lang_string}
use Rattle.rdf_terms.proofs.ReadLemmas.{second_hat_missed, datatype_stops, datatype_leads, lang_string_stops}
use Rattle.rdf_terms.proofs.read.read_datatype.Goals as goal

pub returns-in_err-begun : goal.returns-in_err-begun
returns-in_err-begun c =
    let p = err_from_is_err_and c.from_residual.result c.from_residual.ensures.1 in
    rw (p.1, p.2) (second_hat_missed c.args.text.now c.args.at c.in_err-begun.field-0.0 c.args.lexical c.requires c.in_err-begun.ensures)

pub returns-in_err-datatype : goal.returns-in_err-datatype
returns-in_err-datatype c =
    let p = err_from_is_err_and c.from_residual-in_err-datatype.result c.from_residual-in_err-datatype.ensures.1 in
    rw (p.1, p.2) (datatype_stops c.args.text.now c.args.at c.in_ok-begun.begun c.in_err-datatype.field-0.0 c.args.lexical c.in_ok-begun.ensures c.in_err-datatype.ensures)

pub returns-then-is_lang_string : goal.returns-then-is_lang_string
returns-then-is_lang_string c =
    lang_string_stops c.args.text.now c.args.at c.in_ok-begun.begun c.in_ok-datatype.datatype c.in_ok-datatype.next c.args.lexical c.in_ok-begun.ensures c.in_ok-datatype.ensures
    (sym (c.is_lang_string.ensures ∙ ap (λ l. is_same l rdf_lang_string) c.as_str.ensures) ∙ c.if-is_lang_string.true)

pub returns : goal.returns
returns c =
    datatype_leads c.args.text.now c.args.at c.in_ok-begun.begun c.in_ok-datatype.datatype c.in_ok-datatype.next c.args.lexical c.in_ok-begun.ensures c.in_ok-datatype.ensures
    (sym (c.is_lang_string.ensures ∙ ap (λ l. is_same l rdf_lang_string) c.as_str.ensures) ∙ c.if-is_lang_string.false)
