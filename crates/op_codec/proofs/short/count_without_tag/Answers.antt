use Rattle.std.proofs.Common.{◌∙◌, length, ap, arith}
use Rattle.rdf_terms.specs.Literal.{lexical_form}
use Rattle.op_codec.proofs.ShortTriples.{form_count}
use Rattle.op_codec.proofs.short.count_without_tag.Goals as goal

pub overflow_add-result : goal.overflow_add-result
overflow_add-result c =
    let form = form_count c.as_bytes.result.now (lexical_form c.args.literal.now) c.lexical_count.result (c.as_bytes.ensures.value ∙ c.lexical.ensures) c.lexical_count.ensures c.requires.lexical in
    let subject = ap length c.as_str.ensures.text in
    let predicate = ap length c.as_str-2.ensures.text in
    omega (arith, form.1, subject, predicate, c.requires.within.subject, c.requires.within.predicate)

pub overflow_add-result-2 : goal.overflow_add-result-2
overflow_add-result-2 c =
    let form = form_count c.as_bytes.result.now (lexical_form c.args.literal.now) c.lexical_count.result (c.as_bytes.ensures.value ∙ c.lexical.ensures) c.lexical_count.ensures c.requires.lexical in
    let subject = ap length c.as_str.ensures.text in
    let predicate = ap length c.as_str-2.ensures.text in
    omega (arith, form.1, subject, predicate, c.requires.within.subject, c.requires.within.predicate)

pub returns-clause-bounded : goal.returns-clause-bounded
returns-clause-bounded c =
    let form = form_count c.as_bytes.result.now (lexical_form c.args.literal.now) c.lexical_count.result (c.as_bytes.ensures.value ∙ c.lexical.ensures) c.lexical_count.ensures c.requires.lexical in
    let subject = ap length c.as_str.ensures.text in
    let predicate = ap length c.as_str-2.ensures.text in
    omega (arith, form.1, subject, predicate, c.requires.within.subject, c.requires.within.predicate)
