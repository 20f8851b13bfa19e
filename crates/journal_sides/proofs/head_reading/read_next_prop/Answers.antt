use Rattle.std.proofs.Common.{ℕ, List, sym, ap, ◌∙◌}
use Rattle.std.proofs.lemmas.Result.{err_from_is_err_and}
use Rattle.text_rules.specs.Iri.{is_absolute}
use Rattle.op_codec.specs.StoredLists.{is_above}
use Rattle.op_codec.proofs.ListLaws.{item_taken, item_unfit, item_refused}
use Rattle.rdf_terms.specs.Order.{iri_cmp}
use Rattle.journal_sides.specs.Heads.{read_text}
use Rattle.journal_sides.proofs.head_reading.read_next_prop.Goals as goal

pub returns-in_err-prop : goal.returns-in_err-prop
returns-in_err-prop c =
    let p = err_from_is_err_and c.from_residual.result c.from_residual.ensures.1 in
    rw (p.1, p.2) (item_refused (read_text is_absolute) (is_above iri_cmp) c.args.input.now c.args.props.now.items c.args.place c.in_err-prop.field-0.0 c.in_err-prop.ensures)

pub returns-then-not-is_above : goal.returns-then-not-is_above
returns-then-not-is_above c =
    item_unfit (read_text is_absolute) (is_above iri_cmp) c.args.input.now c.args.props.now.items c.args.place c.in_ok-prop.prop c.in_ok-prop.next c.in_ok-prop.ensures (ap (λ (props : List (List ℕ)). is_above iri_cmp props c.in_ok-prop.prop) (sym c.deref.ensures.value) ∙ sym c.is_above.ensures ∙ c.if-not-is_above.true)

pub returns : goal.returns
returns c =
    rw c.in_ok-push_prop.ensures (item_taken (read_text is_absolute) (is_above iri_cmp) c.args.input.now c.args.props.now.items c.args.place c.in_ok-prop.prop c.in_ok-prop.next c.in_ok-prop.ensures (ap (λ (props : List (List ℕ)). is_above iri_cmp props c.in_ok-prop.prop) (sym c.deref.ensures.value) ∙ sym c.is_above.ensures ∙ c.if-not-is_above.false))
