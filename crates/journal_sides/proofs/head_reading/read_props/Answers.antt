use Rattle.std.proofs.Common.{drop}
use Rattle.std.proofs.lemmas.Result.{err_from_is_err_and}
use Rattle.text_rules.specs.Iri.{is_absolute}
use Rattle.op_codec.specs.StoredLists.{is_above, read_list}
use Rattle.op_codec.specs.Reading.{read_u32}
use Rattle.op_codec.proofs.ListLaws.{list_begins, under_way_more, under_way_missed, under_way_done, refused_later}
use Rattle.rdf_terms.specs.Order.{iri_cmp}
use Rattle.journal_sides.specs.Heads.{read_text, read_props}
use Rattle.journal_sides.proofs.head_reading.read_props.Goals as goal

pub loop-done-init : goal.loop-done-init
loop-done-init c =
    rw c.new-props.ensures.items (list_begins (read_text is_absolute) (is_above iri_cmp) c.args.input.now c.args.at c.in_ok-count.count c.in_ok-count.place c.in_ok-count.ensures.agrees)

pub read_next_prop-requires : goal.read_next_prop-requires
read_next_prop-requires c = c.loop-done.invariant.within

pub loop-done-preserved : goal.loop-done-preserved
loop-done-preserved c =
    under_way_more (read_text is_absolute) (is_above iri_cmp) c.args.input.now (read_list (read_text is_absolute) (is_above iri_cmp) c.args.at (drop c.args.at c.args.input.now))
    c.in_ok-count.count c.loop-done._done c.loop-done.props.items c.loop-done.place c.read_next_prop.new.props.items c.in_ok-place.place c.loop-done.invariant c.loop-done-test.true c.in_ok-place.ensures

pub returns-in_err-count : goal.returns-in_err-count
unfolding read_props
returns-in_err-count c =
    let p = err_from_is_err_and c.from_residual.result c.from_residual.ensures.1 in
    rw (p.1, p.2) (refused_later (read_u32 c.args.at (drop c.args.at c.args.input.now)) _ c.in_err-count.field-0.0 c.in_err-count.ensures.agrees)

pub returns-in_err-place : goal.returns-in_err-place
unfolding read_props
returns-in_err-place c =
    let p = err_from_is_err_and c.from_residual-in_err-place.result c.from_residual-in_err-place.ensures.1 in
    rw (p.1, p.2) (under_way_missed (read_text is_absolute) (is_above iri_cmp) c.args.input.now (read_list (read_text is_absolute) (is_above iri_cmp) c.args.at (drop c.args.at c.args.input.now))
    c.in_ok-count.count c.loop-done._done c.loop-done.props.items c.loop-done.place c.in_err-place.field-0.0 c.loop-done.invariant c.loop-done-test.true c.in_err-place.ensures)

pub returns : goal.returns
unfolding read_props
returns c =
    under_way_done (read_text is_absolute) (is_above iri_cmp) c.args.input.now (read_list (read_text is_absolute) (is_above iri_cmp) c.args.at (drop c.args.at c.args.input.now))
    c.in_ok-count.count c.loop-done._done c.loop-done.props.items c.loop-done.place c.loop-done.invariant c.loop-done-test.false
