use Rattle.std.proofs.Common.{drop}
use Rattle.text_rules.specs.Iri.{is_absolute}
use Rattle.op_codec.proofs.ListLaws.{IsUnderWay}
use Rattle.op_codec.specs.StoredLists.{is_above, read_list}
use Rattle.rdf_terms.specs.Order.{iri_cmp}
use Rattle.journal_sides.specs.Heads.{read_text}
use Rattle.journal_sides.proofs.head_reading.read_props.Given as goal

abbrev pub invariant-loop-done : goal.invariant-loop-done
invariant-loop-done l =
    IsUnderWay (read_text is_absolute) (is_above iri_cmp) l.fn.input (read_list (read_text is_absolute) (is_above iri_cmp) l.fn.at (drop l.fn.at l.fn.input)) l.count l._done l.props.items l.place
