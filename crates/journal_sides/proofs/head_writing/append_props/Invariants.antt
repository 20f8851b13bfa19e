use Rattle.text_rules.specs.Iri.{is_absolute}
use Rattle.mld_bytes.specs.Bytes.{piece_bytes}
use Rattle.op_codec.proofs.Appending.{HasItems}
use Rattle.op_codec.proofs.Shapes.{EachBelow}
use Rattle.journal_sides.specs.StoredVolumes.{IsText}
use Rattle.journal_sides.proofs.head_writing.append_props.Given as goal

abbrev pub invariant-loop-iri : goal.invariant-loop-iri
invariant-loop-iri l = record { items : HasItems piece_bytes l.props l.fn.out.items l.iri-index l.out.items; each : EachBelow (IsText is_absolute) l.props l.iri-index }
