-- The properties so far, each with a text that is an IRI.
use Rattle.text_rules.specs.Iri.{is_absolute}
use Rattle.mld_bytes.specs.Bytes.{piece_bytes}
use Rattle.op_codec.proofs.Appending.{count_appended, item_appended, all_appended}
use Rattle.op_codec.proofs.Shapes.{each_none, each_more, each_all}
use Rattle.journal_sides.specs.Heads.{props_bytes}
use Rattle.journal_sides.specs.StoredVolumes.{IsText}
use Rattle.journal_sides.proofs.head_writing.append_props.Goals as goal

pub loop-iri-init : goal.loop-iri-init
loop-iri-init c = record {
  items = count_appended piece_bytes c.args.props.now c.args.out.now.items c.put_u32.new.out.items c.in_ok-put_u32.ensures.ok;
  each = each_none (IsText is_absolute) c.args.props.now;
}

pub loop-iri-preserved : goal.loop-iri-preserved
loop-iri-preserved c = record {
  items =
      item_appended piece_bytes c.args.props.now c.args.out.now.items c.loop-iri.iri-index c.iri-item.result c.loop-iri.out.items c.append_iri.new.out.items c.loop-iri-test.true c.iri-item.is c.loop-iri.invariant.items c.in_ok-append_iri.ensures.ok;
  each = each_more (IsText is_absolute) c.args.props.now c.loop-iri.iri-index c.iri-item.result c.loop-iri.invariant.each c.loop-iri-test.true c.iri-item.is c.in_ok-append_iri.ensures.stored;
}

pub returns-clause-ok : goal.returns-clause-ok
unfolding props_bytes
returns-clause-ok c = all_appended piece_bytes c.args.props.now c.args.out.now.items c.loop-iri.iri-index c.loop-iri.out.items c.loop-iri-test.false c.loop-iri.invariant.items

pub returns-clause-stored : goal.returns-clause-stored
returns-clause-stored c = each_all (IsText is_absolute) c.args.props.now c.loop-iri.iri-index c.loop-iri-test.false c.loop-iri.invariant.each
