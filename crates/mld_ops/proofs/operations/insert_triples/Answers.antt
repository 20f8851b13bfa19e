use Rattle.mld_ops.proofs.Computing.{triple_more, tagged_alike}
use Rattle.mld_ops.proofs.operations.insert_triples.Goals as goal

pub loop-triple-preserved : goal.loop-triple-preserved
loop-triple-preserved c = record {
  ascending = c.insert_unless_deleted.ensures.ascending;
  members = triple_more c.args.history.now c.args.known.now c.args.pairs.now.items c.loop-triple.pairs.items c.insert_unless_deleted.new.pairs.items
      c.args.dot.now c.args.triples.now c.loop-triple.triple-index c.triple-item.result (record { triple = c.in_ok-share.field-0; dot = c.args.dot.now }) c.loop-triple-test.true c.triple-item.is (tagged_alike c.in_ok-share.field-0 c.triple-item.result c.args.dot.now c.in_ok-share.ensures)
      c.loop-triple.invariant.members c.in_ok-insert_unless_deleted.ensures.ok;
}
