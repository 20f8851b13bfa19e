use Rattle.std.proofs.Common.{arith}
use Rattle.graph_index.proofs.Changing.{gone_more}
use Rattle.graph_index.proofs.changes.remove_all.Goals as goal

pub loop-drop-preserved : goal.loop-drop-preserved
loop-drop-preserved c = record {
  ascending = c.remove.ensures.ascending;
  members = gone_more c.args.pairs.now.elements c.loop-drop.pairs.elements _ c.args.drops.now c.loop-drop.drop-index _ c.loop-drop-test.true c.drop-item.is c.loop-drop.invariant.members c.remove.ensures.members;
  room = omega (arith, c.remove.ensures.room, c.loop-drop.invariant.room);
}
