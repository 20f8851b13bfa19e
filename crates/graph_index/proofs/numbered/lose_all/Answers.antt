use Rattle.std.proofs.Common.{arith}
use Rattle.graph_index.specs.Graphs.{pairs_of}
use Rattle.graph_index.proofs.Changing.{gone_more}
use Rattle.graph_index.proofs.numbered.lose_all.Goals as goal

pub loop-drop-preserved : goal.loop-drop-preserved
loop-drop-preserved c = record {
  numbered = c.lose.ensures.numbered;
  members = gone_more (pairs_of c.args.tables.now.paths c.args.numbered.now.pairs) (pairs_of c.args.tables.now.paths c.loop-drop.numbered.pairs) (pairs_of c.args.tables.now.paths c.lose.new.numbered.pairs) c.args.drops.now c.loop-drop.drop-index c.drop-item.result c.loop-drop-test.true c.drop-item.is c.loop-drop.invariant.members c.lose.ensures.members;
  room = omega (arith, c.lose.ensures.room, c.loop-drop.invariant.room);
}
