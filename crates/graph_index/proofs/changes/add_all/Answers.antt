use Rattle.std.proofs.Common.{arith}
use Rattle.graph_index.proofs.Changing.{come_more}
use Rattle.graph_index.proofs.changes.add_all.Goals as goal

pub loop-element-preserved : goal.loop-element-preserved
loop-element-preserved g c = record {
  ascending = c.insert.ensures.ascending;
  room = omega (arith, c.insert.ensures.room, c.in-Some.ensures.cases, c.loop-element.invariant.room);
  members = come_more c.args.list.now.elements c.args.adds.now.items c.loop-element.list.elements _ c.pop.new.self.items c.loop-element.adds.items c.in-Some.element c.in-Some.ensures.items c.loop-element.invariant.members c.insert.ensures.members;
}
