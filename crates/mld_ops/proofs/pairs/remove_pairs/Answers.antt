use Rattle.std.proofs.Common.{arith, ◌∙◌}
use Rattle.mld_ops.proofs.Searching.{removed_more}
use Rattle.mld_ops.proofs.pairs.remove_pairs.Goals as goal

pub loop-delete-preserved : goal.loop-delete-preserved
loop-delete-preserved c = record {
  ascending = c.remove_pair.ensures.ascending;
  members = removed_more c.args.pairs.now.items c.loop-delete.pairs.items _ c.args.deletes.now c.loop-delete.delete-index _ c.loop-delete-test.true c.delete-item.is c.loop-delete.invariant.members c.remove_pair.ensures.members;
  len = omega (arith, c.remove_pair.ensures.len, c.loop-delete.invariant.len);
  capacity = c.remove_pair.ensures.capacity ∙ c.loop-delete.invariant.capacity;
}
