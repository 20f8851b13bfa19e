use Rattle.std.proofs.Common.{◌≡◌, ◌≤◌, length}
use Rattle.std.specs.Vec.Iter.{into_iter_items, into_iter_len}
use Rattle.mld_ops.proofs.PairRows.{AreRowsSoFar}
use Rattle.mld_ops.proofs.pair_lists.rows_of.Given as goal

abbrev pub invariant-loop-pair : goal.invariant-loop-pair
invariant-loop-pair l = record {
  rows : AreRowsSoFar l.paths.items l.rows.items (into_iter_items l.pair-iterator) l.fn.list.items;
  ordered : l.ordered ≤ length l.paths.items;
  counted : into_iter_len l.pair-iterator ≡ length (into_iter_items l.pair-iterator);
}
