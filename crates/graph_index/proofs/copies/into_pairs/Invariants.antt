use Rattle.std.proofs.Common.{◌≡◌, ◌++◌, length}
use Rattle.std.specs.Vec.Iter.{into_iter_items, into_iter_len}
use Rattle.mld_ops.specs.PairLists.{rows_pairs}
use Rattle.graph_index.proofs.copies.into_pairs.Given as goal

abbrev pub invariant-loop-row : goal.invariant-loop-row
invariant-loop-row l = record {
  list : l.list.items ++ rows_pairs l.paths (into_iter_items l.row-iterator) ≡ rows_pairs l.paths l.fn.rows.items;
  counted : into_iter_len l.row-iterator ≡ length (into_iter_items l.row-iterator);
}
