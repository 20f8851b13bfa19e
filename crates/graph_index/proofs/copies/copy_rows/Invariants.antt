use Rattle.std.proofs.Common.{◌≡◌, map, take}
use Rattle.mld_ops.specs.PairLists.{rows_pairs}
use Rattle.graph_index.proofs.copies.copy_rows.Given as goal

abbrev pub invariant-loop-row : goal.invariant-loop-row
invariant-loop-row l = l.list.items ≡ rows_pairs l.paths (map (λ row. row.now) (take l.row-index l.rows))
