use Rattle.std.proofs.Common.{◌≡◌, take}
use Rattle.mld_ops.specs.PairLists.{rows_pairs}
use Rattle.mld_ops.proofs.pair_lists.list_of.Given as goal

abbrev pub invariant-loop-row : goal.invariant-loop-row
invariant-loop-row l = l.list.items ≡ rows_pairs l.paths (take l.row-index l.rows)
