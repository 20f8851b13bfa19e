use Rattle.std.proofs.Common.{All, take}
use Rattle.mld_ops.specs.declared.pair_lists.PairRow.{PairRow}
use Rattle.op_codec.specs.Stored.{IsShortTriple}
use Rattle.op_codec.proofs.short.are_short_rows.Given as goal

abbrev pub invariant-loop-row : goal.invariant-loop-row
invariant-loop-row l = All (λ (row : PairRow). IsShortTriple row.triple) (take l.row-index l.rows)
