use Rattle.mld_ops.specs.PairLists.{rows_pairs}
use Rattle.op_codec.specs.Stored.{HasPairShape}
use Rattle.op_codec.proofs.Shapes.{EachBelow}
use Rattle.op_codec.specs.PairBytes.{pair_bytes}
use Rattle.op_codec.proofs.Appending.{HasItems}
use Rattle.op_codec.proofs.pairs.append_rows.Given as goal

abbrev pub invariant-loop-row : goal.invariant-loop-row
invariant-loop-row l = record {
  items : HasItems pair_bytes (rows_pairs l.paths l.rows) l.fn.out.items l.row-index l.out.items;
  shape : EachBelow HasPairShape (rows_pairs l.paths l.rows) l.row-index;
}
