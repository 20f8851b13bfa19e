use Rattle.op_codec.specs.Stored.{HasPairShape}
use Rattle.op_codec.proofs.Shapes.{EachBelow}
use Rattle.op_codec.specs.PairBytes.{pair_bytes}
use Rattle.op_codec.proofs.Appending.{HasItems}
use Rattle.op_codec.proofs.pairs.append_pairs.Given as goal

abbrev pub invariant-loop-pair : goal.invariant-loop-pair
invariant-loop-pair l = record { items : HasItems pair_bytes l.pairs l.fn.out.items l.pair-index l.out.items; shape : EachBelow HasPairShape l.pairs l.pair-index }
