use Rattle.std.proofs.Common.{All, take}
use Rattle.mld_ops.specs.declared.tagged.Tagged.{Tagged}
use Rattle.op_codec.specs.Stored.{IsShortTriple}
use Rattle.op_codec.proofs.short.is_short_list.Given as goal

abbrev pub invariant-loop-pair : goal.invariant-loop-pair
invariant-loop-pair l = All (λ (pair : Tagged). IsShortTriple pair.triple) (take l.pair-index l.pairs)
