use Rattle.std.proofs.Common.{length}
use Rattle.op_fusion.proofs.Sifting.{IsSifting}
use Rattle.op_fusion.proofs.pairs.sift.Given as goal

abbrev pub invariant-loop-pair : goal.invariant-loop-pair
invariant-loop-pair l = IsSifting l.wanted l.others l.initial.rest.items l.rest.items l.sifted.items l.place

abbrev pub decreases-loop-pair : goal.decreases-loop-pair
decreases-loop-pair l = length l.rest.items
