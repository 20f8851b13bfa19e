use Rattle.std.proofs.Common.{length, ◌+◌}
use Rattle.op_fusion.proofs.Merging.{IsMerging}
use Rattle.op_fusion.proofs.pairs.merge.Given as goal

abbrev pub invariant-loop-pair : goal.invariant-loop-pair
invariant-loop-pair l = IsMerging l.initial.left.items l.initial.right.items l.left.items l.right.items l.merged.items

abbrev pub decreases-loop-pair : goal.decreases-loop-pair
decreases-loop-pair l = length l.left.items + length l.right.items
