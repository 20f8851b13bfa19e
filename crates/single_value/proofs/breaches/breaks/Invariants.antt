use Rattle.std.proofs.Common.{length}
use Rattle.single_value.proofs.Breaching.{IsLeft}
use Rattle.single_value.proofs.breaches.breaks.Given as goal

-- those that were passed break nothing
abbrev pub invariant-loop-triple : goal.invariant-loop-triple
invariant-loop-triple l = IsLeft l.props l.graph.pairs l.effect l.left

abbrev pub decreases-loop-triple : goal.decreases-loop-triple
decreases-loop-triple l = length l.left
