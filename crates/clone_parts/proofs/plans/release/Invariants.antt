use Rattle.std.proofs.Common.{length}
use Rattle.clone_parts.proofs.Planning.{IsReleasing}
use Rattle.clone_parts.proofs.plans.release.Given as goal

abbrev pub invariant-loop-entry : goal.invariant-loop-entry
invariant-loop-entry l = IsReleasing l.pairs.pairs l.initial.plan l.initial.held l.plan l.held

abbrev pub decreases-loop-entry : goal.decreases-loop-entry
decreases-loop-entry l = length l.held
