use Rattle.std.proofs.Common.{take}
use Rattle.clone_history.specs.PastParts.{ReachesWithin}
use Rattle.clone_history.proofs.checks.reached.Given as goal

abbrev pub invariant-loop-entry : goal.invariant-loop-entry
invariant-loop-entry l = ReachesWithin l.clock.ticks l.base.ticks (take l.entry-index l.entries) l.reached.ticks
