use Rattle.std.proofs.Common.{take}
use Rattle.mld_ops.specs.Picking.{HasNone}
use Rattle.clone_history.specs.PastStates.{IsOpenIn}
use Rattle.clone_history.proofs.checks.first_open.Given as goal

abbrev pub invariant-loop-entry : goal.invariant-loop-entry
invariant-loop-entry l = HasNone (IsOpenIn l.clock.ticks) (take l.entry-index l.entries)
