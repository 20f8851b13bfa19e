use Rattle.std.proofs.Common.{take}
use Rattle.mld_ops.specs.Picking.{HasNone}
use Rattle.clone_history.proofs.PastSteps.{IsLacking}
use Rattle.clone_history.proofs.checks.first_lacking.Given as goal

abbrev pub invariant-loop-path : goal.invariant-loop-path
invariant-loop-path l = HasNone (IsLacking l.clock.ticks l.ends) (take l.path-index l.ends)
