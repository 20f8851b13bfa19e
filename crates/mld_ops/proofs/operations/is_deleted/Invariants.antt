use Rattle.std.proofs.Common.{take}
use Rattle.mld_ops.specs.Deleted.{IsDeleted}
use Rattle.mld_ops.proofs.operations.is_deleted.Given as goal

abbrev pub invariant-loop-operation : goal.invariant-loop-operation
invariant-loop-operation l = ¬ IsDeleted (take l.operation-index l.history) l.known l.pair
