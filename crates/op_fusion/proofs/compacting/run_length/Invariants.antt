use Rattle.op_fusion.proofs.Rows.{AreInRowUpTo}
use Rattle.op_fusion.proofs.compacting.run_length.Given as goal

abbrev pub invariant-loop-place : goal.invariant-loop-place
invariant-loop-place l = AreInRowUpTo l.entries l.place
