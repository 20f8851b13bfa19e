use Rattle.op_fusion.proofs.Rows.{AreBehind}
use Rattle.op_fusion.proofs.compacting.has_neighbours.Given as goal

abbrev pub invariant-loop-place : goal.invariant-loop-place
invariant-loop-place l = AreBehind l.entries l.place
