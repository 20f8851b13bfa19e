use Rattle.std.proofs.Common.{length}
use Rattle.op_fusion.proofs.Rows.{AreCompacting}
use Rattle.op_fusion.proofs.compacting.compact_entries.Given as goal

abbrev pub invariant-loop-rest : goal.invariant-loop-rest
invariant-loop-rest l = AreCompacting l.initial.rest l.rest l.runs.items

abbrev pub decreases-loop-rest : goal.decreases-loop-rest
decreases-loop-rest l = length l.rest
