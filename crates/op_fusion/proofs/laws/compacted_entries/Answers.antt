use Rattle.op_fusion.proofs.Runs as runs
use Rattle.op_fusion.proofs.FusedCuts as laws
use Rattle.op_fusion.proofs.FusedOnce as once
use Rattle.op_fusion.proofs.laws.compacted_entries.Goals as goal

pub returns-clause-ranges : goal.returns-clause-ranges
returns-clause-ranges c = runs.fused_runs_are_compacted

pub returns-clause-one : goal.returns-clause-one
returns-clause-one c = once.one_fused_run

pub returns-clause-entry : goal.returns-clause-entry
returns-clause-entry c = runs.fused_is_entry

pub returns-clause-ready : goal.returns-clause-ready
returns-clause-ready c = laws.fused_is_ready

pub returns-clause-clock : goal.returns-clause-clock
returns-clause-clock c = laws.fused_raises_both

pub returns-clause-cut : goal.returns-clause-cut
returns-clause-cut c = laws.fused_cuts_both
