use Rattle.mld_replay.specs.Stages.{banks_of_stage}
use Rattle.mld_replay.proofs.MeterLemmas.{run_of_stop}
use Rattle.mld_replay.proofs.RunLemmas.{bad_fault}
use Rattle.mld_replay.proofs.StoppedLemmas.{ended_by}
use Rattle.mld_replay.proofs.run.do_line.Goals as goal

pub returns-in-Err-clause-bad : goal.returns-in-Err-clause-bad
returns-in-Err-clause-bad g c = λ at is.
    let b = bad_fault c.in-Err.stop c.args.number at c.fault_at_line.result c.fault_at_line.ensures is in
    (b.1, c.in-Err.ensures.bad b.0)

pub returns-in-Err-clause-kept : goal.returns-in-Err-clause-kept
returns-in-Err-clause-kept g c = λ at is.
    let b = bad_fault c.in-Err.stop c.args.number at c.fault_at_line.result c.fault_at_line.ensures is in
    c.in-Err.ensures.kept b.0

pub returns-in-Ok-clause-back : goal.returns-in-Ok-clause-back
returns-in-Ok-clause-back g c = c.in-Ok.ensures.well

pub returns-in-Err-clause-back : goal.returns-in-Err-clause-back
returns-in-Err-clause-back g c = rw c.fault_at_line.ensures (run_of_stop g.B.Banks.meter (banks_of_stage c.args.stage.now) (banks_of_stage c.act.new.stage) c.in-Err.stop c.args.number c.in-Err.ensures.back)

pub returns-in-Err-clause-left : goal.returns-in-Err-clause-left
returns-in-Err-clause-left g c = λ rest stage stands.
    rw c.fault_at_line.ensures (ended_by g.B.Banks.log (banks_of_stage c.act.new.stage) stage _ c.in-Err.stop c.args.number (c.in-Err.ensures.left rest stage stands))
