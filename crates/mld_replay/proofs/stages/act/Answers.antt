use Rattle.schedule_text.specs.schedule_model.Runs.{IsBad}
use Rattle.mld_replay.proofs.StageLemmas.{running_stage}
use Rattle.std.proofs.Common.{sym}
use Rattle.mld_replay.specs.Stages.{banks_of_stage}
use Rattle.mld_replay.specs.declared.stages.Stage.TheVariants as stages
use Rattle.mld_replay.proofs.StoppedLemmas.{stops_kept, stopped_same}
use Rattle.mld_replay.proofs.stages.act.Goals as goal

pub returns-in-Running-clause-bad : goal.returns-in-Running-clause-bad
returns-in-Running-clause-bad g c = λ is.
    running_stage g.B.Banks.log (λ stage. IsBad stage c.args.line.now) c.args.stage.now c.in-Running.world c.in-Running.is (λ model stands sound. c.command.ensures.bad is model stands)

pub returns-in-Waiting-clause-left : goal.returns-in-Waiting-clause-left
returns-in-Waiting-clause-left g c = stops_kept g.B.Banks.log c.set_up.result c.args.stage.now c.set_up.new.stage c.args.line.now c.set_up.ensures.device c.set_up.ensures.kept

pub returns-in-Running-clause-left : goal.returns-in-Running-clause-left
returns-in-Running-clause-left g c =
    stopped_same g.B.Banks.log c.command.result c.args.stage.now (stages.Running c.in-Running.world) (banks_of_stage (stages.Running c.command.new.world)) c.args.line.now (sym c.in-Running.is) c.command.ensures.left
