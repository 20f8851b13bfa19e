use Rattle.std.proofs.Common.{IfErr, subst, sym, rules, ◌∷◌, ap}
use Rattle.mld_replay.specs.Stages.{StageStands, banks_of_stage}
use Rattle.mld_replay.specs.Stops.{StopBringsBack}
use Rattle.mld_replay.specs.declared.stages.Stage.TheVariants as stages
use Rattle.schedule_text.specs.ReadLines.{IsBadCommand}
use Rattle.mld_replay.proofs.StageLemmas.{bad_here, nothing_said, started_here}
use Rattle.std.proofs.lemmas.Result.{err_from_is_err_and}
use Rattle.mld_replay.proofs.StoppedLemmas.{unread_unfailed, stops_still, stopped_here}
use Rattle.mld_replay.proofs.stages.first.Goals as goal

pub returns-in-None-clause-ok : goal.returns-in-None-clause-ok
returns-in-None-clause-ok g c = λ model stands.
    rw c.requires.empty (nothing_said g.B.Banks.log model c.as_str.result.now c.args.line.now c.in_ok-read_command-in-SetUp.field-0 (stages.SetUp c.in-SetUp.setup c.in-SetUp.field-1) c.in-None.is
    c.in_ok-read_command-in-SetUp.ensures.ok (subst (λ state. StageStands g.B.Banks.log state model) c.in-SetUp.is stands))

pub returns-in-Some-clause-ok : goal.returns-in-Some-clause-ok
returns-in-Some-clause-ok g c =
    started_here g.B.Banks.log c.start.result c.args.stage.now c.in-SetUp.setup c.in-SetUp.field-1 c.as_str.result.now c.args.line.now c.in_ok-read_command-in-SetUp.field-0 c.in-Some.command
    c.start.new.stage c.start.new.reply.items c.in-SetUp.is c.as_str.ensures c.in-Some.is c.in_ok-read_command-in-SetUp.ensures.ok c.start.ensures.ok

pub returns-in-Some-clause-back : goal.returns-in-Some-clause-back
returns-in-Some-clause-back g c =
    subst (λ state. IfErr c.start.result (StopBringsBack g.B.Banks.meter (banks_of_stage state) (banks_of_stage c.start.new.stage))) (sym c.in-SetUp.is) c.start.ensures.back

pub returns-in_err-read_command-in-SetUp-clause-bad : goal.returns-in_err-read_command-in-SetUp-clause-bad
returns-in_err-read_command-in-SetUp-clause-bad g c = λ is.
    let bad : IsBadCommand c.as_str.result.now c.args.line.now = search rules in
    bad_here g.B.Banks.log c.args.stage.now c.in-SetUp.setup c.in-SetUp.field-1 c.as_str.result.now c.args.line.now c.in-SetUp.is c.as_str.ensures c.requires.none bad

pub returns-in-Some-clause-left : goal.returns-in-Some-clause-left
returns-in-Some-clause-left g c =
    stopped_here g.B.Banks.log c.start.result c.args.stage.now c.in-SetUp.setup c.in-SetUp.field-1 c.as_str.result.now c.args.line.now c.in_ok-read_command-in-SetUp.field-0 c.in-Some.command
    (banks_of_stage c.start.new.stage) c.in-SetUp.is c.as_str.ensures c.in-Some.is c.in_ok-read_command-in-SetUp.ensures.ok c.start.ensures.left

pub returns-in_err-read_command-in-SetUp-clause-left : goal.returns-in_err-read_command-in-SetUp-clause-left
returns-in_err-read_command-in-SetUp-clause-left g c =
    let p = err_from_is_err_and c.from_residual.result c.from_residual.ensures.1 in
    rw (p.1, p.2) (λ rest. stops_still g.B.Banks.log c.args.stage.now c.in-SetUp.field-1.items (c.args.line.now ∷ rest) _ (unread_unfailed c.in_err-read_command-in-SetUp.field-0.0) (sym (ap banks_of_stage c.in-SetUp.is)))
