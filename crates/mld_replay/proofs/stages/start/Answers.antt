use Rattle.net_world.specs.world_commands.WorldBanks.{banks_of}
use Rattle.mld_replay.specs.Stages.{banks_of_stage}
use Rattle.mld_replay.proofs.MeterLemmas.{unarmed_later}
use Rattle.mld_replay.proofs.StageLemmas.{started_all, well_after, stops_after}
use Rattle.std.proofs.Common.{◌∷◌}
use Rattle.std.proofs.lemmas.Result.{err_from_is_err_and}
use Rattle.mld_replay.proofs.StoppedLemmas.{started_left, due_by}
use Rattle.mld_replay.proofs.stages.start.Goals as goal

pub step-done-requires-clause-unarmed : goal.step-done-requires-clause-unarmed
step-done-requires-clause-unarmed g c = λ κs outlives.
    unarmed_later g.B.Banks.meter (banks_of_stage c.args.stage.now) (banks_of c.in_ok-world.world) c.in_ok-world.ensures.well.meters c.requires.unarmed

pub returns-clause-ok : goal.returns-clause-ok
returns-clause-ok g c =
    started_all g.B.Banks.log c.step-done.result c.args.stage.now c.args.command.now c.in_ok-world.world c.step-done.new.world c.step-done.new.reply.items c.step-done.ensures.ok c.step-done.ensures.settled c.in_ok-world.ensures.ok

pub returns-clause-well : goal.returns-clause-well
returns-clause-well g c =
    well_after g.B.Banks.meter (banks_of_stage c.args.stage.now) (banks_of c.in_ok-world.world) (banks_of c.step-done.new.world) c.step-done.result c.in_ok-world.ensures.well c.step-done.ensures.well

pub returns-clause-back : goal.returns-clause-back
returns-clause-back g c =
    stops_after g.B.Banks.meter (banks_of_stage c.args.stage.now) (banks_of c.in_ok-world.world) (banks_of c.step-done.new.world) c.step-done.result c.in_ok-world.ensures.well c.step-done.ensures.back

pub returns-clause-left : goal.returns-clause-left
returns-clause-left g c =
    started_left g.B.Banks.log g.met.B.CrashBanks.tells c.step-done.result c.args.stage.now c.args.command.now c.in_ok-world.world c.step-done.new.world c.requires.numbers c.in_ok-world.ensures.ok c.step-done.ensures.left

pub returns-in_err-world-clause-left : goal.returns-in_err-world-clause-left
returns-in_err-world-clause-left g c =
    let p = err_from_is_err_and c.from_residual.result c.from_residual.ensures.1 in
    rw (p.1, p.2) (λ line rest model stands spells. c.in_err-world.ensures.left (line ∷ rest) model stands (due_by model line rest c.args.command.now spells))
