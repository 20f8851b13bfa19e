use Rattle.schedule_text.specs.schedule_model.Runs.{Running}
use Rattle.mld_replay.specs.declared.stages.Stage.TheVariants as stages
use Rattle.mld_replay.proofs.StageLemmas.{commanded_all, spells_read, nothing_said}
use Rattle.net_world.specs.world_commands.WorldBanks.{banks_of}
use Rattle.std.proofs.Common.{refl}
use Rattle.std.proofs.lemmas.Result.{err_from_is_err_and}
use Rattle.mld_replay.proofs.StoppedLemmas.{unread_unfailed, stops_still, commanded_left}
use Rattle.mld_replay.proofs.stages.command.Goals as goal

pub returns-in-None-clause-ok : goal.returns-in-None-clause-ok
returns-in-None-clause-ok g c = λ model stands.
    rw c.requires.empty (nothing_said g.B.Banks.log (Running model) c.domain.result.now c.args.line.now c.in_ok-read_command.field-0 (stages.Running c.args.world.now) c.in-None.is c.in_ok-read_command.ensures.ok stands)

pub returns-in-Some-clause-ok : goal.returns-in-Some-clause-ok
returns-in-Some-clause-ok g c =
    commanded_all g.B.Banks.log c.step.result c.domain.result.now c.args.line.now c.in-Some.command c.args.world.now c.step.new.world c.step.new.reply.items
    c.domain.ensures.text (spells_read c.domain.result.now c.args.line.now c.in_ok-read_command.field-0 c.in-Some.command c.in-Some.is c.in_ok-read_command.ensures.ok) c.step.ensures.ok c.step.ensures.settled

pub returns-in-Some-clause-left : goal.returns-in-Some-clause-left
returns-in-Some-clause-left g c =
    commanded_left g.B.Banks.log g.met.B.CrashBanks.tells c.step.result c.domain.result.now c.args.line.now c.in-Some.command c.args.world.now c.step.new.world
    c.domain.ensures.text (spells_read c.domain.result.now c.args.line.now c.in_ok-read_command.field-0 c.in-Some.command c.in-Some.is c.in_ok-read_command.ensures.ok) c.step.ensures.left

pub returns-in_err-read_command-clause-left : goal.returns-in_err-read_command-clause-left
returns-in_err-read_command-clause-left g c =
    let p = err_from_is_err_and c.from_residual.result c.from_residual.ensures.1 in
    rw (p.1, p.2) (λ rest. stops_still g.B.Banks.log (stages.Running c.args.world.now) (banks_of c.args.world.now) _ _ (unread_unfailed c.in_err-read_command.field-0.0) refl)
