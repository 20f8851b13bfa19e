use Rattle.std.proofs.Common.{List, ℕ, subst}
use Rattle.std.proofs.lemmas.Result.{err_from_is_err_and}
use Rattle.schedule_text.specs.schedule_model.Step.{number_of_clone}
use Rattle.net_world.specs.world_commands.WorldBanks.{banks_of}
use Rattle.net_world.specs.world_commands.Worlds.{Stepped}
use Rattle.mld_replay.proofs.MeterLemmas.{world_stops}
use Rattle.mld_replay.proofs.StoppedLemmas.{command_refused}
use Rattle.mld_replay.proofs.stages.step.Goals as goal

pub returns-clause-ok : goal.returns-clause-ok
returns-clause-ok g c =
    subst (λ (before : List ℕ). Stepped g.B.Banks.log c.args.world.now c.args.command.now c.step.new.self before c.step.new.out.items) c.requires.empty c.in_ok-step.ensures.done

pub returns-clause-well : goal.returns-clause-well
returns-clause-well g c = record { meters = c.step.ensures.meters; quiet = c.in_ok-step.ensures.faults }

pub returns-in_err-step-clause-back : goal.returns-in_err-step-clause-back
returns-in_err-step-clause-back g c =
    let p = err_from_is_err_and c.from_residual.result c.from_residual.ensures.1 in
    rw (p.1, p.2) (world_stops (Unit {0}) g.B.Banks.meter (number_of_clone c.args.command.now) (banks_of c.args.world.now) (banks_of c.step.new.self) c.in_err-step.field-0.0 c.step.ensures.meters c.in_err-step.ensures.faults)

pub returns-clause-settled : goal.returns-clause-settled
returns-clause-settled g c = c.in_ok-step.ensures.settled

pub returns-in_err-step-clause-left : goal.returns-in_err-step-clause-left
returns-in_err-step-clause-left g c =
    let p = err_from_is_err_and c.from_residual.result c.from_residual.ensures.1 in
    rw (p.1, p.2) (command_refused g.B.Banks.log g.B.Banks.meter c.args.world.now c.args.command.now (banks_of c.step.new.self) c.in_err-step.field-0.0 c.step.ensures.left c.step.ensures.others
    c.in_err-step.ensures.faults c.in_err-step.ensures.device)
