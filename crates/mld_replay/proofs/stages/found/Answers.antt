use Rattle.std.proofs.Common.{ap, sym, subst}
use Rattle.net_world.specs.world_commands.WorldBanks.{banks_of}
use Rattle.mld_replay.specs.BankFaults.{ComeBackWell}
use Rattle.mld_replay.specs.Stops.{StopBringsBack, LeavesAtStop, stop_of_world}
use Rattle.mld_replay.specs.Stages.{EndsWell, banks_of_stage}
use Rattle.mld_replay.specs.declared.stages.Stage.TheVariants as stages
use Rattle.mld_replay.proofs.MeterLemmas.{founding_stops}
use Rattle.mld_replay.proofs.StageLemmas.{blank_stage, founded_end}
use Rattle.mld_replay.proofs.StoppedLemmas.{founding_left}
use Rattle.mld_replay.specs.BanksLeft.{IsFoundingDueAt}
use Rattle.mld_replay.proofs.stages.found.Goals as goal

pub returns-in-Ok-clause-ok : goal.returns-in-Ok-clause-ok
returns-in-Ok-clause-ok g c =
    blank_stage g.B.Banks.log (λ stage. EndsWell g.B.Banks.log stage (stages.Running c.in-Ok.world)) c.args.stage.now c.take_set_up-setup.result.0 c.take_set_up-setup.result.1 c.take_set_up-setup.ensures
    (λ blank. founded_end g.B.Banks.log c.take_set_up-setup.result.0 c.in-Ok.world c.take_set_up-setup.result.1.items c.in-Ok.ensures.founded c.in-Ok.ensures.settled blank)

pub returns-in-Ok-clause-well : goal.returns-in-Ok-clause-well
returns-in-Ok-clause-well g c =
    subst (λ blanks. ComeBackWell g.B.Banks.meter blanks (banks_of c.in-Ok.world)) (sym (ap banks_of_stage c.take_set_up-setup.ensures)) (record { meters = c.in-Ok.ensures.meters; quiet = c.in-Ok.ensures.quiet })

pub returns-clause-back : goal.returns-clause-back
returns-clause-back g c =
    rw c.from.ensures (subst (λ blanks. StopBringsBack g.B.Banks.meter blanks c.in-Err.banks.items (stop_of_world c.in-Err.fault)) (sym (ap banks_of_stage c.take_set_up-setup.ensures))
    (founding_stops g.B.Banks.meter c.take_set_up-setup.result.1.items c.in-Err.banks.items c.in-Err.fault c.in-Err.ensures.err))

pub returns-clause-left : goal.returns-clause-left
returns-clause-left g c = λ lines.
    blank_stage g.B.Banks.log (λ stage. IsFoundingDueAt stage lines → LeavesAtStop g.B.Banks.log c.in-Err.banks.items stage lines c.from.result) c.args.stage.now c.take_set_up-setup.result.0 c.take_set_up-setup.result.1
    c.take_set_up-setup.ensures (λ blank due. rw c.from.ensures (founding_left g.B.Banks.log c.take_set_up-setup.result.0 c.in-Err.banks.items c.in-Err.fault lines c.in-Err.ensures.left due))
