use Rattle.std.proofs.Common.{◌+◌, List, None, Some, Err, arith, ap, map, subst}
use Rattle.std.proofs.lemmas.Result.{err_from_is_err_and}
use Rattle.schedule_text.specs.schedule_model.Step.{number_of_clone}
use Rattle.world_commands.specs.WorldBanks.{BankedWorld, banks_of_state, HadNoFaults, HasFaultsFor}
use Rattle.world_commands.specs.WorldParts.{running_of}
use Rattle.world_commands.specs.Worlds.{Stepped}
use Rattle.schedule_text.specs.schedule_model.Tasks.{command_done}
use Rattle.net_world.specs.DeviceUses.{UsesDeviceOf}
use Rattle.net_world.specs.LeftBehind.{LeavesBanksAt}
use Rattle.net_world.specs.SettledWorlds.{SettlesWorld, LiveKept}
use Rattle.net_world.proofs.SettledSteps.{number_within, step_settles}
use Rattle.net_world.proofs.StepLemmas.{standing_after, step_answered, step_banks, step_begun}
use Rattle.net_world.proofs.worlds.World.step.Given as given
use Rattle.net_world.proofs.worlds.World.step.Goals as goal

-- what the command's clone says of its banks, where it is live
live : (g : given.Over) (c : goal.After-self-1 g) → LiveKept g.B.Banks.log (number_of_clone c.args.command.now) c.answer.new.parts.clones.items
live g c = rw (← c.as_slice.ensures.value, ← c.number_of.ensures) c.ask_live.ensures

pub ask_live-requires : goal.ask_live-requires
ask_live-requires g c = omega (arith, number_within c.args.command.now c.requires.numbers, c.number_of.ensures, c.as_slice.ensures.value, c.in_ok-answer.ensures.keeps.count, c.self.invariant.0)

pub returns : goal.returns
returns g c =
    let new = c.answer.new.parts in
    let steps = c.self.inside.steps in
    let done : Stepped g.B.Banks.log c.args.self.now c.args.command.now (running_of new (steps + 1)) c.args.out.now.items c.answer.new.out.items =
    step_answered g.B.Banks.log c.self.inside.parts c.args.command.now new c.args.out.now.items c.answer.new.out.items c.args.self.now steps c.self.view_is c.in_ok-answer.ensures.done in
    let used = step_banks g.B.Banks.meter (number_of_clone c.args.command.now) c.self.inside.parts new c.args.self.now steps c.self.view_is c.in_ok-answer.ensures.keeps in
    let begun = step_begun c.self.inside.parts c.args.self.now steps c.self.view_is in
    record {
      done = done;
      standing = standing_after g.B.Banks.log c.args.self.now c.args.command.now (running_of new (steps + 1)) c.args.out.now.items c.answer.new.out.items c.requires.standing done;
      steps = ap (λ (w : BankedWorld g.row.B.Denot). w.steps + 1) c.self.view_is;
      meters = used.meters;
      faults = subst (λ (l : List g.row.B.Denot). HadNoFaults g.B.Banks.meter l (map banks_of_state new.clones.items)) begun c.in_ok-answer.ensures.faults;
      others = used.others;
      device = subst (λ (w : BankedWorld g.row.B.Denot). UsesDeviceOf g.B.Banks.log g.B.Banks.meter w c.args.command.now (map banks_of_state new.clones.items) None) c.self.view_is (c.in_ok-answer.ensures.device steps);
      left = subst (λ (w : BankedWorld g.row.B.Denot). LeavesBanksAt g.B.Banks.log w (command_done c.args.command.now) (number_of_clone c.args.command.now) (map banks_of_state new.clones.items)) c.self.view_is (c.in_ok-answer.ensures.left steps);
      settled = subst (λ (w : BankedWorld g.row.B.Denot). SettlesWorld g.B.Banks.log w c.args.command.now (running_of new (steps + 1))) c.self.view_is (λ world stands sound images reply next step sound_next now.
          step_settles g.B.Banks.log g.met.B.CrashBanks.tells (running_of c.self.inside.parts steps) (running_of new (steps + 1)) c.args.command.now c.requires.numbers c.requires.form (c.in_ok-answer.ensures.left steps)
          c.in_ok-answer.ensures.keeps.banks.others (live g c) world stands sound images reply next step now);
      out = tt;
    }

pub returns-in_err-answer : goal.returns-in_err-answer
returns-in_err-answer g c =
    let p = err_from_is_err_and c.from_residual.result c.from_residual.ensures.1 in
    let new = c.answer.new.parts in
    let steps = c.self.inside.steps in
    let used = step_banks g.B.Banks.meter (number_of_clone c.args.command.now) c.self.inside.parts new c.args.self.now steps c.self.view_is c.in_err-answer.ensures.keeps in
    let begun = step_begun c.self.inside.parts c.args.self.now steps c.self.view_is in
    rw (p.1, p.2) (record {
      done = tt;
      standing = tt;
      steps = tt;
      meters = used.meters;
      faults = subst (λ (l : List g.row.B.Denot). HasFaultsFor {T = Unit {0}} (number_of_clone c.args.command.now) g.B.Banks.meter l (map banks_of_state new.clones.items) (Err c.in_err-answer.field-0.0)) begun c.in_err-answer.ensures.faults;
      others = used.others;
      device = subst (λ (w : BankedWorld g.row.B.Denot). UsesDeviceOf g.B.Banks.log g.B.Banks.meter w c.args.command.now (map banks_of_state new.clones.items) (Some c.in_err-answer.field-0.0)) c.self.view_is (c.in_err-answer.ensures.device steps);
      left = subst (λ (w : BankedWorld g.row.B.Denot). LeavesBanksAt g.B.Banks.log w (command_done c.args.command.now) (number_of_clone c.args.command.now) (map banks_of_state new.clones.items)) c.self.view_is (c.in_err-answer.ensures.left steps);
      settled = tt;
      out = c.in_err-answer.ensures.out;
    })
