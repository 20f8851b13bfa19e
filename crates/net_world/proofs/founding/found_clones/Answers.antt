use Rattle.std.proofs.Common.{◌≡◌, ◌∙◌, ◌++◌, [], List, arith, rules, ap, sym, subst, map}
use Rattle.mld_model.specs.declared.CloneState.TheVariants as kinds
use Rattle.schedule_text.specs.ReadLines.{setup_of}
use Rattle.world_commands.specs.WorldBanks.{BankedState, banks_of_state, MetersGoOn, HadNoFaults, HasFailed}
use Rattle.net_world.specs.Founding.{HasFaultsOf}
use Rattle.world_commands.specs.declared.faults.WorldFault.TheVariants as faults
use Rattle.net_world.proofs.FaultLemmas.{banks_of_absent}
use Rattle.net_world.proofs.FoundingLemmas.{all_absent, all_founded}
use Rattle.net_world.specs.FoundingLeft.{StopsFoundingBy}
use Rattle.net_world.proofs.FoundingFronts.{founding_left}
use Rattle.net_world.proofs.SettledSteps.{founded_keep}
use Rattle.net_world.proofs.founding.found_clones.Given as given
use Rattle.net_world.proofs.founding.found_clones.Goals as goal

pub found_each-requires-clause-absent : goal.found_each-requires-clause-absent
found_each-requires-clause-absent g c = λ κs outlives.
    all_absent (setup_of c.args.setup.now) c.args.blanks.items c.in-Ok.clones.items (omega (arith, c.requires.count)) (search rules)

pub returns-in-Ok-found_each-clause-ok : goal.returns-in-Ok-found_each-clause-ok
returns-in-Ok-found_each-clause-ok g c = all_founded (setup_of c.args.setup.now) c.found_each.new.clones.items c.in-Ok-found_each.ensures.ok

-- the banks that founding begins with
begun_as : (g : given.Over) (blanks : List g.row.B.Denot) (clones : List (BankedState g.row.B.Denot)) → clones ≡ map (λ banks. kinds.Absent banks) blanks → map banks_of_state clones ≡ blanks
begun_as g blanks clones are = ap (λ (l : List (BankedState g.row.B.Denot)). map banks_of_state l) are ∙ banks_of_absent blanks

pub returns-in-Ok-found_each-clause-meters : goal.returns-in-Ok-found_each-clause-meters
returns-in-Ok-found_each-clause-meters g c =
    subst (λ (l : List g.row.B.Denot). MetersGoOn g.B.Banks.meter l (map banks_of_state c.found_each.new.clones.items)) (begun_as g c.args.blanks.items c.in-Ok.clones.items (search rules))
    c.found_each.ensures.meters

pub returns-in-Ok-found_each-clause-quiet : goal.returns-in-Ok-found_each-clause-quiet
returns-in-Ok-found_each-clause-quiet g c =
    subst (λ (l : List g.row.B.Denot). HadNoFaults g.B.Banks.meter l (map banks_of_state c.found_each.new.clones.items)) (begun_as g c.args.blanks.items c.in-Ok.clones.items (search rules))
    c.in-Ok-found_each.ensures.faults

pub returns-in-Err-Device-clause-err : goal.returns-in-Err-Device-clause-err
returns-in-Err-Device-clause-err g c =
    let meter = g.B.Banks.meter in
    let begun = map banks_of_state c.in-Ok.clones.items in
    let left = map banks_of_state c.found_each.new.clones.items in
    let none : c.in-Ok.back.items ≡ [] = search rules in
    let given : c.stop_all.new.banks.items ≡ left = c.stop_all.ensures.banks ∙ ap (λ (l : List g.row.B.Denot). l ++ left) none in
    let fails : HasFaultsOf meter begun left (faults.Device c.in-Err-Device.clone) = subst (HasFaultsOf meter begun left) c.in-Err-Device.field-0-is c.in-Err-Device.ensures.faults in (
      subst (λ (l : List g.row.B.Denot). MetersGoOn meter l c.stop_all.new.banks.items) (begun_as g c.args.blanks.items c.in-Ok.clones.items (search rules))
          (subst (λ (l : List g.row.B.Denot). MetersGoOn meter begun l) (sym given) c.found_each.ensures.meters),
      subst (λ (l : List g.row.B.Denot). HasFailed meter c.in-Err-Device.clone l c.stop_all.new.banks.items) (begun_as g c.args.blanks.items c.in-Ok.clones.items (search rules))
          (subst (λ (l : List g.row.B.Denot). HasFailed meter c.in-Err-Device.clone begun l) (sym given) fails),
    )

pub returns-in-Err-Device-clause-left : goal.returns-in-Err-Device-clause-left
returns-in-Err-Device-clause-left g c =
    let log = g.B.Banks.log in
    let setup = setup_of c.args.setup.now in
    let clones = c.found_each.new.clones.items in
    let left = map banks_of_state clones in
    let none : c.in-Ok.back.items ≡ [] = search rules in
    let given : c.stop_all.new.banks.items ≡ left = c.stop_all.ensures.banks ∙ ap (λ (l : List g.row.B.Denot). l ++ left) none in
    founding_left log g.B.Banks.meter g.met.B.CrashBanks.tells setup clones c.stop_all.new.banks.items c.in-Err-Device.clone given c.stop_all.ensures.kept
    (subst (StopsFoundingBy log setup clones) c.in-Err-Device.field-0-is c.in-Err-Device.ensures.left)

pub returns-in-Ok-found_each-clause-kept : goal.returns-in-Ok-found_each-clause-kept
returns-in-Ok-found_each-clause-kept g c =
    founded_keep g.B.Banks.log (setup_of c.args.setup.now) c.in-Ok.clones.items c.found_each.new.clones.items c.args.blanks.items (search rules) c.in-Ok-found_each.ensures.ok c.in-Ok-found_each.ensures.rest
    (rw (← c.as_slice.ensures.value) c.ask_first.ensures)
