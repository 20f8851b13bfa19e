use Rattle.std.proofs.Common.{◌∙◌, [], arith, ap, sym, subst, set, map}
use Rattle.std.proofs.lemmas.Result.{on_ok_weaker, IfOk-at_ok}
use Rattle.mld_model.specs.declared.CloneState.TheVariants as kinds
use Rattle.clone_core.specs.clone_parts.BankCalls.{create_calls}
use Rattle.clone_core.specs.CloneClosing.{banks_of_made}
use Rattle.schedule_text.specs.ReadLines.{setup_of}
use Rattle.world_commands.specs.States.{Becomes}
use Rattle.world_commands.specs.WorldBanks.{BankedState, banks_of_state, MeterGoesOn}
use Rattle.world_commands.specs.OneCall.{HasFaultsAt}
use Rattle.world_commands.proofs.BankLemmas.{goes_on, meters_set, faults_set}
use Rattle.net_world.proofs.FaultLemmas.{first_faults, faults_of}
use Rattle.net_world.proofs.FoundingLemmas.{absent_there, first_founded}
use Rattle.mld_model.specs.Local.{blank_clone}
use Rattle.clone_core.specs.clone_parts.KeptSteps.{LeavesMade}
use Rattle.clone_core.specs.Banked.{head_of}
use Rattle.net_world.proofs.FoundingFronts.{first_left}
use Rattle.net_world.proofs.SettledSteps.{first_rest}
use Rattle.net_world.proofs.founding.found_first.Given as given
use Rattle.net_world.proofs.founding.found_first.Goals as goal

pub take_blank-blank-requires : goal.take_blank-blank-requires
take_blank-blank-requires g c = absent_there (setup_of c.args.setup.now) 0 c.args.clones.now.items (omega arith) c.requires.absent

pub returns-clause-ok : goal.returns-clause-ok
returns-clause-ok g c = on_ok_weaker c.first_of-state.result.1 (λ made.
    first_founded (setup_of c.args.setup.now) c.args.clones.now.items c.put_state.new.clones.items made.0 c.id_of.result c.in_ok-named.named.domain c.in_ok-named.named.properties.items
    c.requires.setup c.requires.absent c.id_of.ensures c.in_ok-named.ensures.domain (c.in_ok-named.ensures.properties ∙ c.as_slice.ensures.value)
    (IfOk-at_ok _ made.1 c.genesis-genesis.ensures.kept) (IfOk-at_ok _ made.1 c.genesis-genesis.ensures.blank) (record { opened = IfOk-at_ok _ made.1 c.genesis-genesis.ensures.opened; first = IfOk-at_ok _ made.1 c.genesis-genesis.ensures.generation })
    (c.put_state.ensures ∙ c.take_blank-blank.ensures.back c.first_of-state.result.0 ∙ ap (λ (s : BankedState g.row.B.Denot). set c.args.clones.now.items 0 s) made.2)) c.first_of-state.ensures.ok

module _ (g : given.Over) (c : goal.After-put_state g) where
  becomes : Becomes c.args.clones.now.items c.put_state.new.clones.items 0 (kinds.Absent c.take_blank-blank.result) c.first_of-state.result.0
  becomes = record { was = c.take_blank-blank.ensures.was; now = c.put_state.ensures ∙ c.take_blank-blank.ensures.back c.first_of-state.result.0 }

pub returns-clause-meters : goal.returns-clause-meters
returns-clause-meters g c =
    meters_set g.B.Banks.meter c.args.clones.now.items c.put_state.new.clones.items 0 (kinds.Absent c.take_blank-blank.result) c.first_of-state.result.0 (becomes g c)
    (subst (λ (b : g.row.B.Denot). MeterGoesOn (g.B.Banks.meter c.take_blank-blank.result) (g.B.Banks.meter b)) (sym c.first_of-state.ensures.banks)
    (goes_on create_calls _ _ _ _ c.genesis-genesis.ensures.durable.2.metered))

pub returns-clause-faults : goal.returns-clause-faults
returns-clause-faults g c =
    let meter = g.B.Banks.meter in
    let blank = c.take_blank-blank.result in
    let state = c.first_of-state.result.0 in
    faults_of meter 0 (map banks_of_state c.args.clones.now.items) (map banks_of_state c.put_state.new.clones.items) c.first_of-state.result.1
    (faults_set meter c.args.clones.now.items c.put_state.new.clones.items 0 (kinds.Absent blank) state c.first_of-state.result.1 (becomes g c)
    (subst (λ (b : g.row.B.Denot). HasFaultsAt 0 (meter blank) (meter b) c.first_of-state.result.1) (sym c.first_of-state.ensures.banks)
    (first_faults create_calls c.genesis-genesis.result c.first_of-state.result (meter blank) (meter (banks_of_made c.genesis-genesis.result)) _ c.first_of-state.ensures c.genesis-genesis.ensures.durable.2.metered)))

pub returns-clause-left : goal.returns-clause-left
returns-clause-left g c =
    let durable = c.genesis-genesis.ensures.durable in
    let state = c.first_of-state.result.0 in
    let making = subst (λ (b : g.row.B.Denot). LeavesMade g.B.Banks.log g.B.Banks.meter (head_of (blank_clone c.id_of.result c.in_ok-named.named.domain durable.0 [])) c.take_blank-blank.result b)
    (sym c.first_of-state.ensures.banks) durable.2.moments in
    first_left g.B.Banks.log g.B.Banks.meter g.met.B.CrashBanks.tells (setup_of c.args.setup.now) c.args.clones.now.items c.put_state.new.clones.items state c.take_blank-blank.result
    c.id_of.result c.in_ok-named.named.domain c.in_ok-named.named.properties.items durable.0 c.genesis-genesis.result c.first_of-state.result.1
    c.requires.setup c.requires.absent c.id_of.ensures c.in_ok-named.ensures.domain (c.in_ok-named.ensures.properties ∙ c.as_slice.ensures.value) durable.1 making (becomes g c).now c.first_of-state.ensures.err

pub returns-clause-rest : goal.returns-clause-rest
returns-clause-rest g c = on_ok_weaker c.first_of-state.result.1 (λ made. first_rest c.args.clones.now.items c.put_state.new.clones.items c.first_of-state.result.0 (becomes g c).now) c.first_of-state.ensures.ok
