-- What is left of the banks where nothing was kept.
use Rattle.std.proofs.Common.{◌≡◌, List, [], Option, Result, Ok, Err, IfOk, IfErr, refl, sym, ap, subst, inl}
use Rattle.mld_io.specs.Arm.{Meter}
use Rattle.mld_io.specs.Disk.{Log}
use Rattle.node_model.specs.clone_parts.KeptSteps.{KeptStep}
use Rattle.node_model.specs.journal_store.Closing.{StaysTold}
use Rattle.node_model.specs.shell_session.Shells.{FoundOnBanks}
use Rattle.node_model.specs.shell_session.SessionLines.{LeavesFront, LeavesFrontOfDue, Meters}
use Rattle.node_core.specs.declared.faults.NodeFault.{NodeFault}
use Rattle.node_core.specs.declared.faults.NodeFault.TheVariants.{Device, NoMemory}
use Rattle.node_core.specs.declared.states.NodeState.{NodeState}
use Rattle.node_core.specs.NodeStates.{IsOpen, state_banks, state_banks_after, StateFailsOnDevice}
use Rattle.node_core.proofs.EventMoments.{no_steps, told_same}
use Rattle.node_model.proofs.of_shell_session.MeterLaws.{meters_none}

not_device : ¬ (◌≡◌ {A = NodeFault} NoMemory Device)
not_device h = cc

-- no step was made
pub stops_none : {B : Type 0} (Due : List KeptStep → Type 0) (log : B → Option Log) (found : FoundOnBanks) (old now : B) → now ≡ old → LeavesFrontOfDue Due log found old now
stops_none {B = B} Due log found old now same = record {
  steps = [];
  due = inl refl;
  moments = subst (λ (b : B). LeavesFront found [] (log old) (log b)) (sym same) (no_steps found (log old));
}

module _ {B : Type 0} (log : B → Option Log) (meter : B → Meter) (state : NodeState B) where
  -- an answer that keeps the state, or gives its banks back for want of memory
  abbrev Keeps : Result (NodeState B) (NodeFault × B) → Type 0
  Keeps result = IfOk result (λ next. next ≡ state)

  abbrev GivesBack : Result (NodeState B) (NodeFault × B) → Type 0
  GivesBack result = IfErr result (λ refused. refused ≡ (NoMemory, state_banks state))

  pub quiet_open : (result : Result (NodeState B) (NodeFault × B)) → IsOpen state → Keeps result → IfOk result IsOpen
  quiet_open (Ok next) opened same = subst IsOpen (sym same) opened
  quiet_open (Err refused) opened same = tt

  pub quiet_stops : (Due : List KeptStep → Type 0) (found : FoundOnBanks) (result : Result (NodeState B) (NodeFault × B)) → GivesBack result
      → IfErr result (λ refused. LeavesFrontOfDue Due log found (state_banks state) refused.1)
  quiet_stops Due found (Ok next) back = tt
  quiet_stops Due found (Err refused) back = stops_none Due log found (state_banks state) refused.1 (ap (λ (r : NodeFault × B). r.1) back)

  pub quiet_told : (result : Result (NodeState B) (NodeFault × B)) → Keeps result → GivesBack result → StaysTold (log (state_banks state)) (log (state_banks_after result))
  quiet_told (Ok next) same back = subst (λ (s : NodeState B). StaysTold (log (state_banks state)) (log (state_banks s))) (sym same) (told_same (log (state_banks state)))
  quiet_told (Err refused) same back =
      subst (λ (r : NodeFault × B). StaysTold (log (state_banks state)) (log r.1)) (sym back) (told_same (log (state_banks state)))

  pub quiet_meters : (result : Result (NodeState B) (NodeFault × B)) → Keeps result → GivesBack result
      → Meters (meter (state_banks state)) (meter (state_banks_after result)) (StateFailsOnDevice result)
  quiet_meters (Ok next) same back = subst (λ (s : NodeState B). Meters (meter (state_banks state)) (meter (state_banks s)) ⊥) (sym same) (meters_none (meter (state_banks state)) (meter (state_banks state)) refl (λ h. h))
  quiet_meters (Err refused) same back =
      subst (λ (r : NodeFault × B). Meters (meter (state_banks state)) (meter r.1) (r.0 ≡ Device)) (sym back) (meters_none (meter (state_banks state)) (meter (state_banks state)) refl not_device)
