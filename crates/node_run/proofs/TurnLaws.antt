-- What a turn leaves that was not done.
use Rattle.std.proofs.Common.{◌≡◌, refl, inl, inr, Option, Some}
use Rattle.mld_io.specs.declared.events.Event.{Event}
use Rattle.mld_io.specs.declared.faults.IoFault.{IoFault}
use Rattle.mld_io.specs.declared.faults.IoFault.TheVariants as io
use Rattle.mld_io.specs.Arm.{Meter}
use Rattle.mld_io.specs.Disk.{Log}
use Rattle.mld_io.specs.Wires.{WireLog}
use Rattle.node_core.specs.shell_session.SessionLines.{Meters, LeavesFrontOfDue}
use Rattle.node_core.proofs.of_shell_session.MeterLaws.{meters_as}
use Rattle.node_core.specs.declared.faults.NodeFault.{NodeFault}
use Rattle.node_core.specs.declared.faults.NodeFault.TheVariants as node_faults
use Rattle.node_core.specs.node_model.Keepers.{keeper_found}
use Rattle.node_core.specs.Nodes.{BankedNode, node_value, node_banks}
use Rattle.node_core.specs.NodeEvents.{IsDueByEvent}
use Rattle.node_run.specs.declared.stops.NodeStop.{NodeStop}
use Rattle.node_run.specs.declared.stops.NodeStop.TheVariants as stops
use Rattle.node_run.specs.ServiceStatuses.{stop_of_event, stop_of_wire}
use Rattle.node_run.specs.ServiceUnderWay.{StopsTurn, StopsSendingTurn}

module _ {B : Type 0} (log : B → Option Log) (node : BankedNode B) (event : Event) (before : Option WireLog) where
  -- the event was not done
  pub stops_event : (fault : NodeFault) (back : B)
      → LeavesFrontOfDue (IsDueByEvent (node_value node) event) log (keeper_found (node_value node).keeper) (node_banks node) back
      → StopsTurn (stop_of_event fault) log node event before back before
  stops_event node_faults.Device back short = record { stops = short; silent = refl }
  stops_event node_faults.NoMemory back short = inl (record { stops = short; silent = refl })

  -- it was not sent whole
  pub stops_sending : (fault : IoFault) (back : B) (now : Option WireLog) → StopsSendingTurn log node event before back now
      → StopsTurn (stop_of_wire fault) log node event before back now
  stops_sending io.Failed back now short = short
  stops_sending io.NoMemory back now short = inr short

-- the banks had no fault, whatever the wire had
pub meters_sending : {None : Type 0} (fault : IoFault) (before now : Meter) → ¬ None → Meters before now None → Meters before now (stop_of_wire fault ≡ stops.Device)
meters_sending io.Failed before now no_fault meters = meters_as before now (λ same. absurd (cc (same))) (λ one. absurd (no_fault one)) meters
meters_sending io.NoMemory before now no_fault meters = meters_as before now (λ same. absurd (cc (same))) (λ one. absurd (no_fault one)) meters

-- the banks had the fault that the event tells
pub meters_event : (fault : NodeFault) (before now : Meter) → Meters before now (fault ≡ node_faults.Device) → Meters before now (stop_of_event fault ≡ stops.Device)
meters_event node_faults.Device before now meters = meters_as before now (λ same. refl) (λ same. refl) meters
meters_event node_faults.NoMemory before now meters = meters_as before now (λ same. absurd (cc (same))) (λ same. absurd (cc (same))) meters

-- the banks had no fault where no event came
pub meters_waiting : (fault : IoFault) (before now : Meter) → Meters before now ⊥ → Meters before now (Some (stop_of_wire fault) ≡ Some stops.Device)
meters_waiting io.Failed before now meters = meters_as before now (λ same. absurd (cc (same))) (λ none. absurd none) meters
meters_waiting io.NoMemory before now meters = meters_as before now (λ same. absurd (cc (same))) (λ none. absurd none) meters

pub some_same : {a b : NodeStop} → Some a ≡ Some b → a ≡ b
some_same same = cc (same)
