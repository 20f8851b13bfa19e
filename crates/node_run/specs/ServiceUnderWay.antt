-- A run of the node that is under way: the events done so far, what was sent for them, and what its banks keep.
-- The private calls behind `serve` cite it.
use Rattle.std.specs.Prelude.{◌≡◌, ◌≢◌, ◌⊎◌, ℕ, List, [], ◌∷◌, ◌++◌, length, Option, Some, Result, Ok, Err, IfErr, OnOk, option_map, unwrap_or}
use Rattle.mld_io.specs.declared.events.Event.{Event}
use Rattle.mld_io.specs.Disk.{Log}
use Rattle.mld_io.specs.Faults.{Rose}
use Rattle.mld_io.specs.Wires.{WireLog}
use Rattle.node_core.specs.shell_session.Shells.{FoundOnBanks}
use Rattle.node_core.specs.shell_session.SessionLines.{ImagesFind, LeavesFront, LeavesFrontOfDue}
use Rattle.node_core.specs.node_model.declared.connections.Sent.{Sent}
use Rattle.node_core.specs.node_model.Keepers.{keeper_found}
use Rattle.node_core.specs.node_model.Events.{log_after}
use Rattle.node_core.specs.NodeStates.{FindsNow}
use Rattle.node_core.specs.Nodes.{BankedNode, node_value, node_banks}
use Rattle.node_core.specs.NodeEvents.{DoesEvent, IsDueByEvent}
use Rattle.node_run.specs.ServiceOrder.{HasToSend}
use Rattle.node_run.specs.ServiceEnds.{EventsDone, durable_steps_of, WasInOrder}
use Rattle.node_run.specs.declared.stops.NodeStop.{NodeStop}
use Rattle.node_run.specs.declared.stops.NodeStop.TheVariants as stops

-- so many events are done over banks on which this was found
pub record IsServiceUnderWay {B : Type 0} (log : B → Option Log) (found : FoundOnBanks) (old : Option Log) (texts : List (List ℕ)) (turns : ℕ) (before now : Option WireLog) (node : BankedNode B) (taken : ℕ) : Type 0 where
  pub done : EventsDone found texts (unwrap_or before [])
  pub turns_are : done.words.turns ≡ turns
  pub counted : taken ≡ length done.events
  pub node_is : done.node ≡ node_value node
  pub logged : now ≡ option_map (λ log. done.after) before
  pub told : (first : Log) × (log (node_banks node) ≡ Some first)
  pub moments : LeavesFront found (durable_steps_of done) old (log (node_banks node))
  pub settled : ImagesFind (keeper_found (node_value node).keeper) (log (node_banks node))
  pub order : WasInOrder done old (HasToSend done.node [] done.after told.0)

-- ---- a turn

-- what is to be sent was sent over a wire with this log
abbrev pub Sends : List Sent → (before now : Option WireLog) → Type 0
Sends sent before now = now ≡ option_map (log_after sent) before

-- of what is to be sent a front was
pub record SendsFront (sent : List Sent) (before now : Option WireLog) : Type 0 where
  pub front : List Sent
  pub missed : Sent
  pub rest : List Sent
  pub whole : sent ≡ front ++ missed ∷ rest
  pub sends : Sends front before now

-- an event was done, and what is to be sent for it was sent
pub record DoesTurn {B : Type 0} (log : B → Option Log) (old : BankedNode B) (event : Event) (before : Option WireLog) (next : BankedNode B) (now : Option WireLog) : Type 0 where
  pub sent : List Sent
  pub does : DoesEvent log old event next sent
  pub sends : Sends sent before now

-- an event was not done, and nothing was sent
pub record StopsWithinTurn {B : Type 0} (log : B → Option Log) (old : BankedNode B) (event : Event) (before : Option WireLog) (back : B) (now : Option WireLog) : Type 0 where
  pub stops : LeavesFrontOfDue (IsDueByEvent (node_value old) event) log (keeper_found (node_value old).keeper) (node_banks old) back
  pub silent : now ≡ before

-- an event was done, and of what is to be sent for it a front was sent
pub record StopsSendingTurn {B : Type 0} (log : B → Option Log) (old : BankedNode B) (event : Event) (before : Option WireLog) (back : B) (now : Option WireLog) : Type 0 where
  pub next : BankedNode B
  pub sent : List Sent
  pub does : DoesEvent log old event next sent
  pub back_is : back ≡ node_banks next
  pub kept : FindsNow (keeper_found (node_value next).keeper) (log back)
  pub sends : SendsFront sent before now

-- a turn was not done, by why
abbrev pub StopsTurn : {B : Type 0} → NodeStop → (B → Option Log) → BankedNode B → Event → Option WireLog → B → Option WireLog → Type 0
StopsTurn stops.Device log old event before back now = StopsWithinTurn log old event before back now
StopsTurn stops.WireFault log old event before back now = StopsSendingTurn log old event before back now
StopsTurn stops.NoMemory log old event before back now =
    StopsWithinTurn log old event before back now ⊎ StopsSendingTurn log old event before back now
StopsTurn stop log old event before back now = ⊥

-- the banks, whatever became of a turn
abbrev pub node_banks_after : {B : Type 0} → Result (BankedNode B) (NodeStop × B) → B
node_banks_after (Ok next) = node_banks next
node_banks_after (Err refused) = refused.1

-- the device failed
abbrev pub FailsOnBanks : {B : Type 0} → Result (BankedNode B) (NodeStop × B) → Type 0
FailsOnBanks (Ok next) = ⊥
FailsOnBanks (Err refused) = refused.0 ≡ stops.Device

-- the count of the wire's faults rose where that is why, and else it is what it was
pub record HasTurnCause {T B : Type 0} (before now : ℕ) (result : Result T (NodeStop × B)) : Type 0 where
  pub failed : IfErr result (λ refused. refused.0 ≡ stops.WireFault → Rose before now)
  pub quiet : IfErr result (λ refused. refused.0 ≢ stops.WireFault → now ≡ before)
  pub good : OnOk result (now ≡ before)
