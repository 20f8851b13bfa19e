-- An event is done where a node's device had no fault, unless memory is wanting: what the clauses of `Node::on_event` say together. `events_are_done`
-- cites `EventsAreDone`.
use Rattle.std.specs.Prelude.{◌≡◌, Option, Result, Ok, Err, IfOk, IfErr, Vec}
use Rattle.std.specs.declared.alloc.Global.{Global}
use Rattle.mld_io.specs.Arm.{Meter}
use Rattle.mld_io.specs.Disk.{Log}
use Rattle.mld_io.specs.declared.events.Event.{Event}
use Rattle.node_model.specs.journal_store.Closing.{StaysTold}
use Rattle.node_model.specs.shell_session.LineCompleteness.{IsFaultless}
use Rattle.node_model.specs.shell_session.SessionLines.{Meters}
use Rattle.node_model.specs.declared.connections.Sent.{Sent}
use Rattle.node_core.specs.declared.faults.NodeFault.{NodeFault}
use Rattle.node_core.specs.declared.faults.NodeFault.TheVariants.{NoMemory}
use Rattle.node_core.specs.NodeEvents.{DoesEvent, StopsEvent}
use Rattle.node_core.specs.NodeStates.{IsOpen}
use Rattle.node_core.specs.Nodes.{BankedNode, node_banks, banks_left, IsDeviceFault}

-- what an event answers: the node then, and what is to be sent; or why it was refused, and the banks
abbrev pub EventAnswer : Type 0 → Type 0
EventAnswer B = Result (BankedNode B × Vec Sent Global) (NodeFault × B)

-- the banks, whatever it answered
abbrev pub banks_behind : {B : Type 0} → EventAnswer B → B
banks_behind answer = banks_left (λ done. node_banks done.0) answer

-- what the clauses of `Node::on_event` say of a node, an event and the answer
pub record EventClauses {B : Type 0} (log : B → Option Log) (meter : B → Meter) (node : BankedNode B) (event : Event) (answer : EventAnswer B) : Type 0 where
  pub done : IfOk answer (λ done. DoesEvent log node event done.0 done.1.items)
  pub opened : IfOk answer (λ done. IsOpen done.0.state)
  pub stopped : IfErr answer (λ refused. StopsEvent log node event refused.1)
  pub told : StaysTold (log (node_banks node)) (log (banks_behind answer))
  pub fault : Meters (meter (node_banks node)) (meter (banks_behind answer)) (IsDeviceFault answer)

-- it was done as the model's node does it, and a live clone is open; or memory was wanting, and a front of its durable steps may be done
abbrev pub DoesEventOrLacksMemory : {B : Type 0} → (B → Option Log) → BankedNode B → Event → EventAnswer B → Type 0
DoesEventOrLacksMemory log node event (Ok done) = DoesEvent log node event done.0 done.1.items × IsOpen done.0.state
DoesEventOrLacksMemory log node event (Err refused) = (refused.0 ≡ NoMemory) × StopsEvent log node event refused.1

-- where a node's device had no fault, an event is done, or memory was wanting
abbrev pub EventsAreDone : {B : Type 0} → (B → Option Log) → (B → Meter) → Type 0
EventsAreDone {B} log meter = (node : BankedNode B) (event : Event) (answer : EventAnswer B) → EventClauses log meter node event answer
    → IsFaultless (meter (node_banks node)) (meter (banks_behind answer)) → DoesEventOrLacksMemory log node event answer
