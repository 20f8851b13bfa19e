-- In which order a node works over its wire and its banks: the moments of its service, of which each comes behind another. The words for how a service
-- ends cite `GoesTo`.
use Rattle.std.specs.Prelude.{◌≡◌, false, List, [], ◌∷◌, Some}
use Rattle.mld_io.specs.declared.events.Event.{Event}
use Rattle.mld_io.specs.declared.events.WireCall.TheVariants.{Took}
use Rattle.mld_io.specs.Disk.{Log, LeavesMeanwhile}
use Rattle.mld_io.specs.Wires.{WireLog}
use Rattle.node_core.specs.clone_parts.KeptSteps.{KeptStep}
use Rattle.node_core.specs.shell_session.SessionLines.{ImagesFind, FindsFront}
use Rattle.node_core.specs.node_model.declared.connections.Sent.{Sent}
use Rattle.node_core.specs.node_model.Keepers.{keeper_found}
use Rattle.node_core.specs.node_model.Events.{NodeValue, NodeStep, log_with}

-- a moment of a service, with what its wire and its banks tell then
pub data ServiceMoment : Type 0 where
  -- the node has these left to send, one after another; where there are none, it waits for an event
  HasToSend : NodeValue → List Sent → WireLog → Log → ServiceMoment
  -- it took this event, and has to do it
  HasToDo : NodeValue → Event → WireLog → Log → ServiceMoment

-- The moment behind another: the wire was called, and the banks are as they were; or the banks were called, and the wire is as it was.
pub data NextMoment : ServiceMoment → ServiceMoment → Type 0 where
  -- a node that waits, and hasn't ended, takes an event
  takes_event : (node : NodeValue) (event : Event) (wire : WireLog) (banks : Log) → node.halted ≡ false
      → NextMoment (HasToSend node [] wire banks) (HasToDo node event (Took event ∷ wire) banks)
  -- it does the event on its banks; all the while a crash leaves what a front of the durable steps makes of what was found before
  does_event : (node next : NodeValue) (event : Event) (wire : WireLog) (banks now : Log) (sent : List Sent) (steps : List KeptStep)
      → NodeStep node event sent steps next → LeavesMeanwhile banks (Some now) (λ calls image. FindsFront (keeper_found node.keeper) steps image)
      → NextMoment (HasToDo node event wire banks) (HasToSend next sent wire now)
  -- it sends the first of what is left, while all that it keeps is found on whatever a crash leaves
  sends_first : (node : NodeValue) (one : Sent) (more : List Sent) (wire : WireLog) (banks : Log) → ImagesFind (keeper_found node.keeper) (Some banks)
      → NextMoment (HasToSend node (one ∷ more) wire banks) (HasToSend node more (log_with one wire) banks)

-- so the service came from the first moment to this one
pub data GoesTo (first : ServiceMoment) : ServiceMoment → Type 0 where
  is_there : GoesTo first first
  comes_behind : (middle last : ServiceMoment) → GoesTo first middle → NextMoment middle last → GoesTo first last
