-- A service goes on from moment to moment.
use Rattle.std.proofs.Common.{◌≡◌, false, List, [], ◌∷◌, ◌++◌, subst, Option, Some}
use Rattle.mld_io.specs.declared.events.Event.{Event}
use Rattle.mld_io.specs.declared.events.WireCall.TheVariants.{Took}
use Rattle.mld_io.specs.Disk.{Log, LeavesMeanwhile}
use Rattle.mld_io.specs.Wires.{WireLog}
use Rattle.node_core.specs.clone_parts.KeptSteps.{KeptStep}
use Rattle.node_core.specs.shell_session.SessionLines.{ImagesFind, FindsFront}
use Rattle.node_core.specs.node_model.declared.connections.Sent.{Sent}
use Rattle.node_core.specs.node_model.Keepers.{keeper_found}
use Rattle.node_core.specs.node_model.Events.{NodeValue, NodeStep, log_with, log_after}
use Rattle.node_run.specs.ServiceOrder.{ServiceMoment, HasToSend, HasToDo, takes_event, does_event, sends_first, GoesTo, comes_behind}

-- of what is left a front was sent
front_goes : (start : ServiceMoment) (node : NodeValue) (front rest : List Sent) (wire : WireLog) (banks : Log) → ImagesFind (keeper_found node.keeper) (Some banks)
    → GoesTo start (HasToSend node (front ++ rest) wire banks) → GoesTo start (HasToSend node rest (log_after front wire) banks)
front_goes start node [] rest wire banks images goes = goes
front_goes start node (one ∷ front) rest wire banks images goes =
    front_goes start node front rest (log_with one wire) banks images
    (comes_behind (HasToSend node (one ∷ (front ++ rest)) wire banks) (HasToSend node (front ++ rest) (log_with one wire) banks) goes
    (sends_first node one (front ++ rest) wire banks images))

-- an event was taken
pub goes_taking : (start : ServiceMoment) (node : NodeValue) (event : Event) (wire : WireLog) (banks : Log) → node.halted ≡ false
    → GoesTo start (HasToSend node [] wire banks) → GoesTo start (HasToDo node event (Took event ∷ wire) banks)
goes_taking start node event wire banks going goes =
    comes_behind (HasToSend node [] wire banks) (HasToDo node event (Took event ∷ wire) banks) goes (takes_event node event wire banks going)

-- and it was done, and of what it sends a front was sent
pub goes_sending : (start : ServiceMoment) (node next : NodeValue) (event : Event) (front rest : List Sent) (steps : List KeptStep) (wire : WireLog) (banks now : Log)
    (told : Option Log) → node.halted ≡ false → NodeStep node event (front ++ rest) steps next → told ≡ Some now
    → LeavesMeanwhile banks told (λ calls image. FindsFront (keeper_found node.keeper) steps image) → ImagesFind (keeper_found next.keeper) told
    → GoesTo start (HasToSend node [] wire banks) → GoesTo start (HasToSend next rest (log_after front (Took event ∷ wire)) now)
goes_sending start node next event front rest steps wire banks now told going does is meanwhile images goes =
    front_goes start next front rest (Took event ∷ wire) now (subst (λ (l : Option Log). ImagesFind (keeper_found next.keeper) l) is images)
    (comes_behind (HasToDo node event (Took event ∷ wire) banks) (HasToSend next (front ++ rest) (Took event ∷ wire) now)
    (goes_taking start node event wire banks going goes)
    (does_event node next event (Took event ∷ wire) banks now (front ++ rest) steps does
    (subst (λ (l : Option Log). LeavesMeanwhile banks l (λ calls image. FindsFront (keeper_found node.keeper) steps image)) is meanwhile)))
