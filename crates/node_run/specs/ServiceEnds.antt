-- How a run of the node ends over banks that tell their log: the events that it took, what it sent, and what its banks keep. `serve` and `take_turns`
-- cite `ServiceEnds`.
use Rattle.std.specs.Prelude.{◌≡◌, ◌⊎◌, ℕ, ◌+◌, ◌<◌, ◌≤◌, Bool, true, false, List, [], ◌∷◌, ◌++◌, length, Option, None, Some, option_map, unwrap_or}
use Rattle.mld_io.specs.declared.events.Event.{Event}
use Rattle.mld_io.specs.declared.events.WireCall.TheVariants.{Took}
use Rattle.mld_io.specs.Disk.{Log, LeavesMeanwhile}
use Rattle.mld_io.specs.Wires.{WireLog}
use Rattle.node_core.specs.clone_parts.KeptSteps.{KeptStep}
use Rattle.node_core.specs.shell_session.Shells.{FoundOnBanks, Damage}
use Rattle.node_core.specs.shell_session.Sessions.{HasFound}
use Rattle.node_core.specs.shell_session.SessionLines.{ImagesFind, FindsFront, LeavesFront}
use Rattle.node_core.specs.shell_session.RunEnds.{LeavesDone}
use Rattle.node_run.specs.declared.node.NodeWords.{NodeWords}
use Rattle.node_run.specs.Words.{AreWords}
use Rattle.node_core.specs.node_model.declared.connections.Sent.{Sent}
use Rattle.node_core.specs.node_model.Keepers.{Keeper, keeper_found}
use Rattle.node_core.specs.node_model.Events.{NodeValue, NodeStep, NodeRuns, log_after}
use Rattle.node_core.specs.NodeEvents.{IsDueByEvent}
use Rattle.node_run.specs.Start.{Begins, IsDueAtFirst, IsOther, fresh_node}
use Rattle.node_run.specs.ServiceOrder.{ServiceMoment, HasToSend, HasToDo, GoesTo}
use Rattle.node_run.specs.declared.stops.NodeStop.{NodeStop}
use Rattle.node_run.specs.declared.stops.NodeStop.TheVariants as stops

-- what a run had and left: its words, how many events it took, the logs of its wire before and after, and those of its banks
pub record ServiceEdges : Type 0 where
  pub texts : List (List ℕ)
  pub turns : ℕ
  pub before : Option WireLog
  pub after : Option WireLog
  pub old : Option Log
  pub now : Option Log

-- the wire that told its log tells this one then
abbrev pub IsLogged : ServiceEdges → WireLog → Type 0
IsLogged ends log = ends.after ≡ option_map (λ before. log) ends.before

-- ---- what was done

-- what a node did over banks on which this was found: how it began by its words; the events that it took, of which there are no more than the
-- words say, and none came once it had ended; their durable steps; and the node and the wire's log that they led to
pub record EventsDone (found : FoundOnBanks) (texts : List (List ℕ)) (log : WireLog) : Type 0 where
  pub words : NodeWords
  pub are : AreWords texts words
  pub first : List KeptStep
  pub keeper : Keeper
  pub begins : Begins words found first keeper
  pub events : List Event
  pub few : length events ≤ words.turns
  pub steps : List KeptStep
  pub node : NodeValue
  pub after : WireLog
  pub runs : NodeRuns (fresh_node keeper) events log steps node after

abbrev pub EventsDoneIn : FoundOnBanks → ServiceEdges → Type 0
EventsDoneIn found ends = EventsDone found ends.texts (unwrap_or ends.before [])

-- all its durable steps
abbrev pub durable_steps_of : {found : FoundOnBanks} {texts : List (List ℕ)} {log : WireLog} → EventsDone found texts log → List KeptStep
durable_steps_of done = done.first ++ done.steps

-- In which order it was done, up to this moment: the node began by its first durable steps, of which a crash left a front meanwhile, and went on from
-- there, so that each part that it sent went out while the banks stayed as they were, and whatever a crash left of them had all that the node kept.
pub record WasInOrder {found : FoundOnBanks} {texts : List (List ℕ)} {log : WireLog} (done : EventsDone found texts log) (old : Option Log) (moment : ServiceMoment) : Type 0 where
  pub begun : Log
  pub begins : LeavesFront found done.first old (Some begun)
  pub goes : GoesTo (HasToSend (fresh_node done.keeper) [] log begun) moment

-- ---- between two events

-- by whether the node has ended, how many events it took, and how many it may take: it has ended; or all turns were taken; or it waits
abbrev pub HasEnded : Bool → ℕ → ℕ → Type 0
HasEnded halted taken turns = halted ≡ true

abbrev pub HasTurned : Bool → ℕ → ℕ → Type 0
HasTurned halted taken turns = (halted ≡ false) × (taken ≡ turns)

abbrev pub Waits : Bool → ℕ → ℕ → Type 0
Waits halted taken turns = (halted ≡ false) × (taken < turns)

-- it ended behind an event for which all was sent, or before the first: the banks keep what the events led to, whatever a crash leaves of them
pub record StopsBetweenEvents (So : Bool → ℕ → ℕ → Type 0) (found : FoundOnBanks) (ends : ServiceEdges) : Type 0 where
  pub done : EventsDoneIn found ends
  pub so : So done.node.halted (length done.events) done.words.turns
  pub counted : ends.turns ≡ length done.events
  pub logged : IsLogged ends done.after
  pub keeps : HasFound (keeper_found done.node.keeper) ends.now
  pub images : ImagesFind (keeper_found done.node.keeper) ends.now
  pub order : WasInOrder done ends.old (HasToSend done.node [] done.after keeps.log)
  pub leaves : LeavesDone found (durable_steps_of done) [] ends.old ends.now

-- ---- at an event

-- an event was taken for which the node waited
pub record TakesOneEvent (found : FoundOnBanks) (ends : ServiceEdges) : Type 0 where
  pub done : EventsDoneIn found ends
  pub waits : Waits done.node.halted (length done.events) done.words.turns
  pub counted : ends.turns ≡ length done.events + 1
  pub event : Event

-- it ended while the event was done: nothing was sent for it, and of the durable steps that it had to make a front may be done
pub record StopsWithinEvent (found : FoundOnBanks) (ends : ServiceEdges) : Type 0 where
  pub takes : TakesOneEvent found ends
  pub due : List KeptStep
  pub is_due : (due ≡ []) ⊎ IsDueByEvent takes.done.node takes.event due
  pub logged : IsLogged ends (Took takes.event ∷ takes.done.after)
  pub banks : Log
  pub order : WasInOrder takes.done ends.old (HasToDo takes.done.node takes.event (Took takes.event ∷ takes.done.after) banks)
  pub since : LeavesMeanwhile banks ends.now (λ calls image. FindsFront (keeper_found takes.done.node.keeper) due image)
  pub leaves : LeavesDone found (durable_steps_of takes.done) due ends.old ends.now

-- it ended while it sent: the event was done, whatever a crash leaves, and of what is to be sent for it a front was sent
pub record StopsSending (found : FoundOnBanks) (ends : ServiceEdges) : Type 0 where
  pub takes : TakesOneEvent found ends
  pub sent : List Sent
  pub steps : List KeptStep
  pub next : NodeValue
  pub does : NodeStep takes.done.node takes.event sent steps next
  pub front : List Sent
  pub missed : Sent
  pub rest : List Sent
  pub whole : sent ≡ front ++ missed ∷ rest
  pub logged : IsLogged ends (log_after front (Took takes.event ∷ takes.done.after))
  pub keeps : HasFound (keeper_found next.keeper) ends.now
  pub images : ImagesFind (keeper_found next.keeper) ends.now
  pub order : WasInOrder takes.done ends.old (HasToSend next (missed ∷ rest) (log_after front (Took takes.event ∷ takes.done.after)) keeps.log)
  pub leaves : LeavesDone found (durable_steps_of takes.done ++ steps) [] ends.old ends.now

-- ---- before the first event

-- no event was taken, and nothing was sent
pub record TakesNoEvent (ends : ServiceEdges) : Type 0 where
  pub none : ends.turns ≡ 0
  pub silent : ends.after ≡ ends.before

-- the words were not read
pub record ServiceHasNotBegun (ends : ServiceEdges) : Type 0 where
  pub nothing : TakesNoEvent ends
  pub same_banks : ends.now ≡ ends.old

-- the banks were mounted, or a clone was made on them: of the durable steps that this had to make a front may be done
pub record StopsAtFirst (found : FoundOnBanks) (ends : ServiceEdges) : Type 0 where
  pub words : NodeWords
  pub are : AreWords ends.texts words
  pub nothing : TakesNoEvent ends
  pub due : List KeptStep
  pub is_due : (due ≡ []) ⊎ IsDueAtFirst words found due
  pub leaves : LeavesDone found [] due ends.old ends.now

-- what was found is no clone that the node may run, and is found still, whatever a crash leaves
pub record FindsSo (So : NodeWords → Type 0) (found : FoundOnBanks) (ends : ServiceEdges) : Type 0 where
  pub words : NodeWords
  pub are : AreWords ends.texts words
  pub so : So words
  pub nothing : TakesNoEvent ends
  pub keeps : HasFound found ends.now
  pub images : ImagesFind found ends.now
  pub leaves : LeavesDone found [] [] ends.old ends.now

-- ---- any end

-- where the banks failed
pub data StopsByDevice (found : FoundOnBanks) (ends : ServiceEdges) : Type 0 where
  at_first : StopsAtFirst found ends → StopsByDevice found ends
  within : StopsWithinEvent found ends → StopsByDevice found ends

-- where the wire failed
pub data StopsOnWire (found : FoundOnBanks) (ends : ServiceEdges) : Type 0 where
  between : StopsBetweenEvents Waits found ends → StopsOnWire found ends
  sending : StopsSending found ends → StopsOnWire found ends

-- where memory was wanting
pub data ServiceStopsAnywhere (found : FoundOnBanks) (ends : ServiceEdges) : Type 0 where
  unread : ServiceHasNotBegun ends → ServiceStopsAnywhere found ends
  on_banks : StopsByDevice found ends → ServiceStopsAnywhere found ends
  on_wire : StopsOnWire found ends → ServiceStopsAnywhere found ends

-- how a run ended, by its fault, where this was found on its banks
abbrev pub ServiceEnds : Option NodeStop → FoundOnBanks → ServiceEdges → Type 0
ServiceEnds None found ends = StopsBetweenEvents HasEnded found ends
ServiceEnds (Some stops.Usage) found ends = ServiceHasNotBegun ends
ServiceEnds (Some stops.NoMemory) found ends = ServiceStopsAnywhere found ends
ServiceEnds (Some stops.Device) found ends = StopsByDevice found ends
ServiceEnds (Some stops.OutOfTurns) found ends = StopsBetweenEvents HasTurned found ends
ServiceEnds (Some stops.WireFault) found ends = StopsOnWire found ends
ServiceEnds (Some (stops.Damaged side place)) found ends = FindsSo (λ words. found ≡ Damage side place) found ends
ServiceEnds (Some stops.OtherClone) found ends = FindsSo (λ words. IsOther words found) found ends
