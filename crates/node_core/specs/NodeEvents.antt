-- What a node on its banks does with an event: done, or stopped short. The clauses of `Node::on_event` cite it.
use Rattle.std.specs.Prelude.{◌≡◌, ◌⊎◌, ℕ, false, List, [], ◌∷◌, ◌++◌, Option, Some, Ok}
use Rattle.mld_io.specs.declared.events.Event.{Event}
use Rattle.mld_io.specs.declared.events.Event.TheVariants.{Bytes}
use Rattle.mld_io.specs.Disk.{Log}
use Rattle.mld_ops.specs.declared.messages.Message.{Message}
use Rattle.node_model.specs.clone_parts.KeptSteps.{KeptStep}
use Rattle.node_model.specs.shell_session.SessionLines.{ImagesFind, LeavesFront, LeavesFrontOfDue}
use Rattle.wire_frames.specs.declared.assembling.Assembled.TheVariants.{Whole}
use Rattle.wire_frames.specs.declared.faults.FrameFault.{FrameFault}
use Rattle.wire_frames.specs.declared.kinds.Frame.{Frame}
use Rattle.wire_frames.specs.declared.kinds.Frame.TheVariants.{Request, Part}
use Rattle.wire_frames.specs.Frames.{FramesValue, Feeds}
use Rattle.wire_frames.specs.MessageParts.{AssemblyValue, Assembles}
use Rattle.node_model.specs.declared.connections.Connection.{Connection}
use Rattle.node_model.specs.declared.connections.Role.{Role}
use Rattle.node_model.specs.declared.connections.Role.TheVariants as role
use Rattle.node_model.specs.declared.connections.Sent.{Sent}
use Rattle.node_model.specs.Connections.{connection_of, without}
use Rattle.node_model.specs.Exchanges.{ExchangeValue}
use Rattle.node_core.specs.NodeDeeds.{IsDueByRequest, IsDueByMessage}
use Rattle.node_core.specs.NodeStates.{keeper_of}
use Rattle.node_core.specs.NodeStates as states
use Rattle.node_core.specs.declared.states.NodeState.{NodeState}
use Rattle.node_model.specs.Keepers.{Keeper, keeper_found}
use Rattle.node_model.specs.FrameSteps.{FramesStep}
use Rattle.node_model.specs.Events.{NodeValue, NodeStep, beginning}
use Rattle.node_core.specs.Nodes.{BankedNode, node_value, node_banks}

-- an event was done as the model does it, with what is sent: at each moment since, where the same was found on all that a crash might have left before,
-- what is found is what a front of the durable steps makes of that; and it is found then what all of them make
pub record DoesEvent {B : Type 0} (log : B → Option Log) (old : BankedNode B) (event : Event) (next : BankedNode B) (sent : List Sent) : Type 0 where
  pub steps : List KeptStep
  pub does : NodeStep (node_value old) event sent steps (node_value next)
  pub moments : LeavesFront (keeper_found (node_value old).keeper) steps (log (node_banks old)) (log (node_banks next))
  pub settled : ImagesFind (keeper_found (node_value old).keeper) (log (node_banks old)) → ImagesFind (keeper_found (node_value next).keeper) (log (node_banks next))

-- ---- the durable steps that an event has to make

-- those of a frame, by what its connection is
abbrev pub IsDueByFrame : Keeper → Role → Frame → List KeptStep → Type 0
IsDueByFrame keeper role.Fresh (Request line) steps = IsDueByRequest keeper line steps
IsDueByFrame keeper role.Client (Request line) steps = IsDueByRequest keeper line steps
IsDueByFrame keeper (role.Peer assembly) (Part number index count piece) steps =
    (message : Message) × (left : AssemblyValue) × Assembles assembly number index count piece (Ok (Whole message)) left × IsDueByMessage keeper message steps
IsDueByFrame keeper kind frame steps = ⊥

-- those of the first of some frames, which comes on a connection that is still there
pub record IsDueNext (keeper : Keeper) (exchange : ExchangeValue) (frames : List Frame) (steps : List KeptStep) : Type 0 where
  pub goes_on : exchange.halted ≡ false
  pub hand : Connection
  pub at_hand : exchange.at_hand ≡ Some hand
  pub frame : Frame
  pub more : List Frame
  pub first : frames ≡ frame ∷ more
  pub is_due : IsDueByFrame keeper hand.role frame steps

-- of some frames the first were taken, and one more was under way: the durable steps are those of the first, and those due by that
pub record IsDueByFrames (keeper : Keeper) (frames : List Frame) (exchange : ExchangeValue) (steps : List KeptStep) : Type 0 where
  pub taken : List Frame
  pub rest : List Frame
  pub whole : frames ≡ taken ++ rest
  pub done : List KeptStep
  pub middle : Keeper
  pub between : ExchangeValue
  pub does : FramesStep keeper taken exchange done middle between
  pub due : List KeptStep
  pub is_due : (due ≡ []) ⊎ IsDueNext middle between rest due
  pub all : steps ≡ done ++ due

-- those of the frames that end in a piece
pub record IsDueByPiece (keeper : Keeper) (one : Connection) (others : List Connection) (piece : List ℕ) (steps : List KeptStep) : Type 0 where
  pub frames : List Frame
  pub fault : Option FrameFault
  pub reader : FramesValue
  pub reads : Feeds one.frames.rest piece frames fault reader.rest
  pub due : IsDueByFrames keeper frames (beginning (record one { frames = reader }) others) steps

abbrev pub IsDueByEvent : NodeValue → Event → List KeptStep → Type 0
IsDueByEvent node (Bytes number piece) steps =
    (one : Connection) × (connection_of number node.connections ≡ Some one) × IsDueByPiece node.keeper one (without number node.connections) piece steps
IsDueByEvent node event steps = ⊥

-- ---- a node that stopped short, and what is left on its banks

-- it stopped short of the durable steps of a frame, on a connection of this kind
abbrev pub StopsFrame : {B : Type 0} → (B → Option Log) → Role → Frame → NodeState B → B → Type 0
StopsFrame log kind frame old left = LeavesFrontOfDue (IsDueByFrame (keeper_of old) kind frame) log (keeper_found (keeper_of old)) (states.state_banks old) left

-- it stopped short of the durable steps of frames that come one after another
abbrev pub StopsFrames : {B : Type 0} → (B → Option Log) → List Frame → NodeState B → ExchangeValue → B → Type 0
StopsFrames log frames old exchange left =
    LeavesFrontOfDue (IsDueByFrames (keeper_of old) frames exchange) log (keeper_found (keeper_of old)) (states.state_banks old) left

-- it stopped short of the durable steps of a piece, on a connection beside these others
abbrev pub StopsPiece : {B : Type 0} → (B → Option Log) → Connection → List Connection → List ℕ → NodeState B → B → Type 0
StopsPiece log one others piece old left =
    LeavesFrontOfDue (IsDueByPiece (keeper_of old) one others piece) log (keeper_found (keeper_of old)) (states.state_banks old) left

-- it stopped short of the durable steps of an event
abbrev pub StopsEvent : {B : Type 0} → (B → Option Log) → BankedNode B → Event → B → Type 0
StopsEvent log old event left = LeavesFrontOfDue (IsDueByEvent (node_value old) event) log (keeper_found (keeper_of old.state)) (node_banks old) left
