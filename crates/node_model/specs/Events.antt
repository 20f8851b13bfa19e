-- What a node does with the events of its wire.
use Rattle.std.specs.Prelude.{◌≡◌, ℕ, if◌then◌else◌, Bool, true, false, List, [], ◌∷◌, ◌++◌, Option, None, Some}
use Rattle.mld_io.specs.declared.events.Event.{Event}
use Rattle.mld_io.specs.declared.events.Event.TheVariants.{Opened, Bytes, Shut, End}
use Rattle.mld_io.specs.declared.events.WireCall.TheVariants as call
use Rattle.mld_io.specs.Wires.{WireLog, after_shut}
use Rattle.shell_session.specs.clone_parts.KeptSteps.{KeptStep}
use Rattle.wire_frames.specs.declared.faults.FrameFault.{FrameFault}
use Rattle.wire_frames.specs.declared.kinds.Frame.{Frame}
use Rattle.wire_frames.specs.declared.kinds.Frame.TheVariants.{Hello}
use Rattle.wire_frames.specs.Frames.{FramesValue, Feeds, frame_bytes, hello_format}
use Rattle.node_model.specs.declared.connections.Connection.{Connection}
use Rattle.node_model.specs.declared.connections.Sent.{Sent}
use Rattle.node_model.specs.Connections.{connection_of, without, connections_with, opened}
use Rattle.node_model.specs.Exchanges.{ExchangeValue, says}
use Rattle.node_model.specs.Keepers.{Keeper, keeper_id, keeper_domain}
use Rattle.node_model.specs.FrameSteps.{FramesStep, faulting}

-- a node: what it has, its connections in ascending number, and whether it has ended
pub record NodeValue : Type 0 where
  pub keeper : Keeper
  pub connections : List Connection
  pub halted : Bool

-- ---- a piece of a connection

-- an exchange begins with this connection at hand
abbrev pub beginning : Connection → List Connection → ExchangeValue
beginning one others = record { sent = []; at_hand = Some one; others = others; halted = false }

-- the connection at hand comes back to the others, where it is still there
abbrev pub put_back : Option Connection → List Connection → List Connection
put_back None others = others
put_back (Some one) others = connections_with one others

-- the node once an exchange ended
abbrev pub node_after : Keeper → ExchangeValue → NodeValue
node_after keeper exchange = record { keeper = keeper; connections = put_back exchange.at_hand exchange.others; halted = exchange.halted }

-- a piece came on a connection: the frames that end in it are taken in order, up to the first fault
pub record TakesPiece (node : NodeValue) (one : Connection) (piece : List ℕ) (sent : List Sent) (steps : List KeptStep) (next : NodeValue) : Type 0 where
  pub frames : List Frame
  pub fault : Option FrameFault
  pub reader : FramesValue
  pub reads : Feeds one.frames.rest piece frames fault reader.rest
  pub keeper : Keeper
  pub middle : ExchangeValue
  pub does : FramesStep node.keeper frames (beginning (record one { frames = reader }) (without one.number node.connections)) steps keeper middle
  pub sends : sent ≡ (faulting fault middle).sent
  pub becomes : next ≡ node_after keeper (faulting fault middle)

-- ---- any event

-- nothing is sent or kept, and the node becomes this
pub record OnlyBecomes (it : NodeValue) (sent : List Sent) (steps : List KeptStep) (next : NodeValue) : Type 0 where
  pub silent : sent ≡ []
  pub none : steps ≡ []
  pub becomes : next ≡ it

-- a piece of a connection that isn't known changes nothing
abbrev pub PieceStep : Option Connection → NodeValue → List ℕ → List Sent → List KeptStep → NodeValue → Type 0
PieceStep None node piece sent steps next = OnlyBecomes node sent steps next
PieceStep (Some one) node piece sent steps next = TakesPiece node one piece sent steps next

-- a connection was opened, and begins anew where it was known: it is told who the node is
pub record GreetsNew (node : NodeValue) (number : ℕ) (sent : List Sent) (steps : List KeptStep) (next : NodeValue) : Type 0 where
  pub hello : sent ≡ says number (frame_bytes (Hello hello_format (keeper_id node.keeper) (keeper_domain node.keeper))) ∷ []
  pub none : steps ≡ []
  pub becomes : next ≡ record node { connections = connections_with (opened number) (without number node.connections) }

-- the step of a node by an event: what is sent, in order; the durable steps; and the node then
abbrev pub NodeStep : NodeValue → Event → List Sent → List KeptStep → NodeValue → Type 0
NodeStep node (Opened number) sent steps next = GreetsNew node number sent steps next
NodeStep node (Bytes number piece) sent steps next = PieceStep (connection_of number node.connections) node piece sent steps next
NodeStep node (Shut number) sent steps next = OnlyBecomes (record node { connections = without number node.connections }) sent steps next
NodeStep node End sent steps next = OnlyBecomes (record node { halted = true }) sent steps next

-- ---- many events

-- what is told of a wire over which this was sent, the newest first
abbrev pub log_with : Sent → WireLog → WireLog
log_with one log = if one.shut then after_shut one.conn (call.Sent one.conn one.piece ∷ log) else call.Sent one.conn one.piece ∷ log

abbrev pub log_after : List Sent → WireLog → WireLog
log_after [] log = log
log_after (one ∷ more) log = log_after more (log_with one log)

-- A run over events: each is taken from the wire where the node hasn't ended, and what the node sends for it is sent before the next is taken. The
-- durable steps are theirs, in order.
abbrev pub NodeRuns : NodeValue → List Event → WireLog → List KeptStep → NodeValue → WireLog → Type 0
NodeRuns node [] log steps next after = (steps ≡ []) × (next ≡ node) × (after ≡ log)
NodeRuns node (event ∷ events) log steps next after =
    (node.halted ≡ false) × (sent : List Sent) × (first : List KeptStep) × (rest : List KeptStep) × (middle : NodeValue)
    × NodeStep node event sent first middle × NodeRuns middle events (log_after sent (call.Took event ∷ log)) rest next after
    × (steps ≡ first ++ rest)
