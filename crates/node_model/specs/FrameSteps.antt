-- What a node does with the frames of a connection, one after another.
use Rattle.std.specs.Prelude.{◌≡◌, ◌≢◌, ℕ, if◌then◌else◌, ◌⊎◌, true, false, List, [], ◌∷◌, ◌++◌, Option, None, Some, Ok, Err}
use Rattle.mld_ops.specs.declared.messages.Message.{Message}
use Rattle.shell_session.specs.clone_parts.KeptSteps.{KeptStep}
use Rattle.wire_frames.specs.declared.faults.AssemblyFault.TheVariants.{BadPart}
use Rattle.wire_frames.specs.declared.faults.FrameFault.{FrameFault}
use Rattle.wire_frames.specs.declared.faults.FrameFault.TheVariants.{BadFrame, TooLong}
use Rattle.wire_frames.specs.declared.kinds.Frame.{Frame}
use Rattle.wire_frames.specs.declared.kinds.Frame.TheVariants.{Hello, Part, Request}
use Rattle.wire_frames.specs.declared.assembling.Assembled.TheVariants.{Waiting, Whole}
use Rattle.wire_frames.specs.Frames.{hello_format}
use Rattle.wire_frames.specs.MessageParts.{AssemblyValue, Assembles}
use Rattle.node_model.specs.declared.connections.Connection.{Connection}
use Rattle.node_model.specs.declared.connections.Role.{Role}
use Rattle.node_model.specs.declared.connections.Role.TheVariants as role
use Rattle.node_model.specs.Connections.{as_peer}
use Rattle.node_model.specs.Exchanges.{ExchangeValue, refusing, telling, holding}
use Rattle.node_model.specs.RefusalCodes.{bad_frame_code, long_frame_code, misplaced_code, other_domain_code, other_format_code, own_id_code}
use Rattle.node_model.specs.Keepers.{Keeper, keeper_id, keeper_domain, question_of}
use Rattle.node_model.specs.Requests.{TakesRequest}
use Rattle.node_model.specs.NodeMessages.{Receives}

-- nothing is kept, and the node has what it had
pub record KeepsAll (keeper : Keeper) (steps : List KeptStep) (next : Keeper) : Type 0 where
  pub none : steps ≡ []
  pub same : next ≡ keeper

-- ---- a Hello

-- The first frame of a connection is a Hello: of another format, of another domain, or of the node's own id, it is refused; else its sender is a
-- peer, and is asked for what is lacked.
pub data Greets (keeper : Keeper) (one : Connection) (format : ℕ) (id domain : List ℕ) (exchange : ExchangeValue) : ExchangeValue → Type 0 where
  of_other_format : format ≢ hello_format → Greets keeper one format id domain exchange (refusing other_format_code (holding one exchange))
  of_other_domain : format ≡ hello_format → domain ≢ keeper_domain keeper → Greets keeper one format id domain exchange (refusing other_domain_code (holding one exchange))
  of_own_id : format ≡ hello_format → domain ≡ keeper_domain keeper → id ≡ keeper_id keeper
      → Greets keeper one format id domain exchange (refusing own_id_code (holding one exchange))
  of_peer : format ≡ hello_format → domain ≡ keeper_domain keeper → id ≢ keeper_id keeper
      → Greets keeper one format id domain exchange (telling (question_of keeper) (holding (as_peer one) exchange))

-- ---- a part

-- the peer, of whose messages these parts came
abbrev pub with_parts : AssemblyValue → Connection → Connection
with_parts assembly one = record one { role = role.Peer assembly }

-- a part came of a peer: its message isn't whole yet; or it is, and is received; or the part is none that may come, and the peer is refused
pub data ReceivesPart (keeper : Keeper) (one : Connection) (assembly : AssemblyValue) (number index count : ℕ) (piece : List ℕ) (exchange : ExchangeValue)
    : List KeptStep → Keeper → ExchangeValue → Type 0 where
  waits : (missing : ℕ) (put : AssemblyValue) → Assembles assembly number index count piece (Ok (Waiting missing)) put
      → ReceivesPart keeper one assembly number index count piece exchange [] keeper (holding (with_parts put one) exchange)
  is_whole : (message : Message) (put : AssemblyValue) → Assembles assembly number index count piece (Ok (Whole message)) put
      → (steps : List KeptStep) (next : Keeper) (after : ExchangeValue) → Receives keeper message (holding (with_parts put one) exchange) steps next after
      → ReceivesPart keeper one assembly number index count piece exchange steps next after
  is_bad : (put : AssemblyValue) → Assembles assembly number index count piece (Err BadPart) put
      → ReceivesPart keeper one assembly number index count piece exchange [] keeper (refusing bad_frame_code (holding one exchange))

-- ---- a frame

-- a frame that may not come on such a connection is refused
pub record IsOutOfPlace (keeper : Keeper) (one : Connection) (exchange : ExchangeValue) (steps : List KeptStep) (next : Keeper) (after : ExchangeValue) : Type 0 where
  pub nothing : KeepsAll keeper steps next
  pub refused : after ≡ refusing misplaced_code (holding one exchange)

-- by what the connection is
abbrev pub FrameStepAs : Role → Frame → Keeper → Connection → ExchangeValue → List KeptStep → Keeper → ExchangeValue → Type 0
FrameStepAs role.Fresh (Hello format id domain) keeper one exchange steps next after =
    KeepsAll keeper steps next × Greets keeper one format id domain exchange after
FrameStepAs role.Fresh (Request line) keeper one exchange steps next after = TakesRequest keeper one line exchange steps next after
FrameStepAs role.Client (Request line) keeper one exchange steps next after = TakesRequest keeper one line exchange steps next after
FrameStepAs (role.Peer assembly) (Part number index count piece) keeper one exchange steps next after =
    ReceivesPart keeper one assembly number index count piece exchange steps next after
FrameStepAs kind frame keeper one exchange steps next after = IsOutOfPlace keeper one exchange steps next after

abbrev pub FrameStep : Keeper → Connection → Frame → ExchangeValue → List KeptStep → Keeper → ExchangeValue → Type 0
FrameStep keeper one frame exchange steps next after = FrameStepAs one.role frame keeper one exchange steps next after

-- ---- frames, and a fault behind them

-- Frames come on the connection at hand, one after another. Those that come behind one by which it was refused, or by which the node is to end,
-- are dropped.
pub data FramesStep : Keeper → List Frame → ExchangeValue → List KeptStep → Keeper → ExchangeValue → Type 0 where
  no_more : (keeper : Keeper) (exchange : ExchangeValue) → FramesStep keeper [] exchange [] keeper exchange
  are_dropped : (keeper : Keeper) (frames : List Frame) (exchange : ExchangeValue) → (exchange.halted ≡ true) ⊎ (exchange.at_hand ≡ None)
      → FramesStep keeper frames exchange [] keeper exchange
  and_then : (keeper : Keeper) (one : Connection) (frame : Frame) (frames : List Frame) (exchange : ExchangeValue)
      → exchange.halted ≡ false → exchange.at_hand ≡ Some one
      → (first : List KeptStep) (middle : Keeper) (between : ExchangeValue) → FrameStep keeper one frame exchange first middle between
      → (rest : List KeptStep) (next : Keeper) (after : ExchangeValue) → FramesStep middle frames between rest next after
      → FramesStep keeper (frame ∷ frames) exchange (first ++ rest) next after

-- the code by which a fault of frames is refused
abbrev pub refusal_code : FrameFault → ℕ
refusal_code (BadFrame place) = bad_frame_code
refusal_code (TooLong place) = long_frame_code

-- the connection at hand is forgotten
abbrev pub forgetting : ExchangeValue → ExchangeValue
forgetting exchange = record exchange { at_hand = None }

-- Behind the frames there may be a fault. The connection is refused for it, where it is still there; where the node is to end, it is dropped too.
abbrev pub faulting : Option FrameFault → ExchangeValue → ExchangeValue
faulting None exchange = exchange
faulting (Some fault) exchange = if exchange.halted then forgetting exchange else refusing (refusal_code fault) exchange
