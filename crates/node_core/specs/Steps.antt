-- What the functions of a node answer for frames, one or more, and for a piece. The private calls behind `Node::on_event` cite it.
use Rattle.std.specs.Prelude.{◌≡◌, ◌≢◌, ◌⊎◌, ℕ, Bool, true, false, List, [], ◌∷◌, Option, None, Some, Result, IsTrue}
use Rattle.std.specs.List.{AllByRecursion}
use Rattle.mld_io.specs.Disk.{Log}
use Rattle.wire_frames.specs.declared.assembling.Assembled.{Assembled}
use Rattle.wire_frames.specs.declared.faults.AssemblyFault.{AssemblyFault}
use Rattle.wire_frames.specs.declared.kinds.Fed.{Fed}
use Rattle.wire_frames.specs.declared.kinds.Frame.{Frame}
use Rattle.wire_frames.specs.declared.kinds.Frame.TheVariants.{Hello}
use Rattle.wire_frames.specs.declared.faults.FrameFault.{FrameFault}
use Rattle.wire_frames.specs.Frames.{FramesValue, Feeds, frame_bytes, hello_format}
use Rattle.wire_frames.specs.MessageParts.{AssemblyValue, Assembles}
use Rattle.node_model.specs.declared.connections.Connection.{Connection}
use Rattle.node_model.specs.declared.connections.Role.{Role}
use Rattle.node_model.specs.declared.connections.Role.TheVariants as role
use Rattle.node_model.specs.Connections.{AreNumbered, connection_of, without, connections_with, opened, is_peer}
use Rattle.node_model.specs.Exchanges.{ExchangeValue, says}
use Rattle.node_core.specs.NodeDeeds.{NodeDoesBy}
use Rattle.node_core.specs.NodeStates.{keeper_of}
use Rattle.node_core.specs.declared.states.NodeState.{NodeState}
use Rattle.node_model.specs.Keepers.{Keeper, keeper_id, keeper_domain}
use Rattle.node_model.specs.FrameSteps.{FrameStep, FramesStep, with_parts, faulting}
use Rattle.node_model.specs.Events.{beginning, put_back}
use Rattle.node_core.specs.declared.pieces.Rest.{Rest}
use Rattle.node_core.specs.declared.pieces.Taken.{Taken}
use Rattle.node_core.specs.Nodes.{BankedNode, IsGood, IsGoodRole}

-- ---- a Hello

-- whether no frame came on a connection yet
abbrev pub is_fresh : Role → Bool
is_fresh role.Fresh = true
is_fresh role.Client = false
is_fresh (role.Peer assembly) = false

-- by which code a Hello is refused, if it is
abbrev pub IsJudged : Keeper → ℕ → List ℕ → List ℕ → Option ℕ → Type 0
IsJudged keeper format id domain None = (format ≡ hello_format) × (domain ≡ keeper_domain keeper) × (id ≢ keeper_id keeper)
IsJudged keeper format id domain (Some code) =
    ((code ≡ 4) × (format ≢ hello_format))
    ⊎ (((code ≡ 3) × ((format ≡ hello_format) × (domain ≢ keeper_domain keeper)))
    ⊎ ((code ≡ 5) × ((format ≡ hello_format) × ((domain ≡ keeper_domain keeper) × (id ≡ keeper_id keeper)))))

-- ---- a part

-- a part came on a peer, whose assembly answers; other connections stay
pub record AddsPart (old : Connection) (number index count : ℕ) (piece : List ℕ) (result : Result Assembled AssemblyFault) (new : Connection) : Type 0 where
  pub assembly : AssemblyValue
  pub was : old.role ≡ role.Peer assembly
  pub left : AssemblyValue
  pub assembles : Assembles assembly number index count piece result left
  pub new_is : new ≡ with_parts left old

pub record IsNoPeer (old new : Connection) : Type 0 where
  pub none : is_peer old.role ≡ false
  pub same : new ≡ old

abbrev pub MayAddPart : Connection → ℕ → ℕ → ℕ → List ℕ → Option (Result Assembled AssemblyFault) → Connection → Type 0
MayAddPart old number index count piece None new = IsNoPeer old new
MayAddPart old number index count piece (Some result) new = AddsPart old number index count piece result new

-- ---- frames

-- the connection at hand took a frame
abbrev pub TakesFrame : {B : Type 0} → (B → Option Log) → Connection → Frame → NodeState B → ExchangeValue → NodeState B → ExchangeValue → Type 0
TakesFrame log one frame old exchange next after =
    NodeDoesBy (λ steps. FrameStep (keeper_of old) one frame exchange steps (keeper_of next) after) log old next

-- frames were taken, one after another
abbrev pub TakesFrames : {B : Type 0} → (B → Option Log) → List Frame → NodeState B → ExchangeValue → NodeState B → ExchangeValue → Type 0
TakesFrames log frames old exchange next after =
    NodeDoesBy (λ steps. FramesStep (keeper_of old) frames exchange steps (keeper_of next) after) log old next

-- ---- an exchange that goes on

-- the connection at hand, where it is still there, has this number and this reader of frames, and no part of it was refused
abbrev pub IsHeld : ℕ → FramesValue → Option Connection → Type 0
IsHeld number reader None = Unit {0}
IsHeld number reader (Some one) = (one.number ≡ number) × ((one.frames ≡ reader) × IsGoodRole one.role)

-- and the others go on
pub record ExchangeGoesOn (number : ℕ) (reader : FramesValue) (exchange : ExchangeValue) : Type 0 where
  pub held : IsHeld number reader exchange.at_hand
  pub good : AllByRecursion IsGood exchange.others
  pub numbered : AreNumbered exchange.others
  pub apart : connection_of number exchange.others ≡ None

-- no frame was refused that is told by this
abbrev pub MayEnd : Option FrameFault → ExchangeValue → Type 0
MayEnd fault exchange = (number : ℕ) × (reader : FramesValue) × ExchangeGoesOn number reader exchange × (fault ≡ None → IsTrue reader.good)

-- ---- a piece

-- an exchange ended, behind a fault of frames, if there is one
pub record ExchangeEnds (fault : Option FrameFault) (exchange : ExchangeValue) (rest : Rest) : Type 0 where
  pub sends : rest.sent.items ≡ (faulting fault exchange).sent
  pub left : rest.connections.items ≡ put_back (faulting fault exchange).at_hand (faulting fault exchange).others
  pub ends : rest.halted ≡ (faulting fault exchange).halted

-- what is at hand may come back to the others
abbrev pub MayPutBack : Option Connection → List Connection → Type 0
MayPutBack None others = AreNumbered others
MayPutBack (Some one) others = AreNumbered others × (connection_of one.number others ≡ None)

-- the frames of a piece were taken, and the fault behind them
pub record TakesFed {B : Type 0} (log : B → Option Log) (old : NodeState B) (exchange : ExchangeValue) (fed : Fed) (taken : Taken B) : Type 0 where
  pub middle : ExchangeValue
  pub does : TakesFrames log fed.frames.items old exchange taken.state middle
  pub ends : ExchangeEnds fed.fault middle taken.rest

-- a piece was taken on a connection, beside these others
pub record TakesPieceOn {B : Type 0} (log : B → Option Log) (old : NodeState B) (one : Connection) (others : List Connection) (piece : List ℕ) (taken : Taken B) : Type 0 where
  pub frames : List Frame
  pub fault : Option FrameFault
  pub reader : FramesValue
  pub reads : Feeds one.frames.rest piece frames fault reader.rest
  pub middle : ExchangeValue
  pub does : TakesFrames log frames old (beginning (record one { frames = reader }) others) taken.state middle
  pub ends : ExchangeEnds fault middle taken.rest

-- ---- an event

-- a node before an event, and behind it
abbrev pub node_with : {B : Type 0} → NodeState B → List Connection → BankedNode B
node_with state connections = record { state = state; connections = connections; halted = false }

abbrev pub taken_node : {B : Type 0} → Taken B → BankedNode B
taken_node taken = record { state = taken.state; connections = taken.rest.connections.items; halted = taken.rest.halted }

-- a connection more was opened, and greeted
pub record GreetsOn {B : Type 0} (state : NodeState B) (connections : List Connection) (number : ℕ) (rest : Rest) : Type 0 where
  pub hello : rest.sent.items ≡ says number (frame_bytes (Hello hello_format (keeper_id (keeper_of state)) (keeper_domain (keeper_of state)))) ∷ []
  pub becomes : rest.connections.items ≡ connections_with (opened number) (without number connections)
  pub goes_on : rest.halted ≡ false
