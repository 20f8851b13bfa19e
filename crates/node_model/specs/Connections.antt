-- The connections of a node, in ascending number, each once.
use Rattle.std.specs.Prelude.{◌≡◌, ℕ, ◌<◌, nat_le, ◌==◌, if◌then◌else◌, Bool, true, false, List, [], ◌∷◌, Option, None, Some}
use Rattle.wire_frames.specs.Frames.{FramesValue}
use Rattle.wire_frames.specs.MessageParts.{fresh_assembly}
use Rattle.node_model.specs.declared.connections.Connection.{Connection}
use Rattle.node_model.specs.declared.connections.Role.{Role}
use Rattle.node_model.specs.declared.connections.Role.TheVariants.{Fresh, Client, Peer}

-- the one of this number
abbrev pub connection_of : ℕ → List Connection → Option Connection
connection_of number [] = None
connection_of number (one ∷ more) = if one.number == number then Some one else connection_of number more

-- all but the one of this number
abbrev pub without : ℕ → List Connection → List Connection
without number [] = []
without number (one ∷ more) = if one.number == number then more else one ∷ without number more

-- one more, in its place
abbrev pub connections_with : Connection → List Connection → List Connection
connections_with one [] = one ∷ []
connections_with one (next ∷ more) = if nat_le next.number one.number then next ∷ connections_with one more else one ∷ next ∷ more

-- nothing came of a frame
abbrev pub no_frames : FramesValue
no_frames = record { place = 0; rest = []; good = true }

-- one that was just opened
abbrev pub opened : ℕ → Connection
opened number = record { number = number; frames = no_frames; role = Fresh; sends = 0 }

-- one that became a peer: of its messages none came yet
abbrev pub as_peer : Connection → Connection
as_peer one = record one { role = Peer fresh_assembly }

-- one that became a client
abbrev pub as_client : Connection → Connection
as_client one = record one { role = Client }

-- whether it is a peer
abbrev pub is_peer : Role → Bool
is_peer Fresh = false
is_peer Client = false
is_peer (Peer assembly) = true

-- their numbers ascend
abbrev pub AreNumbered : List Connection → Type 0
AreNumbered [] = Unit {0}
AreNumbered (one ∷ []) = Unit {0}
AreNumbered (one ∷ next ∷ more) = (one.number < next.number) × AreNumbered (next ∷ more)

-- one more was put in a list: where the numbers ascended, and none was that of the new one, they still ascend
abbrev pub StaysNumbered : Connection → List Connection → List Connection → Type 0
StaysNumbered one old new = AreNumbered old → connection_of one.number old ≡ None → AreNumbered new

-- the one of a number was taken out of a list: where the numbers ascended they still do, and none is this number
pub record IsRidOf (number : ℕ) (new : List Connection) : Type 0 where
  pub numbered : AreNumbered new
  pub gone : connection_of number new ≡ None
