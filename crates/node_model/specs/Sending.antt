-- What private calls of an exchange tell.
use Rattle.std.specs.Prelude.{◌≡◌, ℕ, ◌<◌, ◌≤◌, Bool, true, false, List, [], ◌∷◌, ◌++◌, length, Option, None, Some, MatchOption}
use Rattle.std.specs.List.{AllWithin, HoldsAt, list_any}
use Rattle.mld_ops.specs.Messages.{MessageValue}
use Rattle.op_codec.specs.MessageBytes.{message_bytes}
use Rattle.wire_frames.specs.Frames.{message_limit}
use Rattle.wire_frames.specs.MessageParts.{is_too_long}
use Rattle.node_model.specs.declared.connections.Connection.{Connection}
use Rattle.node_model.specs.declared.connections.Sent.{Sent}
use Rattle.node_model.specs.declared.parts.ExchangeParts.{ExchangeParts}
use Rattle.node_model.specs.Connections.{is_peer}
use Rattle.node_model.specs.Exchanges.{ExchangeValue, sends, after_sending, sent_to_peers, left_of_peers}

-- an exchange by its fields
abbrev pub exchange_of : ExchangeParts → ExchangeValue
exchange_of parts = record { sent = parts.sent.items; at_hand = parts.at_hand; others = parts.others.items; halted = parts.halted }

-- these are the bytes of a message that isn't too long
pub record AreMessageBytes (message : MessageValue) (bytes : List ℕ) : Type 0 where
  pub whole : bytes ≡ message_bytes message
  pub short : is_too_long message ≡ false

-- so they are, or the message is too long
abbrev pub IsPayload : MessageValue → Option (List ℕ) → Type 0
IsPayload message None = is_too_long message ≡ true
IsPayload message (Some bytes) = AreMessageBytes message bytes

-- bytes, where there are some, go in parts
abbrev pub FitsParts : Option (List ℕ) → Type 0
FitsParts None = Unit {0}
FitsParts (Some bytes) = length bytes ≤ message_limit

-- a message went on a connection
pub record SendsOn (message : MessageValue) (one : Connection) (old new : List Sent) (left : Option Connection) : Type 0 where
  pub adds : new ≡ old ++ sends message one ∷ []
  pub leaves : left ≡ after_sending message one

-- a message went on each peer of a list
pub record SendsToPeers (message : MessageValue) (list : List Connection) (old new : List Sent) (left : List Connection) : Type 0 where
  pub adds : new ≡ old ++ sent_to_peers message list
  pub leaves : left ≡ left_of_peers message list

-- a message went on a connection if that is a peer's
pub record SendsIfPeer (message : MessageValue) (one : Connection) (old : List Sent) (kept : List Connection) (new : List Sent) (left : List Connection) : Type 0 where
  pub adds : new ≡ old ++ sent_to_peers message (one ∷ [])
  pub leaves : left ≡ kept ++ left_of_peers message (one ∷ [])

-- some connection of a list is a peer's
abbrev pub any_peer : List Connection → Bool
any_peer list = list_any (λ (one : Connection). is_peer one.role) list

-- where the first connection is in a list that is of a kind, if there is one
abbrev pub IsPlaceOfFirst : (Connection → Type 0) → List Connection → Option ℕ → Type 0
IsPlaceOfFirst P list found = MatchOption found (AllWithin (λ (one : Connection). ¬ P one) list 0 (length list))
    (λ place. (place < length list) × HoldsAt P list place × AllWithin (λ (one : Connection). ¬ P one) list 0 place)
