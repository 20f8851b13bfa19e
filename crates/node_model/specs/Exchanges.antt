-- What a node sends while it handles an event, in order, and what becomes of its connections.
use Rattle.std.specs.Prelude.{ℕ, if◌then◌else◌, Bool, true, false, List, [], ◌∷◌, ◌++◌, Option, None, Some}
use Rattle.mld_ops.specs.Messages.{MessageValue}
use Rattle.wire_frames.specs.declared.kinds.Frame.TheVariants.{Refuse}
use Rattle.wire_frames.specs.Frames.{frame_bytes}
use Rattle.wire_frames.specs.MessageParts.{message_parts, is_too_long, next_number}
use Rattle.node_model.specs.declared.connections.Connection.{Connection}
use Rattle.node_model.specs.declared.connections.Sent.{Sent}
use Rattle.node_model.specs.Connections.{is_peer}
use Rattle.node_model.specs.RefusalCodes.{long_message_code}

-- what was sent so far; the connection at hand, whose event it is, until it is refused; the others, in ascending number; and
-- whether the node is to end
pub record ExchangeValue : Type 0 where
  pub sent : List Sent
  pub at_hand : Option Connection
  pub others : List Connection
  pub halted : Bool

-- bytes on a connection
abbrev pub says : ℕ → List ℕ → Sent
says number bytes = record { conn = number; piece = bytes; shut = false }

-- a connection is refused: it is told why, and is shut
abbrev pub refuses : ℕ → ℕ → Sent
refuses number code = record { conn = number; piece = frame_bytes (Refuse code); shut = true }

-- ---- one message on one connection

-- its parts, by the connection's next number; one that is too long is refused
abbrev pub sends : MessageValue → Connection → Sent
sends message one = if is_too_long message then refuses one.number long_message_code else says one.number (message_parts one.sends message)

-- the connection then: it is forgotten where it was refused
abbrev pub after_sending : MessageValue → Connection → Option Connection
after_sending message one = if is_too_long message then None else Some (record one { sends = next_number one.sends })

-- ---- one message on each peer, in ascending number

abbrev pub sent_to_peers : MessageValue → List Connection → List Sent
sent_to_peers message [] = []
sent_to_peers message (one ∷ more) = if is_peer one.role then sends message one ∷ sent_to_peers message more else sent_to_peers message more

-- the connections then
abbrev pub connections_left : Option Connection → List Connection
connections_left None = []
connections_left (Some one) = one ∷ []

abbrev pub left_of_peers : MessageValue → List Connection → List Connection
left_of_peers message [] = []
left_of_peers message (one ∷ more) =
    if is_peer one.role then connections_left (after_sending message one) ++ left_of_peers message more else one ∷ left_of_peers message more

-- ---- an exchange that goes on

-- bytes are sent on a connection
abbrev pub saying : ℕ → List ℕ → ExchangeValue → ExchangeValue
saying number bytes exchange = record exchange { sent = exchange.sent ++ says number bytes ∷ [] }

-- the connection at hand is refused by a code, and forgotten
abbrev pub refusing_at : ℕ → Option Connection → ExchangeValue → ExchangeValue
refusing_at code None exchange = exchange
refusing_at code (Some one) exchange = record exchange { sent = exchange.sent ++ refuses one.number code ∷ []; at_hand = None }

abbrev pub refusing : ℕ → ExchangeValue → ExchangeValue
refusing code exchange = refusing_at code exchange.at_hand exchange

-- a message goes to the connection at hand, where it is still there
abbrev pub telling_at : MessageValue → Option Connection → ExchangeValue → ExchangeValue
telling_at message None exchange = exchange
telling_at message (Some one) exchange = record exchange { sent = exchange.sent ++ sends message one ∷ []; at_hand = after_sending message one }

abbrev pub telling : MessageValue → ExchangeValue → ExchangeValue
telling message exchange = telling_at message exchange.at_hand exchange

-- several do, one after another
abbrev pub telling_each : List MessageValue → ExchangeValue → ExchangeValue
telling_each [] exchange = exchange
telling_each (message ∷ messages) exchange = telling_each messages (telling message exchange)

-- a message goes to every peer but the one at hand
abbrev pub telling_peers : MessageValue → ExchangeValue → ExchangeValue
telling_peers message exchange =
    record exchange { sent = exchange.sent ++ sent_to_peers message exchange.others; others = left_of_peers message exchange.others }

-- several do, message by message
abbrev pub telling_peers_each : List MessageValue → ExchangeValue → ExchangeValue
telling_peers_each [] exchange = exchange
telling_peers_each (message ∷ messages) exchange = telling_peers_each messages (telling_peers message exchange)

-- the connection at hand is this one now
abbrev pub holding : Connection → ExchangeValue → ExchangeValue
holding one exchange = record exchange { at_hand = Some one }

-- the node is to end
abbrev pub halting : ExchangeValue → ExchangeValue
halting exchange = record exchange { halted = true }
