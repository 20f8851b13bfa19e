-- Messages in parts, replies in frames, and messages that come in parts.
use Rattle.std.specs.Prelude.{◌≡◌, ℕ, zero, suc, ◌+◌, ◌-◌, ◌/◌, ◌==◌, ◌<◌, ◌≤◌, nat_lt, Bool, true, false, ◌⊎◌, List, [], ◌∷◌, ◌++◌, Result, Ok, Err, length, take, drop, if◌then◌else◌}
use Rattle.mld_ops.specs.Messages.{MessageValue, message_value, IsGoodMessage}
use Rattle.op_codec.specs.MessageBytes.{message_bytes}
use Rattle.op_codec.specs.Stored.{IsMessage}
use Rattle.wire_frames.specs.declared.assembling.Assembled.{Assembled}
use Rattle.wire_frames.specs.declared.assembling.Assembled.TheVariants.{Waiting, Whole}
use Rattle.wire_frames.specs.declared.faults.AssemblyFault.{AssemblyFault}
use Rattle.wire_frames.specs.declared.faults.AssemblyFault.TheVariants.{BadPart, NoMemory}
use Rattle.wire_frames.specs.declared.kinds.Frame.{Frame}
use Rattle.wire_frames.specs.declared.kinds.Frame.TheVariants.{Part, Reply}
use Rattle.wire_frames.specs.Frames.{part_size, part_limit, message_limit, frames_bytes}

-- how many parts so many bytes go in
abbrev pub part_count : ℕ → ℕ
part_count size = (size + (part_size - 1)) / part_size

-- so many parts that are left, from this index on: each has as many bytes as a part may have, the last what is left
unfoldable pub parts_from : ℕ → ℕ → ℕ → ℕ → List ℕ → List Frame
parts_from zero number index count bytes = []
parts_from (suc left) number index count bytes =
    Part number index count (take part_size bytes) ∷ parts_from left number (index + 1) count (drop part_size bytes)

-- the parts of the message of this number that has these bytes
abbrev pub part_frames : ℕ → List ℕ → List Frame
part_frames number bytes = parts_from (part_count (length bytes)) number 0 (part_count (length bytes)) bytes

-- the parts of a message as they are written
abbrev pub message_parts : ℕ → MessageValue → List ℕ
message_parts number message = frames_bytes (part_frames number (message_bytes message))

-- a message has too many bytes to go in parts
abbrev pub IsTooLongMessage : MessageValue → Type 0
IsTooLongMessage message = message_limit < length (message_bytes message)

-- the same, as a test
abbrev pub is_too_long : MessageValue → Bool
is_too_long message = nat_lt message_limit (length (message_bytes message))

-- so many frames that more follow, each with as many bytes as a part may have, and the last with what is left
unfoldable pub replies_from : ℕ → List ℕ → List Frame
replies_from zero bytes = Reply bytes false ∷ []
replies_from (suc left) bytes = Reply (take part_size bytes) true ∷ replies_from left (drop part_size bytes)

-- the frames of a reply's text, which has a byte
abbrev pub reply_parts : List ℕ → List Frame
reply_parts text = replies_from ((length text - 1) / part_size) text

-- ---- messages that come in parts

-- what an assembly has: the number of the message that is due or under way, how many parts that has, the index of its next part, the
-- bytes of those that came, and whether all was well so far. While none is under way it has no parts and no bytes, and the index is 0
pub record AssemblyValue : Type 0 where
  pub number : ℕ
  pub count : ℕ
  pub index : ℕ
  pub bytes : List ℕ
  pub good : Bool

-- an assembly that waits for the message of this number
abbrev pub waits_for : ℕ → AssemblyValue
waits_for number = record { number = number; count = 0; index = 0; bytes = []; good = true }

-- an assembly at first
abbrev pub fresh_assembly : AssemblyValue
fresh_assembly = waits_for 0

-- the greatest number of a message
abbrev pub last_number : ℕ
last_number = 4294967295

-- the number of the message behind the one of this number
abbrev pub next_number : ℕ → ℕ
next_number number = if number == last_number then 0 else number + 1

-- a part has as many bytes as it should: the last at least one, and each before it as many as a part may have
pub record IsSizedPart (index count : ℕ) (piece : List ℕ) : Type 0 where
  pub full : index + 1 < count → length piece ≡ part_size
  pub low : 1 ≤ length piece
  pub high : length piece ≤ part_size

-- a part may be the next one
pub record IsNextPart (assembly : AssemblyValue) (number index count : ℕ) (piece : List ℕ) : Type 0 where
  pub number_due : number ≡ assembly.number
  pub index_due : index ≡ assembly.index
  pub begun : 1 ≤ assembly.count → count ≡ assembly.count
  pub few : count ≤ part_limit
  pub one_of : index < count
  pub sized : IsSizedPart index count piece

-- no message is spelled by these bytes
abbrev pub HasNoMessage : List ℕ → Type 0
HasNoMessage bytes = (message : MessageValue) → IsMessage message → ¬ (message_bytes message ≡ bytes)

-- a part was taken, and so many are left
pub record TakesPart (old : AssemblyValue) (number index count : ℕ) (piece : List ℕ) (left : ℕ) (new : AssemblyValue) : Type 0 where
  pub next : IsNextPart old number index count piece
  pub more : index + 1 < count
  pub left_is : left ≡ count - (index + 1)
  pub new_is : new ≡ record { number = number; count = count; index = index + 1; bytes = old.bytes ++ piece; good = true }

-- the last part was taken, and this message is whole
pub record TakesLast (old : AssemblyValue) (number index count : ℕ) (piece : List ℕ) (message : MessageValue) (new : AssemblyValue) : Type 0 where
  pub next : IsNextPart old number index count piece
  pub last : index + 1 ≡ count
  pub spelled : message_bytes message ≡ old.bytes ++ piece
  pub grammar : IsMessage message
  pub good : IsGoodMessage message
  pub new_is : new ≡ waits_for (next_number number)

-- the last part of bytes that spell no message
pub record EndsNoMessage (old : AssemblyValue) (number index count : ℕ) (piece : List ℕ) : Type 0 where
  pub next : IsNextPart old number index count piece
  pub last : index + 1 ≡ count
  pub none : HasNoMessage (old.bytes ++ piece)

-- a part isn't the next one, or it is the last of bytes that spell no message
abbrev pub IsBadPart : AssemblyValue → ℕ → ℕ → ℕ → List ℕ → Type 0
IsBadPart old number index count piece =
    (¬ IsNextPart old number index count piece) ⊎ EndsNoMessage old number index count piece

-- what an assembly does with a part
abbrev pub Assembles : AssemblyValue → ℕ → ℕ → ℕ → List ℕ → Result Assembled AssemblyFault → AssemblyValue → Type 0
Assembles old number index count piece (Ok (Waiting left)) new = TakesPart old number index count piece left new
Assembles old number index count piece (Ok (Whole message)) new = TakesLast old number index count piece (message_value message) new
Assembles old number index count piece (Err BadPart) new = IsBadPart old number index count piece × (new.good ≡ false)
Assembles old number index count piece (Err NoMemory) new = new.good ≡ false
