-- What the parts of an assembly answer.
use Rattle.std.specs.Prelude.{◌≡◌, List, ℕ, Result, Ok, Err}
use Rattle.mld_ops.specs.Messages.{MessageValue, message_value, IsGoodMessage}
use Rattle.mld_ops.specs.declared.messages.Message.{Message}
use Rattle.op_codec.specs.MessageBytes.{message_bytes}
use Rattle.op_codec.specs.Stored.{IsMessage}
use Rattle.wire_frames.specs.declared.assembling.AssemblyState.{AssemblyState}
use Rattle.wire_frames.specs.declared.faults.AssemblyFault.{AssemblyFault}
use Rattle.wire_frames.specs.declared.faults.AssemblyFault.TheVariants.{BadPart, NoMemory}
use Rattle.wire_frames.specs.MessageParts.{AssemblyValue, HasNoMessage}

-- an assembly by its fields
abbrev pub state_value : AssemblyState → AssemblyValue
state_value state =
    record { number = state.number; count = state.count; index = state.index; bytes = state.bytes.items; good = state.good }

-- bytes spell a message of the grammar, which may be taken
pub record IsSpelled (bytes : List ℕ) (message : MessageValue) : Type 0 where
  pub spelled : message_bytes message ≡ bytes
  pub grammar : IsMessage message
  pub good : IsGoodMessage message

-- the message that bytes spell, or there is none, unless memory ran out
abbrev pub GivesMessage : List ℕ → Result Message AssemblyFault → Type 0
GivesMessage bytes (Ok message) = IsSpelled bytes (message_value message)
GivesMessage bytes (Err BadPart) = HasNoMessage bytes
GivesMessage bytes (Err NoMemory) = Unit {0}
