-- A law of parts: they give the message back that went in them.
use Rattle.std.specs.Prelude.{◌≡◌, ℕ, List, [], ◌∷◌, Result, Ok, Err, length}
use Rattle.mld_ops.specs.Messages.{MessageValue, message_value}
use Rattle.op_codec.specs.MessageBytes.{message_bytes}
use Rattle.op_codec.specs.Stored.{IsMessage}
use Rattle.wire_frames.specs.declared.assembling.Assembled.{Assembled}
use Rattle.wire_frames.specs.declared.assembling.Assembled.TheVariants.{Waiting, Whole}
use Rattle.wire_frames.specs.declared.faults.AssemblyFault.{AssemblyFault}
use Rattle.wire_frames.specs.declared.faults.AssemblyFault.TheVariants.{NoMemory}
use Rattle.wire_frames.specs.declared.kinds.Frame.{Frame}
use Rattle.wire_frames.specs.declared.kinds.Frame.TheVariants.{Part}
use Rattle.wire_frames.specs.MessageParts.{IsTooLongMessage, part_frames, AssemblyValue, waits_for, next_number, Assembles}

-- the answer to a part as it should be: the assembly waits for those that are left and goes on with them, or none is left and it gives
-- the message; want of memory is free
abbrev pub AnswersPart : MessageValue → ℕ → List Frame → (AssemblyValue → Type 0) → Result Assembled AssemblyFault → AssemblyValue → Type 0
AnswersPart message number [] goes_on (Ok (Whole given)) new = (message_value given ≡ message) × (new ≡ waits_for (next_number number))
AnswersPart message number (frame ∷ frames) goes_on (Ok (Waiting left)) new = (left ≡ length (frame ∷ frames)) × goes_on new
AnswersPart message number frames goes_on (Err NoMemory) new = Unit {0}
AnswersPart message number frames goes_on result new = ⊥

-- parts that are given to an assembly one after another give this message at the last, whatever it may answer
abbrev pub GivesMessageBack : MessageValue → List Frame → AssemblyValue → Type 0
GivesMessageBack message (Part number index count piece ∷ frames) old =
    (result : Result Assembled AssemblyFault) (new : AssemblyValue) → Assembles old number index count piece result new
    → AnswersPart message number frames (GivesMessageBack message frames) result new
GivesMessageBack message frames old = ⊥

-- the parts of a message that isn't too long give it back to an assembly that waits for its number
abbrev pub PartsGiveBack : Type 0
PartsGiveBack =
    (message : MessageValue) (number : ℕ) → IsMessage message → ¬ (IsTooLongMessage message)
    → GivesMessageBack message (part_frames number (message_bytes message)) (waits_for number)
