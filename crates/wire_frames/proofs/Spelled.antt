-- The message that bytes spell, if they spell one.
use Rattle.std.proofs.Common.{◌≡◌, ℕ, ◌+◌, ◌<◌, ◌≤◌, false, List, [], ◌++◌, Err, length, drop, sym, ap, ◌∙◌, subst, inr, arith}
use Rattle.std.proofs.lemmas.List.{length-drop, drop_all, append-nil}
use Rattle.mld_ops.specs.Messages.{MessageValue}
use Rattle.op_codec.specs.CodecLaws.{IsWritten}
use Rattle.op_codec.specs.MessageBytes.{message_bytes, read_message}
use Rattle.op_codec.specs.Reading.{Fault}
use Rattle.op_codec.specs.Stored.{IsMessage}
use Rattle.op_codec.proofs.MessageTrips.{message_back, good_message}
use Rattle.op_codec.proofs.Sequences.{SameParts, same_parts, refuses_rightly}
use Rattle.wire_frames.specs.declared.faults.AssemblyFault.{AssemblyFault}
use Rattle.wire_frames.specs.declared.faults.AssemblyFault.TheVariants.{BadPart, NoMemory}
use Rattle.wire_frames.specs.Assemblies.{IsSpelled, GivesMessage}
use Rattle.wire_frames.specs.MessageParts.{AssemblyValue, IsNextPart, HasNoMessage, Assembles}

-- bytes that begin with two messages begin with one
message_front : (message other : MessageValue) (rest left : List ℕ) → IsMessage message → IsMessage other → message_bytes message ++ rest ≡ message_bytes other ++ left
    → SameParts message other (0 + length (message_bytes message)) (0 + length (message_bytes other)) rest left
message_front message other rest left is also e =
    same_parts message other (0 + length (message_bytes message)) (0 + length (message_bytes other)) rest left (sym (message_back message 0 rest is) ∙ ap (read_message 0) e ∙ message_back other 0 left also)

-- bytes spell one message
pub same_message : (message other : MessageValue) → IsMessage message → IsMessage other → message_bytes message ≡ message_bytes other → message ≡ other
same_message message other is also e = (message_front message other [] [] is also (ap (λ (l : List ℕ). l ++ []) e)).value

module _ (bytes : List ℕ) (message : MessageValue) (end : ℕ) (written : IsWritten IsMessage message_bytes 0 bytes message end (drop end bytes)) where
  -- a message that was read to the end
  pub whole_spelled : length bytes ≤ end → IsSpelled bytes message
  whole_spelled h = record {
    spelled = sym (written.front ∙ ap (λ (l : List ℕ). message_bytes message ++ l) (drop_all end bytes h) ∙ append-nil (message_bytes message));
    grammar = written.value_is;
    good = good_message message written.value_is;
  }

  -- a message with more behind it
  pub more_spelled : end < length bytes → HasNoMessage bytes
  more_spelled h other is e =
      let same = message_front other message [] (drop end bytes) is written.value_is (append-nil (message_bytes other) ∙ e ∙ written.front) in
      let none = ap length same.rest_is in
      let left = length-drop end bytes in
      omega arith

-- bytes that can't be read as a message
pub none_spelled : (bytes : List ℕ) (place : ℕ) → read_message 0 bytes ≡ Fault place → HasNoMessage bytes
none_spelled bytes place h message is e =
    refuses_rightly IsMessage message_bytes read_message message_back 0 place bytes h message [] is (sym e ∙ sym (append-nil (message_bytes message)))

-- the last part, where its message is refused
pub refused_part : (old : AssemblyValue) (number index count : ℕ) (piece bytes : List ℕ) (fault : AssemblyFault) (new : AssemblyValue) → IsNextPart old number index count piece → index + 1 ≡ count
    → bytes ≡ old.bytes ++ piece → GivesMessage bytes (Err fault) → new.good ≡ false → Assembles old number index count piece (Err fault) new
refused_part old number index count piece bytes BadPart new next last e none shut = (inr (record { next = next; last = last; none = subst HasNoMessage e none }), shut)
refused_part old number index count piece bytes NoMemory new next last e none shut = shut
