-- The parts of a message give it back.
use Rattle.std.proofs.Common.{◌≡◌, ℕ, zero, suc, ◌+◌, ◌-◌, ◌≤◌, true, inl, inr, List, [], ◌∷◌, ◌++◌, Result, Ok, Err, length, take, drop, refl, sym, ap, ◌∙◌, subst, append_assoc, arith}
use Rattle.std.proofs.lemmas.Bool.{cases_lt}
use Rattle.std.proofs.lemmas.List.{length-take, length-drop, take_all, take-append-drop}
use Rattle.mld_ops.specs.Messages.{MessageValue, message_value}
use Rattle.op_codec.specs.MessageBytes.{message_bytes}
use Rattle.op_codec.specs.Stored.{IsMessage}
use Rattle.wire_frames.specs.declared.assembling.Assembled.{Assembled}
use Rattle.wire_frames.specs.declared.assembling.Assembled.TheVariants.{Waiting, Whole}
use Rattle.wire_frames.specs.declared.faults.AssemblyFault.{AssemblyFault}
use Rattle.wire_frames.specs.declared.faults.AssemblyFault.TheVariants.{BadPart, NoMemory}
use Rattle.wire_frames.specs.declared.kinds.Frame.{Frame}
use Rattle.wire_frames.specs.declared.kinds.Frame.TheVariants.{Part}
use Rattle.wire_frames.specs.Frames.{part_size, part_limit, message_limit}
use Rattle.wire_frames.specs.MessageParts.{part_count, parts_from, AssemblyValue, waits_for, IsNextPart, Assembles}
use Rattle.wire_frames.specs.PartLaws.{AnswersPart, GivesMessageBack, PartsGiveBack}
use Rattle.wire_frames.proofs.PartFrames.{part_count_few}
use Rattle.wire_frames.proofs.ShortMessages.{message_some}
use Rattle.wire_frames.proofs.Spelled.{same_message}

-- how many parts are left
parts_length : (left number index count : ℕ) (bytes : List ℕ) → length (parts_from left number index count bytes) ≡ left
unfolding parts_from
parts_length zero number index count bytes = refl
parts_length (suc left) number index count bytes = ap suc (parts_length left number (index + 1) count (drop part_size bytes))

-- an assembly that has the bytes in front of a rest of the message, of which so many parts are left
record IsUnderWay (message : MessageValue) (number count left : ℕ) (old : AssemblyValue) (index : ℕ) (rest : List ℕ) : Type 0 where
  number_is : number ≡ old.number
  index_is : index ≡ old.index
  begun : 1 ≤ old.count → count ≡ old.count
  few : count ≤ part_limit
  bytes_are : old.bytes ++ rest ≡ message_bytes message
  parts_left : part_count (length rest) ≡ suc left
  all : index + suc left ≡ count

-- the first part of the rest may be next
next_part : (message : MessageValue) (number count left : ℕ) (old : AssemblyValue) (index : ℕ) (rest : List ℕ) → IsUnderWay message number count left old index rest
    → IsNextPart old number index count (take part_size rest)
next_part message number count left old index rest w =
    let all = w.all in
    let parts = w.parts_left in
    let long = length-take part_size rest in
    record {
      number_due = w.number_is;
      index_due = w.index_is;
      begun = w.begun;
      few = w.few;
      one_of = omega arith;
      sized = record { full = λ more. omega arith; low = omega arith; high = omega arith };
    }

-- the last part of a message
module _ (message : MessageValue) (number count : ℕ) (old : AssemblyValue) (index : ℕ) (rest : List ℕ) (is : IsMessage message) (w : IsUnderWay message number count 0 old index rest) where
  last_bytes : old.bytes ++ take part_size rest ≡ message_bytes message
  last_bytes =
      let parts = w.parts_left in
      ap (λ (l : List ℕ). old.bytes ++ l) (take_all part_size rest (omega arith)) ∙ w.bytes_are

  last_answer : (goes_on : AssemblyValue → Type 0) (result : Result Assembled AssemblyFault) (new : AssemblyValue) → Assembles old number index count (take part_size rest) result new → AnswersPart message number [] goes_on result new
  last_answer goes_on (Ok (Waiting left)) new a =
      let all = w.all in
      let more = a.more in
      omega arith
  last_answer goes_on (Ok (Whole given)) new a = (same_message (message_value given) message a.grammar is (a.spelled ∙ last_bytes), a.new_is)
  last_answer goes_on (Err BadPart) new a = elim a.0 [
    | inl other ↦ other (next_part message number count 0 old index rest w)
    | inr ends ↦ ends.none message is (sym last_bytes)
  ]
  last_answer goes_on (Err NoMemory) new a = tt

-- a part with more behind it
module _ (message : MessageValue) (number count left : ℕ) (old : AssemblyValue) (index : ℕ) (rest : List ℕ) (w : IsUnderWay message number count (suc left) old index rest) where
  -- the assembly goes on
  taken_on : AssemblyValue
  taken_on = record { number = number; count = count; index = index + 1; bytes = old.bytes ++ take part_size rest; good = true }

  under_way : IsUnderWay message number count left taken_on (index + 1) (drop part_size rest)
  unfolding taken_on
  under_way =
      let all = w.all in
      let parts = w.parts_left in
      let less = length-drop part_size rest in
      record {
        number_is = refl;
        index_is = refl;
        begun = λ h. refl;
        few = w.few;
        bytes_are =
            append_assoc old.bytes (take part_size rest) (drop part_size rest) ∙ ap (λ (l : List ℕ). old.bytes ++ l) (take-append-drop part_size rest) ∙ w.bytes_are;
        parts_left = omega arith;
        all = omega arith;
      }

  more_answer : (frame : Frame) (frames : List Frame) (goes_on : AssemblyValue → Type 0) → length (frame ∷ frames) ≡ suc left → goes_on taken_on
      → (result : Result Assembled AssemblyFault) (new : AssemblyValue) → Assembles old number index count (take part_size rest) result new → AnswersPart message number (frame ∷ frames) goes_on result new
  unfolding taken_on
  more_answer frame frames goes_on many on (Ok (Waiting given)) new a =
      let all = w.all in
      let given_is = a.left_is in
      (omega arith, subst goes_on (sym a.new_is) on)
  more_answer frame frames goes_on many on (Ok (Whole given)) new a =
      let all = w.all in
      let last = a.last in
      omega arith
  more_answer frame frames goes_on many on (Err BadPart) new a = elim a.0 [
    | inl other ↦ other (next_part message number count (suc left) old index rest w)
    | inr ends ↦
        let all = w.all in
        let last = ends.last in
        omega arith
  ]
  more_answer frame frames goes_on many on (Err NoMemory) new a = tt

-- the parts of a rest
rest_given : (left : ℕ) (message : MessageValue) (number count : ℕ) (old : AssemblyValue) (index : ℕ) (rest : List ℕ) → IsMessage message → IsUnderWay message number count left old index rest
    → GivesMessageBack message (parts_from (suc left) number index count rest) old
unfolding parts_from
rest_given zero message number count old index rest is w = last_answer message number count old index rest is w (GivesMessageBack message [])
rest_given (suc left) message number count old index rest is w =
    more_answer message number count left old index rest w (Part number (index + 1) count (take part_size (drop part_size rest)))
    (parts_from left number (index + 1 + 1) count (drop part_size (drop part_size rest))) (GivesMessageBack message (parts_from (suc left) number (index + 1) count (drop part_size rest)))
    (parts_length (suc left) number (index + 1) count (drop part_size rest))
    (rest_given left message number count (taken_on message number count left old index rest w) (index + 1) (drop part_size rest) is (under_way message number count left old index rest w))

pub given_back : PartsGiveBack
given_back message number is fits =
    let size : length (message_bytes message) ≤ message_limit = elim (cases_lt message_limit (length (message_bytes message))) [ inl over ↦ absurd (fits over) | inr within ↦ within ] in
    let some = message_some message in
    let parts : part_count (length (message_bytes message)) ≡ suc (part_count (length (message_bytes message)) - 1) = omega arith in
    subst (λ (left : ℕ). GivesMessageBack message (parts_from left number 0 (part_count (length (message_bytes message))) (message_bytes message)) (waits_for number)) (sym parts)
    (rest_given (part_count (length (message_bytes message)) - 1) message number (part_count (length (message_bytes message))) (waits_for number) 0 (message_bytes message) is
    (record {
      number_is = refl;
      index_is = refl;
      begun = λ h. absurd (omega arith);
      few = part_count_few (length (message_bytes message)) size;
      bytes_are = refl;
      parts_left = parts;
      all = omega arith;
    }))
