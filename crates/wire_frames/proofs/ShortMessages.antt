-- A message whose bytes aren't too many may be written: its lists and texts are short.
use Rattle.std.proofs.Common.{◌≡◌, ℕ, zero, suc, ◌+◌, ◌<◌, ◌≤◌, List, [], ◌∷◌, ◌++◌, length, slice_index_or, inl, inr, arith}
use Rattle.std.proofs.lemmas.Bool.{cases_lt}
use Rattle.std.proofs.lemmas.List.{length-append}
use Rattle.std.specs.List.{flat_map}
use Rattle.mld_bytes.proofs.Numbers.{length-u32_bytes}
use Rattle.mld_bytes.specs.Bytes.{u32_bytes}
use Rattle.mld_ops.specs.Entry.{EntryValue}
use Rattle.mld_ops.specs.Messages.{SnapshotValue, MessageValue, CarriesEntry, CarriesWant, CarriesSnapshot, CarriesAsk, CarriesGive}
use Rattle.mld_ops.specs.declared.tagged.Tagged.{Tagged}
use Rattle.op_codec.specs.Clocks.{tick_bytes, dot_bytes, ticks_bytes, clock_bytes}
use Rattle.op_codec.specs.Entries.{range_bytes, insert_bytes, inserts_bytes, entry_bytes}
use Rattle.op_codec.specs.MessageBytes.{snapshot_bytes, message_bytes}
use Rattle.op_codec.specs.PairBytes.{pair_bytes, pairs_bytes}
use Rattle.op_codec.specs.Paths.{path_bytes}
use Rattle.op_codec.specs.Stored.{IsShort, AreShortPairs, AreShortInserts, IsShortEntry, IsShortSnapshot, IsShortMessage}
use Rattle.op_codec.specs.StoredLists.{list_bytes}
use Rattle.op_codec.specs.Triples.{stored_triple}
use Rattle.rdf_terms.specs.Spelling.{triple_text}
use Rattle.rdf_terms.specs.declared.terms.Triple.{Triple}
use Rattle.wire_frames.specs.Frames.{message_limit}
use Rattle.wire_frames.specs.MessageParts.{IsTooLongMessage}

-- the bytes of an element are among those of all
element_among : {X : Type 0} (f : X → List ℕ) (xs : List X) (k : ℕ) (d : X) → k < length xs → length (f (slice_index_or xs k d)) ≤ length (flat_map f xs)
element_among f [] k d l = absurd (omega arith)
element_among f (x ∷ xs) zero d l = let all = length-append (f x) (flat_map f xs) in omega arith
element_among f (x ∷ xs) (suc k) d l =
    let h = element_among f xs k d (omega arith) in
    let all = length-append (f x) (flat_map f xs) in
    omega arith

-- elements that have a byte are no more than their bytes
count_among : {X : Type 0} (f : X → List ℕ) → ((x : X) → 1 ≤ length (f x)) → (xs : List X) → length xs ≤ length (flat_map f xs)
count_among f some [] = omega arith
count_among f some (x ∷ xs) =
    let h = count_among f some xs in
    let one = some x in
    let all = length-append (f x) (flat_map f xs) in
    omega arith

-- the bytes of a list
list_length : {X : Type 0} (f : X → List ℕ) (xs : List X) → length (list_bytes f xs) ≡ 4 + length (flat_map f xs)
list_length f xs =
    let all = length-append (u32_bytes (length xs)) (flat_map f xs) in
    let four = length-u32_bytes (length xs) in
    omega arith

-- a triple's text is among its bytes
text_among : (triple : Triple) → length (stored_triple triple) ≡ 4 + length (triple_text triple)
text_among triple =
    let all = length-append (u32_bytes (length (triple_text triple))) (triple_text triple) in
    let four = length-u32_bytes (length (triple_text triple)) in
    omega arith

ticks_some : (ticks : List ℕ × ℕ) → 1 ≤ length (ticks_bytes ticks)
ticks_some ticks =
    let all = length-append (path_bytes ticks.0) (tick_bytes ticks.1) in
    let four = length-u32_bytes ticks.1 in
    omega arith

pair_among : (pair : Tagged) → 4 + length (triple_text pair.triple) ≤ length (pair_bytes pair)
pair_among pair =
    let all = length-append (stored_triple pair.triple) (dot_bytes pair.dot) in
    let text = text_among pair.triple in
    omega arith

insert_among : (insert : Triple × ℕ) → 4 + length (triple_text insert.0) ≤ length (insert_bytes insert)
insert_among insert =
    let all = length-append (stored_triple insert.0) (tick_bytes insert.1) in
    let text = text_among insert.0 in
    omega arith

short_clock : (ticks : List (List ℕ × ℕ)) → length (clock_bytes ticks) ≤ message_limit → IsShort ticks
unfolding clock_bytes
short_clock ticks h =
    let all = list_length ticks_bytes ticks in
    let count = count_among ticks_bytes ticks_some ticks in
    omega arith

short_pairs : (pairs : List Tagged) → length (pairs_bytes pairs) ≤ message_limit → AreShortPairs pairs
unfolding pairs_bytes
short_pairs pairs h =
    let all = list_length pair_bytes pairs in
    let count = count_among pair_bytes (λ pair. let one = pair_among pair in omega arith) pairs in
    record {
      count = omega arith;
      texts = λ k d l.
          let one = element_among pair_bytes pairs k d l in
          let text = pair_among (slice_index_or pairs k d) in
          omega arith;
    }

short_inserts : (inserts : List (Triple × ℕ)) → length (inserts_bytes inserts) ≤ message_limit → AreShortInserts inserts
unfolding inserts_bytes
short_inserts inserts h =
    let all = list_length insert_bytes inserts in
    let count = count_among insert_bytes (λ insert. let one = insert_among insert in omega arith) inserts in
    record {
      count = omega arith;
      texts = λ k d l.
          let one = element_among insert_bytes inserts k d l in
          let text = insert_among (slice_index_or inserts k d) in
          omega arith;
    }

short_entry : (entry : EntryValue) → length (entry_bytes entry) ≤ message_limit → IsShortEntry entry
unfolding entry_bytes
short_entry entry h =
    let a = length-append (range_bytes entry.range) (clock_bytes entry.time ++ (pairs_bytes entry.deletes ++ inserts_bytes entry.inserts)) in
    let b = length-append (clock_bytes entry.time) (pairs_bytes entry.deletes ++ inserts_bytes entry.inserts) in
    let d = length-append (pairs_bytes entry.deletes) (inserts_bytes entry.inserts) in
    record {
      time = short_clock entry.time (omega arith);
      deletes = short_pairs entry.deletes (omega arith);
      inserts = short_inserts entry.inserts (omega arith);
    }

short_snapshot : (snapshot : SnapshotValue) → length (snapshot_bytes snapshot) ≤ message_limit → IsShortSnapshot snapshot
short_snapshot snapshot h =
    let a = length-append (clock_bytes snapshot.ticks) (pairs_bytes snapshot.pairs) in
    record { ticks = short_clock snapshot.ticks (omega arith); pairs = short_pairs snapshot.pairs (omega arith) }

-- a message that isn't too long is short
pub short_message : (message : MessageValue) → length (message_bytes message) ≤ message_limit → IsShortMessage message
unfolding message_bytes
short_message (CarriesEntry entry) h = short_entry entry (omega arith)
short_message (CarriesWant ticks) h = short_clock ticks (omega arith)
short_message (CarriesSnapshot snapshot) h = short_snapshot snapshot (omega arith)
short_message (CarriesAsk id) h = tt
short_message (CarriesGive give) h =
    let a = length-append give.id (path_bytes give.path ++ snapshot_bytes give.snapshot) in
    let b = length-append (path_bytes give.path) (snapshot_bytes give.snapshot) in
    short_snapshot give.snapshot (omega arith)

-- a message that isn't short is too long
pub long_message : (message : MessageValue) → ¬ IsShortMessage message → IsTooLongMessage message
long_message message long = elim (cases_lt message_limit (length (message_bytes message))) [
  | inl over ↦ over
  | inr within ↦ absurd (long (short_message message within))
]

-- a message has a byte
pub message_some : (message : MessageValue) → 1 ≤ length (message_bytes message)
unfolding message_bytes
message_some (CarriesEntry entry) = omega arith
message_some (CarriesWant ticks) = omega arith
message_some (CarriesSnapshot snapshot) = omega arith
message_some (CarriesAsk id) = omega arith
message_some (CarriesGive give) = omega arith
