-- What is written for messages is read as them, and what is read was written so.
use Rattle.std.proofs.Common.{◌≡◌, ℕ, ◌+◌, suc, List, [], ◌∷◌, ◌++◌, Some, length, refl, sym, ap, ◌∙◌, subst, inl, inr, arith}
use Rattle.std.proofs.lemmas.Bool.Decides.{eqb_tells}
use Rattle.std.specs.List.{AllByRecursion}
use Rattle.mld_ops.specs.Messages.{SnapshotValue, GiveValue, MessageValue, CarriesEntry, CarriesWant, CarriesSnapshot, CarriesAsk, CarriesGive, IsGoodSnapshot, IsGoodMessage}
use Rattle.mld_ops.specs.declared.tagged.Tagged.{Tagged}
use Rattle.tree_clock.specs.Clock.{Covers}
use Rattle.tree_clock.specs.Lists.{Has}
use Rattle.op_codec.specs.Clocks.{clock_bytes, read_clock}
use Rattle.op_codec.specs.Entries.{entry_bytes, read_entry}
use Rattle.op_codec.specs.CodecLaws.{AreBytes, IsReadBack, IsWritten, IsOneSpelling}
use Rattle.op_codec.specs.MessageBytes.{id_size, snapshot_bytes, read_snapshot, give_bytes, read_give, message_bytes, read_carried, read_message}
use Rattle.op_codec.specs.PairBytes.{pairs_bytes, read_pairs}
use Rattle.op_codec.specs.Paths.{path_bytes, read_path}
use Rattle.op_codec.specs.Reading.{Reading, Found, Fault, chain, read_piece}
use Rattle.op_codec.specs.Stored.{IsStoredClock, IsStoredEntry, IsSnapshot, IsId, IsGive, IsMessage}
use Rattle.op_codec.proofs.EntryLaws.{dot_of_clock}
use Rattle.op_codec.proofs.EntryTrips.{entry_back, entry_one}
use Rattle.op_codec.proofs.FieldLaws.{piece_takes}
use Rattle.op_codec.proofs.FieldTrips.{piece_was}
use Rattle.op_codec.proofs.PairTrips.{AreCovered, clock_back, clock_one, pairs_back, pairs_one}
use Rattle.op_codec.proofs.PathTrips.{path_back, path_one}
use Rattle.op_codec.proofs.Sequences.{then_back, map_back, Splits, splits, bytes_left, same_parts, fault_found, both_written}

-- ---- snapshots

-- pairs that a clock covers pass its test
covered_test : (ticks : List (List ℕ × ℕ)) (pairs : List Tagged) → AllByRecursion (λ (pair : Tagged). Covers ticks pair.dot) pairs → AreCovered (Some ticks) pairs
covered_test ticks [] a = tt
covered_test ticks (pair ∷ pairs) a = ((dot_of_clock ticks pair.dot).1 a.0, covered_test ticks pairs a.1)

-- pairs that pass the test of a clock are covered
test_covered : (ticks : List (List ℕ × ℕ)) (pairs : List Tagged) → AreCovered (Some ticks) pairs → AllByRecursion (λ (pair : Tagged). Covers ticks pair.dot) pairs
test_covered ticks [] a = tt
test_covered ticks (pair ∷ pairs) a = ((dot_of_clock ticks pair.dot).0 a.0, test_covered ticks pairs a.1)

-- the snapshot of these parts
abbrev snapshot_of : List (List ℕ × ℕ) → List Tagged → SnapshotValue
snapshot_of ticks pairs = record { ticks = ticks; pairs = pairs }

-- what is read behind the clock of a snapshot
abbrev behind_clock : List (List ℕ × ℕ) → ℕ → List ℕ → Reading SnapshotValue
behind_clock ticks at rest = chain (read_pairs (Some ticks) at rest) (λ pairs end left. Found (snapshot_of ticks pairs) end left)

-- a snapshot is read back
pub snapshot_back : IsReadBack IsSnapshot snapshot_bytes read_snapshot
unfolding read_snapshot
snapshot_back snapshot place rest is =
    let middle = place + length (clock_bytes snapshot.ticks) in
    then_back read_clock behind_clock place (clock_bytes snapshot.ticks) (pairs_bytes snapshot.pairs) rest snapshot.ticks snapshot
    (clock_back snapshot.ticks place (pairs_bytes snapshot.pairs ++ rest) is.ticks)
    (map_back (read_pairs (Some snapshot.ticks) middle (pairs_bytes snapshot.pairs ++ rest)) (snapshot_of snapshot.ticks) snapshot.pairs (middle + length (pairs_bytes snapshot.pairs)) rest
    (pairs_back (Some snapshot.ticks) snapshot.pairs middle rest is.pairs (covered_test snapshot.ticks snapshot.pairs is.covered)))

-- a snapshot was written so
pub snapshot_one : IsOneSpelling IsSnapshot snapshot_bytes read_snapshot
unfolding read_snapshot
snapshot_one place bytes snapshot next rest b h = by (splits (read_clock place bytes) behind_clock snapshot next rest h)
  where
    by : Splits (read_clock place bytes) behind_clock snapshot next rest → IsWritten IsSnapshot snapshot_bytes place bytes snapshot next rest
    by s =
        let w = clock_one place bytes s.value s.place s.rest b s.first in
        let t = splits (read_pairs (Some s.value) s.place s.rest) (λ pairs end left. Found (snapshot_of s.value pairs) end left) snapshot next rest s.second in
        let v = pairs_one (Some s.value) s.place s.rest t.value t.place t.rest (bytes_left bytes (clock_bytes s.value) s.rest b w.front) t.first in
        let e = same_parts (snapshot_of s.value t.value) snapshot t.place next t.rest rest t.second in
        let l = e.rest_is in
        let both = both_written (clock_bytes s.value) (pairs_bytes t.value) place s.place t.place bytes s.rest t.rest w.front w.next_is v.0.front v.0.next_is in
        subst (λ (n : SnapshotValue). IsWritten IsSnapshot snapshot_bytes place bytes n next rest) e.value (record {
          value_is = record { ticks = w.value_is; pairs = v.0.value_is; covered = test_covered s.value t.value v.1 };
          front = both.front ∙ ap (λ (m : List ℕ). (clock_bytes s.value ++ pairs_bytes t.value) ++ m) l;
          next_is = sym e.place_is ∙ both.next_is;
        })

-- ---- ids, and leaves that are given

-- an id is read back
id_back : (id : List ℕ) (place : ℕ) (rest : List ℕ) → IsId id → read_piece id_size place (id ++ rest) ≡ Found id (place + length id) rest
id_back id place rest is = piece_takes id_size place id rest is ∙ ap (λ (n : ℕ). Found id (place + n) rest) (sym is)

-- the leaf of these parts
abbrev give_of : List ℕ → List ℕ → SnapshotValue → GiveValue
give_of id path snapshot = record { id = id; path = path; snapshot = snapshot }

-- what is read behind the path of a leaf that is given
abbrev behind_path : List ℕ → List ℕ → ℕ → List ℕ → Reading GiveValue
behind_path id path at rest = chain (read_snapshot at rest) (λ snapshot end left. Found (give_of id path snapshot) end left)

-- what is read behind its id
abbrev behind_id : List ℕ → ℕ → List ℕ → Reading GiveValue
behind_id id at rest = chain (read_path at rest) (λ path end left. behind_path id path end left)

-- a leaf that is given is read back
give_back : IsReadBack IsGive give_bytes read_give
unfolding read_give
give_back give place rest is =
    let first = place + length give.id in
    let second = first + length (path_bytes give.path) in
    then_back (read_piece id_size) behind_id place give.id (path_bytes give.path ++ snapshot_bytes give.snapshot) rest give.id give
    (id_back give.id place ((path_bytes give.path ++ snapshot_bytes give.snapshot) ++ rest) is.id)
    (then_back read_path (behind_path give.id) first (path_bytes give.path) (snapshot_bytes give.snapshot) rest give.path give
    (path_back give.path first (snapshot_bytes give.snapshot ++ rest) is.path)
    (map_back (read_snapshot second (snapshot_bytes give.snapshot ++ rest)) (give_of give.id give.path) give.snapshot (second + length (snapshot_bytes give.snapshot)) rest
    (snapshot_back give.snapshot second rest is.snapshot)))

-- a leaf that is given was written so
give_one : IsOneSpelling IsGive give_bytes read_give
unfolding read_give
give_one place bytes give next rest b h = by (splits (read_piece id_size place bytes) behind_id give next rest h)
  where
    by : Splits (read_piece id_size place bytes) behind_id give next rest → IsWritten IsGive give_bytes place bytes give next rest
    by s =
        let w = piece_was id_size place bytes s.value s.place s.rest s.first in
        let place_is : s.place ≡ place + length s.value = w.2 ∙ ap (λ (n : ℕ). place + n) (sym w.0) in
        let b2 = bytes_left bytes s.value s.rest b w.1 in
        let t = splits (read_path s.place s.rest) (behind_path s.value) give next rest s.second in
        let v = path_one s.place s.rest t.value t.place t.rest b2 t.first in
        let b3 = bytes_left s.rest (path_bytes t.value) t.rest b2 v.front in
        let u = splits (read_snapshot t.place t.rest) (λ snapshot end left. Found (give_of s.value t.value snapshot) end left) give next rest t.second in
        let x = snapshot_one t.place t.rest u.value u.place u.rest b3 u.first in
        let e = same_parts (give_of s.value t.value u.value) give u.place next u.rest rest u.second in
        let l = e.rest_is in
        let last = both_written (path_bytes t.value) (snapshot_bytes u.value) s.place t.place u.place s.rest t.rest u.rest v.front v.next_is x.front x.next_is in
        let both = both_written s.value (path_bytes t.value ++ snapshot_bytes u.value) place s.place u.place bytes s.rest u.rest w.1 place_is last.front last.next_is in
        subst (λ (g : GiveValue). IsWritten IsGive give_bytes place bytes g next rest) e.value (record {
          value_is = record { id = w.0; path = v.value_is; snapshot = x.value_is };
          front = both.front ∙ ap (λ (m : List ℕ). (s.value ++ (path_bytes t.value ++ snapshot_bytes u.value)) ++ m) l;
          next_is = sym e.place_is ∙ both.next_is;
        })

-- ---- messages

-- the place behind a kind
behind_kind : {X : Type 0} (place size : ℕ) (message : X) (rest : List ℕ) → Found message (place + 1 + size) rest ≡ Found message (place + suc size) rest
behind_kind place size message rest = let e : place + 1 + size ≡ place + suc size = omega arith in ap (λ (n : ℕ). Found message n rest) e

-- a message is read back
pub message_back : IsReadBack IsMessage message_bytes read_message
unfolding message_bytes read_message read_carried
message_back (CarriesEntry entry) place rest is =
    map_back (read_entry (place + 1) (entry_bytes entry ++ rest)) CarriesEntry entry (place + 1 + length (entry_bytes entry)) rest (entry_back entry (place + 1) rest is)
    ∙ behind_kind place (length (entry_bytes entry)) (CarriesEntry entry) rest
message_back (CarriesWant ticks) place rest is =
    map_back (read_clock (place + 1) (clock_bytes ticks ++ rest)) CarriesWant ticks (place + 1 + length (clock_bytes ticks)) rest (clock_back ticks (place + 1) rest is)
    ∙ behind_kind place (length (clock_bytes ticks)) (CarriesWant ticks) rest
message_back (CarriesSnapshot snapshot) place rest is =
    map_back (read_snapshot (place + 1) (snapshot_bytes snapshot ++ rest)) CarriesSnapshot snapshot (place + 1 + length (snapshot_bytes snapshot)) rest (snapshot_back snapshot (place + 1) rest is)
    ∙ behind_kind place (length (snapshot_bytes snapshot)) (CarriesSnapshot snapshot) rest
message_back (CarriesAsk id) place rest is =
    map_back (read_piece id_size (place + 1) (id ++ rest)) CarriesAsk id (place + 1 + length id) rest (id_back id (place + 1) rest is)
    ∙ behind_kind place (length id) (CarriesAsk id) rest
message_back (CarriesGive give) place rest is =
    map_back (read_give (place + 1) (give_bytes give ++ rest)) CarriesGive give (place + 1 + length (give_bytes give)) rest (give_back give (place + 1) rest is)
    ∙ behind_kind place (length (give_bytes give)) (CarriesGive give) rest

-- what a kind carries was written so
carried_one : {X : Type 0} (IsValue : X → Type 0) (bytes_of : X → List ℕ) (read : ℕ → List ℕ → Reading X) → IsOneSpelling IsValue bytes_of read
    → (carries : X → MessageValue) (kind place : ℕ) (bytes : List ℕ) (message : MessageValue) (next : ℕ) (rest : List ℕ) → AreBytes bytes
    → ((value : X) → message_bytes (carries value) ≡ kind ∷ bytes_of value) → ((value : X) → IsValue value → IsMessage (carries value))
    → chain (read (place + 1) bytes) (λ value end left. Found (carries value) end left) ≡ Found message next rest → IsWritten IsMessage message_bytes place (kind ∷ bytes) message next rest
carried_one IsValue bytes_of read one carries kind place bytes message next rest b spells is h =
    by (splits (read (place + 1) bytes) (λ value end left. Found (carries value) end left) message next rest h)
  where
    by : Splits (read (place + 1) bytes) (λ value end left. Found (carries value) end left) message next rest → IsWritten IsMessage message_bytes place (kind ∷ bytes) message next rest
    by s =
        let w = one (place + 1) bytes s.value s.place s.rest b s.first in
        let e = same_parts (carries s.value) message s.place next s.rest rest s.second in
        let l = e.rest_is in
        let spelled = spells s.value in
        let place_is = w.next_is in
        let long : length (message_bytes (carries s.value)) ≡ suc (length (bytes_of s.value)) = ap length spelled in
        let at = e.place_is in
        subst (λ (m : MessageValue). IsWritten IsMessage message_bytes place (kind ∷ bytes) m next rest) e.value (record {
          value_is = is s.value w.value_is;
          front = ap (λ (m : List ℕ). kind ∷ m) (w.front ∙ ap (λ (m : List ℕ). bytes_of s.value ++ m) l) ∙ ap (λ (m : List ℕ). m ++ rest) (sym spelled);
          next_is = omega arith;
        })

-- an id was written so
id_one : IsOneSpelling IsId (λ (id : List ℕ). id) (read_piece id_size)
id_one place bytes id next rest b h =
    let w = piece_was id_size place bytes id next rest h in
    record { value_is = w.0; front = w.1; next_is = w.2 ∙ ap (λ (n : ℕ). place + n) (sym w.0) }

-- what stands behind a kind was written so
kind_one : (place kind : ℕ) (bytes : List ℕ) (message : MessageValue) (next : ℕ) (rest : List ℕ) → AreBytes bytes → read_carried place kind (place + 1) bytes ≡ Found message next rest
    → IsWritten IsMessage message_bytes place (kind ∷ bytes) message next rest
unfolding message_bytes read_carried
kind_one place kind bytes message next rest b h =
    elim (eqb_tells kind 1) [
      | inl t ↦ as_kind kind 1 t.1 (carried_one IsStoredEntry entry_bytes read_entry entry_one CarriesEntry 1 place bytes message next rest b (λ v. refl) (λ v i. i) (rw t.0 at h))
      | inr t ↦ elim (eqb_tells kind 2) [
        | inl u ↦ as_kind kind 2 u.1 (carried_one IsStoredClock clock_bytes read_clock clock_one CarriesWant 2 place bytes message next rest b (λ v. refl) (λ v i. i) (rw (t.0, u.0) at h))
        | inr u ↦ elim (eqb_tells kind 3) [
          | inl v ↦ as_kind kind 3 v.1 (carried_one IsSnapshot snapshot_bytes read_snapshot snapshot_one CarriesSnapshot 3 place bytes message next rest b (λ v. refl) (λ v i. i) (rw (t.0, u.0, v.0) at h))
          | inr v ↦ elim (eqb_tells kind 4) [
            | inl w ↦ as_kind kind 4 w.1 (carried_one IsId (λ (id : List ℕ). id) (read_piece id_size) id_one CarriesAsk 4 place bytes message next rest b (λ v. refl) (λ v i. i) (rw (t.0, u.0, v.0, w.0) at h))
            | inr w ↦ elim (eqb_tells kind 5) [
              | inl x ↦ as_kind kind 5 x.1 (carried_one IsGive give_bytes read_give give_one CarriesGive 5 place bytes message next rest b (λ v. refl) (λ v i. i) (rw (t.0, u.0, v.0, w.0, x.0) at h))
              | inr x ↦ fault_found (Fault place) place next message rest refl (rw (t.0, u.0, v.0, w.0, x.0) at h)
            ]
          ]
        ]
      ]
    ]
  where
    as_kind : (kind is : ℕ) → kind ≡ is → IsWritten IsMessage message_bytes place (is ∷ bytes) message next rest → IsWritten IsMessage message_bytes place (kind ∷ bytes) message next rest
    as_kind kind is e w = subst (λ (k : ℕ). IsWritten IsMessage message_bytes place (k ∷ bytes) message next rest) (sym e) w

-- a message was written so
pub message_one : IsOneSpelling IsMessage message_bytes read_message
unfolding read_message
message_one place [] message next rest b h = fault_found (Fault place) place next message rest refl h
message_one place (kind ∷ bytes) message next rest b h = kind_one place kind bytes message next rest (λ k. b (suc k)) h

-- ---- snapshots that may be taken

-- what holds of each holds of a member
of_member : {X : Type 0} (P : X → Type 0) (xs : List X) (x : X) → AllByRecursion P xs → Has xs x → P x
of_member P [] x a h = absurd h
of_member P (y ∷ ys) x a (inl e) = subst P e a.0
of_member P (y ∷ ys) x a (inr h) = of_member P ys x a.1 h

-- a snapshot of the grammar may be taken
good_snapshot : (snapshot : SnapshotValue) → IsSnapshot snapshot → IsGoodSnapshot snapshot
good_snapshot snapshot is = record {
  ascending = is.pairs.ascending;
  covered = λ pair h. of_member (λ (pair : Tagged). Covers snapshot.ticks pair.dot) snapshot.pairs pair is.covered h;
}

-- the snapshot of a message of the grammar may be taken
pub good_message : (message : MessageValue) → IsMessage message → IsGoodMessage message
good_message (CarriesEntry entry) is = tt
good_message (CarriesWant ticks) is = tt
good_message (CarriesSnapshot snapshot) is = good_snapshot snapshot is
good_message (CarriesAsk id) is = tt
good_message (CarriesGive give) is = good_snapshot give.snapshot is.snapshot
