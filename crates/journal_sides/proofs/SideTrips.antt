-- What is written on a side is read as its volume, and what is read was written so.
use Rattle.std.proofs.Common.{◌≡◌, ◌≢◌, ℕ, suc, ◌+◌, ◌<◌, ◌≤◌, List, [], ◌∷◌, ◌++◌, length, refl, sym, ap, ◌∙◌, subst, inl, inr, append_assoc, arith}
use Rattle.std.proofs.lemmas.Bool.Decides.{eqb_tells}
use Rattle.std.proofs.lemmas.List.{length-append}
use Rattle.op_codec.specs.CodecLaws.{AreBytes}
use Rattle.op_codec.specs.Reading.{Reading, Found, Fault, chain}
use Rattle.op_codec.proofs.Sequences.{splits, bytes_left, same_parts}
use Rattle.journal_sides.specs.Format.{open_gate}
use Rattle.journal_sides.specs.Heads.{Opening, head_bytes, read_head}
use Rattle.journal_sides.specs.RecordBytes.{RecordValue, record_bytes, blocks, read_records}
use Rattle.journal_sides.specs.SideReadings.{IsClosed, IsOpen, Volume, side_of, volume_bytes, read_volume, read_side}
use Rattle.journal_sides.specs.StoredVolumes.{EndsAt, IsWrittenSide, IsVolume, AreStoredRecords}
use Rattle.journal_sides.proofs.HeadTrips.{head_back, head_one}
use Rattle.journal_sides.proofs.RecordTrips.{records_back, records_one}

-- there are no more records than bytes
count_of_blocks : (records : List RecordValue) → length records ≤ length (blocks records)
count_of_blocks [] = omega arith
count_of_blocks (next ∷ records) =
    let h = count_of_blocks records in
    let e = length-append (record_bytes next) (blocks records) in
    omega arith

-- an open side is read back, whatever stands behind its closed gate
pub side_back : (volume : Volume) (gate : ℕ) (junk : List ℕ) → IsVolume volume → gate ≢ open_gate → read_side (volume_bytes volume ++ gate ∷ junk) ≡ IsOpen volume
unfolding volume_bytes read_volume read_side
side_back volume gate junk is shut =
    let front = head_bytes volume.opening in
    let behind : List ℕ = blocks volume.records ++ gate ∷ junk in
    let bytes : List ℕ = (front ++ blocks volume.records) ++ gate ∷ junk in
    let same : bytes ≡ front ++ behind = append_assoc front (blocks volume.records) (gate ∷ junk) in
    let few : length volume.records < suc (length bytes) =
    let c = count_of_blocks volume.records in
    let l = length-append front (blocks volume.records) in
    let k = length-append (front ++ blocks volume.records) (gate ∷ junk) in omega arith in
    let one : read_head 1 bytes ≡ Found volume.opening (1 + length front) behind = ap (read_head 1) same ∙ head_back volume.opening 1 behind is.opening in
    ap side_of (ap (λ (r : Reading Opening). chain r (λ opening next rest. chain (read_records (suc (length bytes)) opening.head [] next rest) (λ records end left. Found (record { opening = opening; records = records }) end left))) one
    ∙ ap (λ (r : Reading (List RecordValue)). chain r (λ records end left. Found (record { opening = volume.opening; records = records }) end left))
    (records_back volume.opening.head [] volume.records (suc (length bytes)) (1 + length front) gate junk is.records few shut))

-- what was read on a side
pub record WasVolume (bytes : List ℕ) (volume : Volume) (stop : ℕ) : Type 0 where
  pub stored : IsVolume volume
  pub ends : EndsAt volume stop bytes

-- what is read behind an open gate was written so
pub volume_one : (bytes : List ℕ) (volume : Volume) (stop : ℕ) (rest : List ℕ) → AreBytes bytes → read_volume 1 bytes ≡ Found volume stop rest → WasVolume (open_gate ∷ bytes) volume stop
unfolding volume_bytes read_volume
volume_one bytes volume stop rest b h =
    let s = splits (read_head 1 bytes) (λ opening next left. chain (read_records (suc (length bytes)) opening.head [] next left) (λ records end left. Found (record { opening = opening; records = records }) end left)) volume stop rest h in
    let w = head_one 1 bytes s.value s.place s.rest b s.first in
    let t = splits (read_records (suc (length bytes)) s.value.head [] s.place s.rest) (λ records end left. Found (record { opening = s.value; records = records }) end left) volume stop rest s.second in
    let v = records_one s.value.head (suc (length bytes)) [] s.place s.rest t.value t.place t.rest (bytes_left bytes (head_bytes s.value) s.rest b w.front) t.first in
    let read : Volume = record { opening = s.value; records = t.value } in
    let e = same_parts read volume t.place stop t.rest rest t.second in
    let long = length-append (head_bytes s.value) (blocks t.value) in
    let at = w.next_is in
    let all = v.all_are in
    let stop_at : t.place ≡ s.place + length (blocks t.value) = v.stop_is ∙ ap (λ (l : List RecordValue). s.place + length (blocks l)) (sym all) in
    let end = e.place_is in
    subst (λ (u : Volume). WasVolume (open_gate ∷ bytes) u stop) e.value (record {
      stored = record { opening = w.value_is; records = subst (λ (l : List RecordValue). AreStoredRecords s.value.head [] l) (sym all) v.stored };
      ends = record {
        gate = v.gate;
        shut = v.shut;
        junk = v.junk;
        bytes_are = ap (λ (l : List ℕ). open_gate ∷ l) (w.front ∙ ap (λ (l : List ℕ). head_bytes s.value ++ l) (v.front ∙ (λ i. blocks (sym all i) ++ v.rest_is i)) ∙ sym (append_assoc (head_bytes s.value) (blocks t.value) (v.gate ∷ v.junk)));
        stop_is = omega arith;
      };
    })

-- a side that is read as open was written so
pub side_one : (bytes : List ℕ) (volume : Volume) → AreBytes bytes → read_side bytes ≡ IsOpen volume → IsWrittenSide bytes volume
unfolding read_side
side_one [] volume b h = absurd (cc h)
side_one (gate ∷ bytes) volume b h =
    elim (eqb_tells gate open_gate) [
      | inr t ↦ absurd (closed_open (rw t.0 at h))
      | inl t ↦ subst (λ (g : ℕ). IsWrittenSide (g ∷ bytes) volume) (sym t.1) (by (read_volume 1 bytes) refl (rw t.0 at h))
    ]
  where
    closed_open : IsClosed ≡ IsOpen volume → ⊥
    closed_open e = cc

    by : (reading : Reading Volume) → read_volume 1 bytes ≡ reading → side_of reading ≡ IsOpen volume → IsWrittenSide (open_gate ∷ bytes) volume
    by (Fault place) e k = absurd (cc k)
    by (Found found stop rest) e k =
        let same : found ≡ volume = cc k in
        let w = volume_one bytes found stop rest (λ n. b (suc n)) e in
        subst (IsWrittenSide (open_gate ∷ bytes)) same (record { stored = w.stored; stop = stop; ends = w.ends })
