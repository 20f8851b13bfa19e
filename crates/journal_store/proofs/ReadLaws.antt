-- What is read on a side while a record is put on it, or while it is written anew.
use Rattle.std.specs.Prelude.{◌≡◌, ◌≢◌, ◌⊎◌, ℕ, suc, ◌+◌, ◌<◌, List, [], ◌∷◌, ◌++◌, length, take, drop, get_or, slice_get, Option, Some, None}
use Rattle.std.proofs.Common.{refl, sym, ◌∙◌, ap, subst, inl, inr, arith, append_assoc}
use Rattle.std.proofs.lemmas.Bool.Decides.{eqb_tells}
use Rattle.std.proofs.lemmas.List.{take-append-drop, take_at, length-append, length-drop, drop_more}
use Rattle.mld_io.specs.Disk.{Call, Log, Sides, bytes_of, other_side, written, seen}
use Rattle.mld_io.proofs.DiskLaws.{bytes_of-with_bytes, bytes_of-with_bytes_other}
use Rattle.mld_io.specs.declared.banks.Side.{Side}
use Rattle.journal_sides.specs.Format.{open_gate, closed_gate}
use Rattle.journal_sides.specs.RecordBytes.{RecordValue, record_bytes}
use Rattle.journal_sides.specs.SideReadings.{IsClosed, IsOpen, Volume, volume_bytes, read_side}
use Rattle.journal_sides.specs.StoredVolumes.{EndsAt, IsVolume}
use Rattle.journal_sides.specs.WrittenRecords.{with_record}
use Rattle.journal_sides.proofs.SideTrips.{side_back}
use Rattle.journal_sides.proofs.WrittenLaws.{volume_bytes_more}
use Rattle.mld_io.specs.Arm.{Arm}
use Rattle.journal_store.specs.Device.{KeepsGate, HasBehind, IsAppending, appended, HasBytes, IsFilling, filled}
use Rattle.journal_store.specs.WrittenSides.{HasVolume, IsAppendingTo, IsWritingTo}
use Rattle.journal_store.proofs.DeviceLaws.{behind_written, front_written, front_without_gate}

-- a side whose first gate isn't open is closed
pub closed_reads : (bytes : List ℕ) → slice_get bytes 0 ≢ Some 1 → read_side bytes ≡ IsClosed
unfolding read_side
closed_reads [] shut = refl
closed_reads (gate ∷ bytes) shut = elim (eqb_tells gate open_gate) [
  | inl t ↦ absurd (shut (ap Some t.1))
  | inr t ↦ rw t.0
]

-- a side that ends at a place is read as its volume
pub ends_reads : (volume : Volume) (stop : ℕ) (bytes : List ℕ) → IsVolume volume → EndsAt volume stop bytes → read_side bytes ≡ IsOpen volume
ends_reads volume stop bytes is ends = ap read_side ends.bytes_are ∙ side_back volume ends.gate ends.junk is ends.shut

-- what stands up to the gate
pub ends_front : (volume : Volume) (stop : ℕ) (bytes : List ℕ) → EndsAt volume stop bytes → take stop bytes ≡ volume_bytes volume
ends_front volume stop bytes ends = ap (take stop) ends.bytes_are ∙ take_at (volume_bytes volume) (ends.gate ∷ ends.junk) stop (sym ends.stop_is)

-- and with the gate
ends_gate : (volume : Volume) (stop : ℕ) (bytes : List ℕ) (ends : EndsAt volume stop bytes) → take (stop + 1) bytes ≡ volume_bytes volume ++ ends.gate ∷ []
ends_gate volume stop bytes ends =
    let long : length (volume_bytes volume ++ ends.gate ∷ []) ≡ stop + 1 = omega (arith, length-append (volume_bytes volume) (ends.gate ∷ []), ends.stop_is) in
    ap (take (stop + 1)) (ends.bytes_are ∙ sym (append_assoc (volume_bytes volume) (ends.gate ∷ []) ends.junk)) ∙ take_at (volume_bytes volume ++ ends.gate ∷ []) ends.junk (stop + 1) long

-- the gate is within the side
pub ends_within : (volume : Volume) (stop : ℕ) (bytes : List ℕ) → EndsAt volume stop bytes → stop < length bytes
ends_within volume stop bytes ends = omega (arith, ap length ends.bytes_are, length-append (volume_bytes volume) (ends.gate ∷ ends.junk), ends.stop_is)

-- a side that has the same bytes up to the gate and with it is read alike
pub kept_reads : (volume : Volume) (stop : ℕ) (old now : List ℕ) → IsVolume volume → EndsAt volume stop old → KeepsGate stop old now → read_side now ≡ IsOpen volume
kept_reads volume stop old now is ends kept =
    let whole : now ≡ volume_bytes volume ++ (ends.gate ∷ drop (stop + 1) now) =
    sym (take-append-drop (stop + 1) now) ∙ ap (λ (l : List ℕ). l ++ drop (stop + 1) now) (kept ∙ ends_gate volume stop old ends) ∙ append_assoc (volume_bytes volume) (ends.gate ∷ []) (drop (stop + 1) now) in
    ap read_side whole ∙ side_back volume ends.gate (drop (stop + 1) now) is ends.shut

-- bytes of a volume with a record behind an open gate
more_bytes : (volume : Volume) (next : RecordValue) (body rest : List ℕ) → body ≡ record_bytes next ++ closed_gate ∷ [] → volume_bytes volume ++ (open_gate ∷ (body ++ rest)) ≡ volume_bytes (with_record next volume) ++ closed_gate ∷ rest
more_bytes volume next body rest is =
    ap (λ (l : List ℕ). volume_bytes volume ++ (open_gate ∷ (l ++ rest))) is
    ∙ ap (λ (l : List ℕ). volume_bytes volume ++ (open_gate ∷ l)) (append_assoc (record_bytes next) (closed_gate ∷ []) rest)
    ∙ sym (append_assoc (volume_bytes volume) (open_gate ∷ record_bytes next) (closed_gate ∷ rest))
    ∙ ap (λ (l : List ℕ). l ++ closed_gate ∷ rest) (sym (volume_bytes_more volume next))

-- zero is no open gate
closed_is_shut : closed_gate ≢ open_gate
closed_is_shut e = absurd (omega arith)

-- a side with a body behind the gate is read as before, or, where the gate is open, with the record
pub behind_reads : (volume : Volume) (next : RecordValue) (stop : ℕ) (body old now : List ℕ) → IsVolume volume → IsVolume (with_record next volume) → EndsAt volume stop old
    → body ≡ record_bytes next ++ closed_gate ∷ [] → HasBehind stop body old now
    → (read_side now ≡ IsOpen volume) ⊎ (read_side now ≡ IsOpen (with_record next volume))
behind_reads volume next stop body old now is more ends body_is has =
    let rest = drop (stop + 1 + length body) old in
    let some : 0 < length body = omega (arith, ap length body_is, length-append (record_bytes next) (closed_gate ∷ [])) in
    let behind : length (drop (stop + 1) now) ≡ length body + length rest = ap length has.behind ∙ length-append body rest in
    let long : stop < length now = omega (arith, length-drop (stop + 1) now) in
    let gate = get_or now stop 0 in
    let whole : now ≡ volume_bytes volume ++ (gate ∷ (body ++ rest)) =
    sym (take-append-drop stop now) ∙ (λ i. (has.front ∙ ends_front volume stop old ends) i ++ drop_more now stop 0 long i) ∙ ap (λ (l : List ℕ). volume_bytes volume ++ (gate ∷ l)) has.behind in
    elim (eqb_tells gate open_gate) [
      | inl t ↦ inr (ap read_side (whole ∙ ap (λ (g : ℕ). volume_bytes volume ++ (g ∷ (body ++ rest))) t.1 ∙ more_bytes volume next body rest body_is) ∙ side_back (with_record next volume) closed_gate rest more closed_is_shut)
      | inr t ↦ inl (ap read_side whole ∙ side_back volume gate (body ++ rest) is t.1)
    ]

-- once the gate is open the side ends behind the record
pub appended_ends : (volume : Volume) (next : RecordValue) (stop : ℕ) (body bytes : List ℕ) → EndsAt volume stop bytes → body ≡ record_bytes next ++ closed_gate ∷ [] → EndsAt (with_record next volume) (stop + length body) (appended stop body bytes)
appended_ends volume next stop body bytes ends body_is =
    let rest = drop (stop + 1 + length body) bytes in
    let within = ends_within volume stop bytes ends in
    let mid = written (stop + 1) body bytes in
    let front : take stop mid ≡ volume_bytes volume = front_without_gate stop bytes mid (front_written stop body bytes within) ∙ ends_front volume stop bytes ends in
    let behind : drop (stop + 1) mid ≡ body ++ rest = behind_written stop body bytes within in
    let long = length-append (record_bytes next) (closed_gate ∷ []) in
    let more : length (volume_bytes (with_record next volume)) ≡ length (volume_bytes volume) + suc (length (record_bytes next)) = ap length (volume_bytes_more volume next) ∙ length-append (volume_bytes volume) (open_gate ∷ record_bytes next) in
    record {
      gate = closed_gate;
      shut = closed_is_shut;
      junk = rest;
      bytes_are = (λ i. (front i ++ open_gate ∷ []) ++ behind i) ∙ append_assoc (volume_bytes volume) (open_gate ∷ []) (body ++ rest) ∙ more_bytes volume next body rest body_is;
      stop_is = omega (arith, ends.stop_is, ap length body_is);
    }

-- a side that was written anew ends behind its records
pub filled_ends : (volume : Volume) (body bytes : List ℕ) → open_gate ∷ body ≡ volume_bytes volume ++ closed_gate ∷ [] → EndsAt volume (length body) (filled body bytes)
filled_ends volume body bytes is =
    let rest = drop (1 + length body) bytes in
    record {
      gate = closed_gate;
      shut = closed_is_shut;
      junk = rest;
      bytes_are = ap (λ (l : List ℕ). l ++ rest) is ∙ append_assoc (volume_bytes volume) (closed_gate ∷ []) rest;
      stop_is = omega (arith, ap length is, length-append (volume_bytes volume) (closed_gate ∷ []));
    }

-- a side that has the body behind its first gate is closed, or is read as what was written
pub filled_reads : (volume : Volume) (body rest now : List ℕ) → IsVolume volume → open_gate ∷ body ≡ volume_bytes volume ++ closed_gate ∷ [] → drop 1 now ≡ body ++ rest
    → (read_side now ≡ IsClosed) ⊎ (read_side now ≡ IsOpen volume)
filled_reads volume body rest [] is body_is behind = inl (closed_reads [] none) where
  none : ◌≡◌ {A = Option ℕ} None (Some 1) → ⊥
  none e = cc
filled_reads volume body rest (gate ∷ now) is body_is behind = elim (eqb_tells gate open_gate) [
  | inl t ↦
      inr (ap read_side ((λ i. t.1 i ∷ behind i) ∙ ap (λ (l : List ℕ). l ++ rest) body_is ∙ append_assoc (volume_bytes volume) (closed_gate ∷ []) rest) ∙ side_back volume closed_gate rest is closed_is_shut)
  | inr t ↦ inl (closed_reads (gate ∷ now) (λ e. t.1 (cc (e))))
]

-- ---- the moments

-- the moments of an append, as what is read
pub appending_reads : (arm : Arm) (side : Side) (volume : Volume) (next : RecordValue) (stop : ℕ) (body : List ℕ) (old : Sides) (calls : List Call) (image : Sides) → IsVolume volume → IsVolume (with_record next volume)
    → EndsAt volume stop (bytes_of side old) → body ≡ record_bytes next ++ closed_gate ∷ [] → IsAppending arm side stop body old calls image → IsAppendingTo arm side stop volume next old calls image
appending_reads arm side volume next stop body old calls image is more ends body_is at = record {
  other = at.other;
  reads = elim (at.side_is) [
    | inl kept ↦ inl (kept_reads volume stop (bytes_of side old) (bytes_of side image) is ends kept)
    | inr h ↦
        elim (behind_reads volume next stop body (bytes_of side old) (bytes_of side image) is more ends body_is h.1) [ inl before ↦ inl before | inr after ↦ inr (h.0, after) ]
  ];
}

-- the moments of a side that is written anew, as what is read
pub filling_reads : (arm : Arm) (side : Side) (volume : Volume) (body : List ℕ) (old : Sides) (calls : List Call) (image : Sides) → IsVolume volume → open_gate ∷ body ≡ volume_bytes volume ++ closed_gate ∷ []
    → IsFilling arm side body old calls image → IsWritingTo arm side volume old calls image
filling_reads arm side volume body old calls image is body_is at = record {
  other = at.other;
  reads = elim (at.side_is) [
    | inl same ↦ inl same
    | inr (inl shut) ↦ inr (inl (closed_reads (bytes_of side image) shut))
    | inr (inr h) ↦
        elim (filled_reads volume body (drop (1 + length body) (bytes_of side old)) (bytes_of side image) is body_is h.1) [ inl closed ↦ inr (inl closed) | inr opened ↦ inr (inr (h.0, opened)) ]
  ];
}

-- the side once its bytes are known
pub volume_from_bytes : (side : Side) (volume : Volume) (stop : ℕ) (bytes : List ℕ) (log : Log) (now : Option Log) → HasBytes side bytes log now → EndsAt volume stop bytes → HasVolume side volume stop log now
volume_from_bytes side volume stop bytes log now has ends = record {
  log = has.log;
  now_is = has.now_is;
  settled = has.settled;
  other = ap (bytes_of (other_side side)) has.seen_is ∙ bytes_of-with_bytes_other side bytes (seen log);
  ends = subst (λ (l : List ℕ). EndsAt volume stop l) (sym (ap (bytes_of side) has.seen_is ∙ bytes_of-with_bytes side bytes (seen log))) ends;
}
