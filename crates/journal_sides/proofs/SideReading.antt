-- How the program reads the bytes of a side.
use Rattle.std.proofs.Common.{◌≡◌, ℕ, suc, ◌+◌, ◌<◌, List, [], ◌∷◌, Err, length, drop, refl, sym, ap, ◌∙◌, subst, inl, inr, arith}
use Rattle.std.proofs.lemmas.Bool.Decides.{eqb_tells}
use Rattle.std.proofs.lemmas.List.{length-drop, get_or-drop}
use Rattle.mld_io.specs.declared.banks.Side.{Side}
use Rattle.mld_ops.specs.Entry.{EntryValue}
use Rattle.op_codec.specs.Agreement.{IsRead, IsRefused}
use Rattle.op_codec.specs.CodecLaws.{AreBytes}
use Rattle.op_codec.specs.Reading.{Reading, Found, chain}
use Rattle.op_codec.specs.declared.faults.CodecFault.{CodecFault}
use Rattle.op_codec.specs.declared.faults.CodecFault.TheVariants.{NotInGrammar, NoMemory}
use Rattle.op_codec.proofs.ListLaws.{refused_later, refused_same}
use Rattle.journal_sides.specs.RecordsRead.{FindsRecords}
use Rattle.journal_sides.specs.Format.{open_gate}
use Rattle.journal_sides.specs.FoundVolumes.{BeginsOpen, TellsVolume}
use Rattle.journal_sides.specs.Heads.{Opening, read_head}
use Rattle.journal_sides.specs.Pairs.{kept_on}
use Rattle.journal_sides.specs.RecordBytes.{RecordValue, read_records}
use Rattle.journal_sides.specs.SideReadings.{IsClosed, IsOpen, Volume, side_of, read_volume, read_side}
use Rattle.journal_sides.specs.StoredVolumes.{EndsAt, IsVolume}
use Rattle.journal_sides.proofs.HeadTrips.{head_one}
use Rattle.journal_sides.proofs.SideTrips.{volume_one}

-- bytes that don't begin with an open gate are a closed side
pub closed_side : (bytes : List ℕ) → ¬ BeginsOpen bytes → read_side bytes ≡ IsClosed
unfolding read_side
closed_side [] n = refl
closed_side (gate ∷ bytes) n = elim (eqb_tells gate open_gate) [
  | inl t ↦ absurd (n (bytes, ap (λ (g : ℕ). g ∷ bytes) t.1))
  | inr t ↦ rw t.0
]

-- what stands behind an open gate is the side
pub opened_side : (input : List ℕ) → BeginsOpen input → read_side input ≡ side_of (read_volume 1 (drop 1 input))
unfolding read_side
opened_side input begins = ap read_side begins.1 ∙ ap (λ (bytes : List ℕ). side_of (read_volume 1 (drop 1 bytes))) (sym begins.1)

module _ (input : List ℕ) (begins : BeginsOpen input) where
  -- a fault behind the gate is one of the side
  pub volume_refused : (side : Side) (fault : CodecFault) → IsRefused (read_volume 1 (drop 1 input)) fault → TellsVolume side input (Err fault)
  volume_refused side (NotInGrammar place) h = opened_side input begins ∙ ap side_of h
  volume_refused side NoMemory h = tt

  -- a head that can't be read
  pub head_refused : (fault : CodecFault) → IsRefused (read_head 1 (drop 1 input)) fault → IsRefused (read_volume 1 (drop 1 input)) fault
  unfolding read_volume
  head_refused fault h =
      refused_later (read_head 1 (drop 1 input)) (λ opening next rest. chain (read_records (suc (length (drop 1 input))) opening.head [] next rest) (λ records end left. Found (record { opening = opening; records = records }) end left)) fault h

  -- records that can't be read behind a head
  pub records_refused : (opening : Opening) (next : ℕ) (fault : CodecFault) → IsRead (read_head 1 (drop 1 input)) input opening next
      → IsRefused (read_records (suc (length (drop 1 input))) opening.head [] next (drop next input)) fault → IsRefused (read_volume 1 (drop 1 input)) fault
  unfolding read_volume
  records_refused opening next fault r h =
      refused_same
      (chain (read_head 1 (drop 1 input)) (λ opening next rest. chain (read_records (suc (length (drop 1 input))) opening.head [] next rest) (λ records end left. Found (record { opening = opening; records = records }) end left)))
      (chain (read_records (suc (length (drop 1 input))) opening.head [] next (drop next input)) (λ records end left. Found (record { opening = opening; records = records }) end left)) fault
      (ap (λ (x : Reading Opening). chain x (λ opening next rest. chain (read_records (suc (length (drop 1 input))) opening.head [] next rest) (λ records end left. Found (record { opening = opening; records = records }) end left))) r.found)
      (refused_later (read_records (suc (length (drop 1 input))) opening.head [] next (drop next input)) (λ records end left. Found (record { opening = opening; records = records }) end left) fault h)

  -- what stands behind the gate are bytes
  behind_bytes : AreBytes input → AreBytes (drop 1 input)
  behind_bytes b k = rw (get_or-drop 1 input k 0) (b (1 + k))

  -- there are steps enough for the records
  pub steps_enough : (opening : Opening) (next : ℕ) → AreBytes input → IsRead (read_head 1 (drop 1 input)) input opening next → length input < next + suc (length (drop 1 input))
  steps_enough opening next b r =
      let w = head_one 1 (drop 1 input) opening next (drop next input) (behind_bytes b) r.found in
      let at = w.next_is in
      let less = length-drop 1 input in
      omega arith

  -- what was read of a side
  pub record HasVolume (side : Side) (opening : Opening) (path : List ℕ) (entries : List EntryValue) (stop : ℕ) : Type 0 where
    pub volume : Volume
    pub reads : read_side input ≡ IsOpen volume
    pub kept : kept_on side volume ≡ record { side = side; generation = opening.generation; head = record opening.head { path = path }; entries = entries }
    pub stored : IsVolume volume
    pub ends : EndsAt volume stop input

  -- a head and records make a volume
  pub volume_found : (side : Side) (opening : Opening) (next stop : ℕ) (entries : List EntryValue) (path : List ℕ) → AreBytes input → IsRead (read_head 1 (drop 1 input)) input opening next
      → FindsRecords opening.head (read_records (suc (length (drop 1 input))) opening.head [] next (drop next input)) input entries path stop → HasVolume side opening path entries stop
  unfolding read_volume
  volume_found side opening next stop entries path b r f =
      let volume : Volume = record { opening = opening; records = f.records } in
      let whole : read_volume 1 (drop 1 input) ≡ Found volume stop (drop stop input) =
      ap (λ (x : Reading Opening). chain x (λ opening next rest. chain (read_records (suc (length (drop 1 input))) opening.head [] next rest) (λ records end left. Found (record { opening = opening; records = records }) end left))) r.found
      ∙ ap (λ (x : Reading (List RecordValue)). chain x (λ records end left. Found (record { opening = opening; records = records }) end left)) f.reads.found in
      let w = volume_one (drop 1 input) volume stop (drop stop input) (behind_bytes b) whole in
      let same : open_gate ∷ drop 1 input ≡ input = ap (λ (bytes : List ℕ). open_gate ∷ drop 1 bytes) begins.1 ∙ sym begins.1 in
      let es = f.entries_are in
      let p = f.path_is in
      record {
        volume = volume;
        reads = opened_side input begins ∙ ap side_of whole;
        kept = λ i. record { side = side; generation = opening.generation; head = record opening.head { path = sym p i }; entries = sym es i };
        stored = w.stored;
        ends = subst (λ (bytes : List ℕ). EndsAt volume stop bytes) same w.ends;
      }
