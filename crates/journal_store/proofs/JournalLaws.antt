-- What a journal keeps, before, at each moment of, and after a call that writes.
use Rattle.std.specs.Prelude.{◌≡◌, ℕ, ◌+◌, ◌<◌, ◌^◌, ◌==◌, nat_le, Bool, true, false, cond, List, Option, Some, None}
use Rattle.std.proofs.Common.{refl, sym, ◌∙◌, ap, subst, inl, inr, arith}
use Rattle.std.proofs.lemmas.Bool.Decides.{eqb_tells, leb_tells}
use Rattle.mld_io.specs.Arm.{Arm}
use Rattle.mld_io.specs.Disk.{Call, Log, Sides, bytes_of, other_side, seen, IsSettled, LeavesMeanwhile}
use Rattle.mld_io.proofs.DiskLaws.{sides_from_bytes}
use Rattle.mld_io.specs.declared.banks.Side.{Side}
use Rattle.mld_io.specs.declared.banks.Side.TheVariants.{A, B}
use Rattle.mld_ops.specs.Entry.{EntryValue}
use Rattle.journal_sides.specs.Heads.{HeadValue}
use Rattle.journal_sides.specs.Pairs.{Kept, PairReading, KeepsNone, Keeps, Damages, kept_on, greater_of, pair_of, read_banks, with_entry, with_fork}
use Rattle.journal_sides.specs.RecordBytes.{RecordValue, EntryRecord, ForkRecord}
use Rattle.journal_sides.specs.SideReadings.{SideReading, IsClosed, IsOpen, IsDamaged, Volume, read_side}
use Rattle.journal_sides.specs.StoredVolumes.{EndsAt, IsVolume, IsStoredRecord}
use Rattle.journal_sides.specs.WrittenRecords.{volume_of, with_record}
use Rattle.journal_sides.proofs.RecordReading.{entries_more, path_more, entries_forked, path_forked}
use Rattle.journal_sides.proofs.WrittenLaws.{volume_more, entries_of-records, path_after-records}
use Rattle.journal_store.specs.declared.faults.Why.{Why}
use Rattle.journal_store.specs.Calls.{KeptBy, swapped}
use Rattle.journal_store.specs.Crashes.{Gate, ReadsEither, LeavesEither, IsIssued, append_gate, first_gate, place_behind, gate_behind}
use Rattle.journal_store.specs.Standing.{IsBehind, Stands, IsJournal, KeepsNothing, IsBlankLog, KeepsNow}
use Rattle.journal_store.specs.WrittenSides.{HasVolume, IsAppendingTo, IsWritingTo}
use Rattle.journal_store.proofs.DeviceLaws.{weaken_moments, no_moments}
use Rattle.journal_store.proofs.ReadLaws.{ends_reads}

-- ---- pairs

-- two open sides of which the first has the greater generation, and the other way round
greater_first : (a b : Volume) → b.opening.generation < a.opening.generation → greater_of a b ≡ Keeps (kept_on A a)
greater_first a b less = elim (eqb_tells a.opening.generation b.opening.generation) [
  | inl t ↦ absurd (omega (arith, t.1))
  | inr t ↦ rw t.0 (elim (leb_tells a.opening.generation b.opening.generation) [ inl u ↦ absurd (omega (arith, u.1)) | inr u ↦ rw u.0 ])
]

greater_second : (a b : Volume) → a.opening.generation < b.opening.generation → greater_of a b ≡ Keeps (kept_on B b)
greater_second a b less = elim (eqb_tells a.opening.generation b.opening.generation) [
  | inl t ↦ absurd (omega (arith, t.1))
  | inr t ↦ rw t.0 (elim (leb_tells a.opening.generation b.opening.generation) [ inl u ↦ rw u.0 | inr u ↦ absurd (omega (arith, u.1)) ])
]

-- a side counts beside one that is behind it
pub pair_reads : (side : Side) (volume : Volume) (sides : Sides) → read_side (bytes_of side sides) ≡ IsOpen volume → IsBehind volume.opening.generation (read_side (bytes_of (other_side side) sides))
    → read_banks sides ≡ Keeps (kept_on side volume)
unfolding read_banks
pair_reads A volume sides e behind = ap (λ (r : SideReading). pair_of r (read_side sides.b)) e ∙ by (read_side sides.b) behind where
  by : (reading : SideReading) → IsBehind volume.opening.generation reading → pair_of (IsOpen volume) reading ≡ Keeps (kept_on A volume)
  by IsClosed b = refl
  by (IsOpen other) b = greater_first volume other b
  by (IsDamaged place) b = absurd b
pair_reads B volume sides e behind = ap (λ (r : SideReading). pair_of (read_side sides.a) r) e ∙ by (read_side sides.a) behind where
  by : (reading : SideReading) → IsBehind volume.opening.generation reading → pair_of reading (IsOpen volume) ≡ Keeps (kept_on B volume)
  by IsClosed b = refl
  by (IsOpen other) b = greater_second other volume b
  by (IsDamaged place) b = absurd b

-- of two sides that keep nothing neither is open
both_closed : (a b : SideReading) → pair_of a b ≡ KeepsNone → (a ≡ IsClosed) × (b ≡ IsClosed)
both_closed IsClosed IsClosed e = (refl, refl)
both_closed IsClosed (IsOpen b) e = absurd (by e) where
  by : ¬ (Keeps (kept_on B b) ≡ KeepsNone)
  by f = cc
both_closed IsClosed (IsDamaged place) e = absurd (by e) where
  by : ¬ (Damages B place ≡ KeepsNone)
  by f = cc
both_closed (IsOpen a) IsClosed e = absurd (by e) where
  by : ¬ (Keeps (kept_on A a) ≡ KeepsNone)
  by f = cc
both_closed (IsOpen a) (IsDamaged place) e = absurd (by e) where
  by : ¬ (Damages B place ≡ KeepsNone)
  by f = cc
both_closed (IsOpen a) (IsOpen b) e = absurd (by (a.opening.generation == b.opening.generation) (nat_le a.opening.generation b.opening.generation) e) where
  by : (same less : Bool) → ¬ (cond same (Damages B 5) (cond less (Keeps (kept_on B b)) (Keeps (kept_on A a))) ≡ KeepsNone)
  by true less f = cc
  by false true f = cc
  by false false f = cc
both_closed (IsDamaged place) b e = absurd (by e) where
  by : ¬ (Damages A place ≡ KeepsNone)
  by f = cc

pub none_closed : (side : Side) (sides : Sides) → read_banks sides ≡ KeepsNone → read_side (bytes_of side sides) ≡ IsClosed
unfolding read_banks
none_closed A sides e = (both_closed (read_side sides.a) (read_side sides.b) e).0
none_closed B sides e = (both_closed (read_side sides.a) (read_side sides.b) e).1

closed_none : (side : Side) (sides : Sides) → read_side (bytes_of side sides) ≡ IsClosed → read_side (bytes_of (other_side side) sides) ≡ IsClosed → read_banks sides ≡ KeepsNone
unfolding read_banks
closed_none A sides a b = λ i. pair_of (a i) (b i)
closed_none B sides b a = λ i. pair_of (a i) (b i)

other_other : (side : Side) → other_side (other_side side) ≡ side
other_other A = refl
other_other B = refl

-- ---- what stands is what is kept

pub stands_reads : (side : Side) (generation stop : ℕ) (log : Log) (stands : Stands side generation stop log) → read_banks (seen log) ≡ Keeps (kept_on side stands.volume)
stands_reads side generation stop log stands =
    pair_reads side stands.volume (seen log) (ends_reads stands.volume stop (bytes_of side (seen log)) stands.stored stands.ends)
    (subst (λ (n : ℕ). IsBehind n (read_side (bytes_of (other_side side) (seen log)))) (sym stands.generation_is) stands.behind)

-- what is kept by a journal is what its side has
pub kept_is : (side : Side) (generation stop : ℕ) (log : Log) (stands : Stands side generation stop log) (kept : Kept) → read_banks (seen log) ≡ Keeps kept → kept ≡ kept_on side stands.volume
kept_is side generation stop log stands kept reads = by (sym reads ∙ stands_reads side generation stop log stands) where
  by : Keeps kept ≡ Keeps (kept_on side stands.volume) → kept ≡ kept_on side stands.volume
  by e = cc

-- an entry more, and a fork more
pub entry_kept : (side : Side) (entry : EntryValue) (volume : Volume) → kept_on side (with_record (EntryRecord entry) volume) ≡ with_entry entry (kept_on side volume)
entry_kept side entry volume = λ i. record {
  side = side;
  generation = volume.opening.generation;
  head = record volume.opening.head { path = path_more volume.opening.head.path volume.records entry i };
  entries = entries_more volume.records entry i;
}

pub fork_kept : (side : Side) (volume : Volume) → kept_on side (with_record ForkRecord volume) ≡ with_fork (kept_on side volume)
fork_kept side volume = λ i. record {
  side = side;
  generation = volume.opening.generation;
  head = record volume.opening.head { path = path_forked volume.opening.head.path volume.records i };
  entries = entries_forked volume.records i;
}

-- a head and entries
pub fresh_kept : (side : Side) (generation : ℕ) (head : HeadValue) (entries : List EntryValue) → kept_on side (volume_of generation head entries) ≡ record { side = side; generation = generation; head = head; entries = entries }
fresh_kept side generation head entries = λ i. record {
  side = side;
  generation = generation;
  head = record head { path = path_after-records head.path entries i };
  entries = entries_of-records entries i;
}

-- ---- a record is put behind the others

-- a side that has one record more stands
pub stands_more : (side : Side) (generation stop end : ℕ) (next : RecordValue) (log : Log) (now : Option Log) (stands : Stands side generation stop log)
    → IsStoredRecord stands.volume.opening.head stands.volume.records next → HasVolume side (with_record next stands.volume) end log now
    → (new : Log) → now ≡ Some new → Stands side generation end new
stands_more side generation stop end next log now stands fits has new is =
    let same : has.log ≡ new = cc (has.now_is, is) in
    let here : Stands side generation end has.log = record {
      volume = with_record next stands.volume;
      stored = volume_more stands.volume next stands.stored fits;
      generation_is = stands.generation_is;
      ends = has.ends;
      behind = subst (λ (l : List ℕ). IsBehind generation (read_side l)) (sym has.other) stands.behind;
      settled = has.settled;
    } in
    subst (Stands side generation end) same here

-- and keeps what it kept with that
pub keeps_more : (side : Side) (generation stop end : ℕ) (next : RecordValue) (after : Kept → Kept) (log : Log) (now : Option Log) (stands : Stands side generation stop log)
    → ((volume : Volume) → kept_on side (with_record next volume) ≡ after (kept_on side volume))
    → IsStoredRecord stands.volume.opening.head stands.volume.records next → HasVolume side (with_record next stands.volume) end log now
    → (kept : Kept) → read_banks (seen log) ≡ Keeps kept → KeepsNow (after kept) now
keeps_more side generation stop end next after log now stands grows fits has kept reads =
    let here : Stands side generation end has.log = stands_more side generation stop end next log now stands fits has has.log has.now_is in
    let volume = with_record next stands.volume in
    let behind : IsBehind volume.opening.generation (read_side (bytes_of (other_side side) (seen has.log))) =
    subst (λ (n : ℕ). IsBehind n (read_side (bytes_of (other_side side) (seen has.log)))) (sym stands.generation_is) here.behind in
    let is = kept_is side generation stop log stands kept reads in
    record {
      log = has.log;
      now_is = has.now_is;
      keeps = record {
        reads = pair_reads side volume (seen has.log) (ends_reads volume end (bytes_of side (seen has.log)) (volume_more stands.volume next stands.stored fits) has.ends) behind ∙ ap Keeps (grows stands.volume ∙ ap after (sym is));
        settled = has.settled;
      };
    }

-- at each moment it keeps what it kept, or, once the gate's write was issued, that with the record
pub either_more : (arm : Arm) (side : Side) (generation stop : ℕ) (next : RecordValue) (after : Kept → Kept) (log : Log) (now : Option Log) (stands : Stands side generation stop log)
    → ((volume : Volume) → kept_on side (with_record next volume) ≡ after (kept_on side volume))
    → LeavesMeanwhile log now (IsAppendingTo arm side stop stands.volume next (seen log))
    → (kept : Kept) → read_banks (seen log) ≡ Keeps kept → LeavesEither log now (Keeps kept) (Keeps (after kept)) arm (gate_behind side log)
either_more arm side generation stop next after log now stands grows moments kept reads =
    weaken_moments log now (IsAppendingTo arm side stop stands.volume next (seen log)) (ReadsEither (Keeps kept) (Keeps (after kept)) arm (gate_behind side log)) by moments
  where
    gate : stop ≡ place_behind (read_side (bytes_of side (seen log)))
    gate = stands.ends.stop_is ∙ ap place_behind (sym (ends_reads stands.volume stop (bytes_of side (seen log)) stands.stored stands.ends))

    by : (calls : List Call) (image : Sides) → IsAppendingTo arm side stop stands.volume next (seen log) calls image → ReadsEither (Keeps kept) (Keeps (after kept)) arm (gate_behind side log) calls image
    by calls image at =
        let is = kept_is side generation stop log stands kept reads in
        let behind : IsBehind stands.volume.opening.generation (read_side (bytes_of (other_side side) image)) =
        subst (λ (n : ℕ). IsBehind n (read_side (bytes_of (other_side side) image))) (sym stands.generation_is)
        (subst (λ (l : List ℕ). IsBehind generation (read_side l)) (sym at.other) stands.behind) in
        elim (at.reads) [
          | inl before ↦ inl (pair_reads side stands.volume image before behind ∙ ap Keeps (sym is))
          | inr h ↦ inr (subst (λ (place : ℕ). IsIssued arm (append_gate side place) calls) gate h.0, pair_reads side (with_record next stands.volume) image h.1 behind ∙ ap Keeps (grows stands.volume ∙ ap after (sym is)))
        ]

-- ---- a side is written anew

-- at each moment banks that kept nothing keep nothing, or, once the gate's write was issued, what was written
pub either_made : (arm : Arm) (side : Side) (volume : Volume) (log : Log) (now : Option Log) → KeepsNothing log → LeavesMeanwhile log now (IsWritingTo arm side volume (seen log))
    → LeavesEither log now KeepsNone (Keeps (kept_on side volume)) arm (first_gate side)
either_made arm side volume log now nothing moments =
    weaken_moments log now (IsWritingTo arm side volume (seen log)) (ReadsEither KeepsNone (Keeps (kept_on side volume)) arm (first_gate side)) by moments
  where
    off : (image : Sides) → bytes_of (other_side side) image ≡ bytes_of (other_side side) (seen log) → read_side (bytes_of (other_side side) image) ≡ IsClosed
    off image e = ap read_side e ∙ none_closed (other_side side) (seen log) nothing.none

    by : (calls : List Call) (image : Sides) → IsWritingTo arm side volume (seen log) calls image → ReadsEither KeepsNone (Keeps (kept_on side volume)) arm (first_gate side) calls image
    by calls image at = elim (at.reads) [
      | inl same ↦ inl (closed_none side image (ap read_side same ∙ none_closed side (seen log) nothing.none) (off image at.other))
      | inr (inl closed) ↦ inl (closed_none side image closed (off image at.other))
      | inr (inr h) ↦ inr (h.0, pair_reads side volume image h.1 (subst (IsBehind volume.opening.generation) (sym (off image at.other)) tt))
    ]

-- and once it is done they keep that
pub stands_made : (side : Side) (volume : Volume) (end : ℕ) (log : Log) (now : Option Log) → KeepsNothing log → IsVolume volume → HasVolume side volume end log now
    → (new : Log) → now ≡ Some new → Stands side volume.opening.generation end new
stands_made side volume end log now nothing stored has new is =
    let same : has.log ≡ new = cc (has.now_is, is) in
    let off : read_side (bytes_of (other_side side) (seen has.log)) ≡ IsClosed = ap read_side has.other ∙ none_closed (other_side side) (seen log) nothing.none in
    let here : Stands side volume.opening.generation end has.log = record {
      volume = volume;
      stored = stored;
      generation_is = refl;
      ends = has.ends;
      behind = subst (IsBehind volume.opening.generation) (sym off) tt;
      settled = has.settled;
    } in
    subst (Stands side volume.opening.generation end) same here

-- what stands is kept now
pub stands_keeps : (side : Side) (generation stop : ℕ) (log : Log) (now : Option Log) (kept : Kept) → now ≡ Some log → (stands : Stands side generation stop log) → kept_on side stands.volume ≡ kept → KeepsNow kept now
stands_keeps side generation stop log now kept is stands same = record {
  log = log;
  now_is = is;
  keeps = record { reads = stands_reads side generation stop log stands ∙ ap Keeps same; settled = stands.settled };
}

-- the other side is written anew, of the next generation, and then it stands
pub stands_swapped : (side : Side) (generation stop end : ℕ) (volume : Volume) (log : Log) (now : Option Log) (stands : Stands side generation stop log) → volume.opening.generation ≡ generation + 1 → IsVolume volume
    → HasVolume (other_side side) volume end log now → (new : Log) → now ≡ Some new → Stands (other_side side) (generation + 1) end new
stands_swapped side generation stop end volume log now stands next stored has new is =
    let same : has.log ≡ new = cc (has.now_is, is) in
    let on : bytes_of (other_side (other_side side)) (seen has.log) ≡ bytes_of side (seen log) = has.other ∙ ap (λ (s : Side). bytes_of s (seen log)) (other_other side) in
    let old : read_side (bytes_of (other_side (other_side side)) (seen has.log)) ≡ IsOpen stands.volume = ap read_side on ∙ ends_reads stands.volume stop (bytes_of side (seen log)) stands.stored stands.ends in
    let less : stands.volume.opening.generation < generation + 1 = omega (arith, stands.generation_is) in
    let here : Stands (other_side side) (generation + 1) end has.log = record {
      volume = volume;
      stored = stored;
      generation_is = next;
      ends = has.ends;
      behind = subst (IsBehind (generation + 1)) (sym old) less;
      settled = has.settled;
    } in
    subst (Stands (other_side side) (generation + 1) end) same here

-- at each moment the journal keeps what it kept, or, once the gate's write was issued, what was written
pub either_swapped : (arm : Arm) (side : Side) (generation stop : ℕ) (volume : Volume) (log : Log) (now : Option Log) (stands : Stands side generation stop log) → volume.opening.generation ≡ generation + 1
    → LeavesMeanwhile log now (IsWritingTo arm (other_side side) volume (seen log))
    → (kept : Kept) → read_banks (seen log) ≡ Keeps kept → LeavesEither log now (Keeps kept) (Keeps (kept_on (other_side side) volume)) arm (first_gate (other_side side))
either_swapped arm side generation stop volume log now stands next moments kept reads =
    weaken_moments log now (IsWritingTo arm (other_side side) volume (seen log)) (ReadsEither (Keeps kept) (Keeps (kept_on (other_side side) volume)) arm (first_gate (other_side side))) by moments
  where
    by : (calls : List Call) (image : Sides) → IsWritingTo arm (other_side side) volume (seen log) calls image → ReadsEither (Keeps kept) (Keeps (kept_on (other_side side) volume)) arm (first_gate (other_side side)) calls image
    by calls image at =
        let is = kept_is side generation stop log stands kept reads in
        let other : bytes_of side image ≡ bytes_of side (seen log) = (ap (λ (s : Side). bytes_of s image) (sym (other_other side)) ∙ at.other) ∙ ap (λ (s : Side). bytes_of s (seen log)) (other_other side) in
        let open_still : read_side (bytes_of side image) ≡ IsOpen stands.volume = ap read_side other ∙ ends_reads stands.volume stop (bytes_of side (seen log)) stands.stored stands.ends in
        let less : stands.volume.opening.generation < volume.opening.generation = omega (arith, stands.generation_is) in
        elim (at.reads) [
          | inl same ↦ inl (ap read_banks (sides_from_bytes side image (seen log) other same) ∙ reads)
          | inr (inl closed) ↦ inl (pair_reads side stands.volume image open_still (subst (IsBehind stands.volume.opening.generation) (sym closed) tt) ∙ ap Keeps (sym is))
          | inr (inr h) ↦
              inr (
                h.0,
                pair_reads (other_side side) volume image h.1
                    (subst (λ (s : Side). IsBehind volume.opening.generation (read_side (bytes_of s image))) (sym (other_other side)) (subst (IsBehind volume.opening.generation) (sym open_still) less)),
              )
        ]

-- ---- the calls of a journal

-- nothing is some log
none_some : {log : Log} → ¬ (◌≡◌ {A = Option Log} None (Some log))
none_some e = cc

-- what is kept, at the log that is told
pub kept_at : (old : Option Log) (closed : Option Why) (kept : Kept) → KeptBy old closed kept → (log : Log) → old ≡ Some log → read_banks (seen log) ≡ Keeps kept
kept_at old closed kept by log is = let same : by.log ≡ log = cc (by.now_is, is) in subst (λ (m : Log). read_banks (seen m) ≡ Keeps kept) same by.reads

-- where nothing moved, all reads as before
pub nothing_moves : (log : Log) (now : Option Log) (before after : PairReading) (arm : Arm) (gate : Gate) → now ≡ Some log → IsSettled log → read_banks (seen log) ≡ before → LeavesEither log now before after arm gate
nothing_moves log now before after arm gate is settled reads = no_moments log now (ReadsEither before after arm gate) is (λ image left. inl (ap read_banks (settled image left) ∙ reads))

-- a journal with one record more
pub journal_more : (side : Side) (generation stop end : ℕ) (old now : Option Log) (next : RecordValue) (closed : Option Why)
    → (stands : (log : Log) → old ≡ Some log → Stands side generation stop log)
    → ((log : Log) (is : old ≡ Some log) → IsStoredRecord (stands log is).volume.opening.head (stands log is).volume.records next)
    → ((log : Log) (volume : Volume) → old ≡ Some log → IsSettled log → EndsAt volume stop (bytes_of side (seen log)) → HasVolume side (with_record next volume) end log now)
    → (old ≡ None → now ≡ None) → end + 1 < 2 ^ 64 → IsJournal now side generation end closed
journal_more side generation stop end None now next closed stands fits done untold room = record { room = room; stands = λ log is opened. absurd (none_some (sym (untold refl) ∙ is)) }
journal_more side generation stop end (Some old) now next closed stands fits done untold room = record {
  room = room;
  stands = λ log is opened.
      let before = stands old refl in
      stands_more side generation stop end next old now before (fits old refl) (done old before.volume refl before.settled before.ends) log is;
}

-- a journal that was just made
pub journal_made : (side : Side) (volume : Volume) (end : ℕ) (old now : Option Log) (closed : Option Why) → IsBlankLog old → IsVolume volume
    → ((log : Log) → old ≡ Some log → IsSettled log → HasVolume side volume end log now)
    → (old ≡ None → now ≡ None) → end + 1 < 2 ^ 64 → IsJournal now side volume.opening.generation end closed
journal_made side volume end None now closed blank stored done untold room = record { room = room; stands = λ log is opened. absurd (none_some (sym (untold refl) ∙ is)) }
journal_made side volume end (Some old) now closed blank stored done untold room = record {
  room = room;
  stands = λ log is opened. let nothing = blank old refl in stands_made side volume end old now nothing stored (done old refl nothing.settled) log is;
}

-- and what it keeps
pub keeps_made : (side : Side) (volume : Volume) (end : ℕ) (log : Log) (now : Option Log) (kept : Kept) → KeepsNothing log → IsVolume volume → HasVolume side volume end log now → kept_on side volume ≡ kept → KeepsNow kept now
keeps_made side volume end log now kept nothing stored has same =
    let here = stands_made side volume end log now nothing stored has has.log has.now_is in
    let off : read_side (bytes_of (other_side side) (seen has.log)) ≡ IsClosed = ap read_side has.other ∙ none_closed (other_side side) (seen log) nothing.none in
    record {
      log = has.log;
      now_is = has.now_is;
      keeps = record {
        reads = pair_reads side volume (seen has.log) (ends_reads volume end (bytes_of side (seen has.log)) stored has.ends) (subst (IsBehind volume.opening.generation) (sym off) tt) ∙ ap Keeps same;
        settled = has.settled;
      };
    }

-- a journal that was swapped
pub journal_swapped : (side : Side) (generation stop end : ℕ) (volume : Volume) (old now : Option Log) (closed : Option Why)
    → ((log : Log) → old ≡ Some log → Stands side generation stop log) → volume.opening.generation ≡ generation + 1 → IsVolume volume
    → ((log : Log) → old ≡ Some log → IsSettled log → HasVolume (other_side side) volume end log now)
    → (old ≡ None → now ≡ None) → end + 1 < 2 ^ 64 → IsJournal now (other_side side) (generation + 1) end closed
journal_swapped side generation stop end volume None now closed stands next stored done untold room = record { room = room; stands = λ log is opened. absurd (none_some (sym (untold refl) ∙ is)) }
journal_swapped side generation stop end volume (Some old) now closed stands next stored done untold room = record {
  room = room;
  stands = λ log is opened. let before = stands old refl in stands_swapped side generation stop end volume old now before next stored (done old refl before.settled) log is;
}

-- and what it keeps
pub keeps_swapped : (side : Side) (generation stop end : ℕ) (volume : Volume) (log : Log) (now : Option Log) (kept : Kept) (stands : Stands side generation stop log) → volume.opening.generation ≡ generation + 1 → IsVolume volume
    → HasVolume (other_side side) volume end log now → kept_on (other_side side) volume ≡ kept → KeepsNow kept now
keeps_swapped side generation stop end volume log now kept stands next stored has same =
    let here = stands_swapped side generation stop end volume log now stands next stored has has.log has.now_is in
    record {
      log = has.log;
      now_is = has.now_is;
      keeps = record {
        reads = pair_reads (other_side side) volume (seen has.log) (ends_reads volume end (bytes_of (other_side side) (seen has.log)) stored has.ends)
            (subst (λ (n : ℕ). IsBehind n (read_side (bytes_of (other_side (other_side side)) (seen has.log)))) (sym next) here.behind) ∙ ap Keeps same;
        settled = has.settled;
      };
    }

-- what a swap keeps in place of what was kept
pub swapped_is : (side : Side) (generation stop : ℕ) (log : Log) (stands : Stands side generation stop log) (head : HeadValue) (entries : List EntryValue) (kept : Kept) → read_banks (seen log) ≡ Keeps kept
    → kept_on (other_side side) (volume_of (generation + 1) head entries) ≡ swapped head entries kept
swapped_is side generation stop log stands head entries kept reads =
    let is = kept_is side generation stop log stands kept reads in
    let on : side ≡ kept.side = sym (ap (λ (k : Kept). k.side) is) in
    let count : generation ≡ kept.generation = sym (ap (λ (k : Kept). k.generation) is ∙ stands.generation_is) in
    fresh_kept (other_side side) (generation + 1) head entries ∙ (λ i. record { side = other_side (on i); generation = count i + 1; head = head; entries = entries })
