-- What is written for records is read as them, and what is read was written so.
use Rattle.std.proofs.Common.{◌≡◌, ◌≢◌, ℕ, zero, suc, ◌+◌, ◌<◌, ◌≤◌, List, [], ◌∷◌, ◌++◌, Bool, true, false, ◌&&◌, leb, eqb, if◌then◌else◌, length, refl, sym, ap, ◌∙◌, subst, inl, inr, append_assoc, append-nil, arith}
use Rattle.std.proofs.lemmas.Bool.{cases_Bool, le-leb, and_parts}
use Rattle.std.proofs.lemmas.Bool.Decides.{eqb_tells, leb_tells}
use Rattle.std.proofs.lemmas.List.{length-append}
use Rattle.mld_ops.specs.Entry.{EntryValue}
use Rattle.op_codec.specs.Entries.{entry_bytes, read_entry}
use Rattle.op_codec.specs.CodecLaws.{AreBytes}
use Rattle.op_codec.specs.Reading.{Reading, Found, Fault, chain}
use Rattle.op_codec.proofs.EntryTrips.{entry_back, entry_one}
use Rattle.op_codec.proofs.Sequences.{Splits, splits, bytes_left, same_parts, fault_found}
use Rattle.tree_clock.specs.Limits.{path_limit}
use Rattle.journal_sides.specs.Format.{open_gate, entry_record_kind, fork_kind}
use Rattle.journal_sides.specs.Heads.{HeadValue}
use Rattle.journal_sides.specs.RecordBytes.{RecordValue, EntryRecord, ForkRecord, record_bytes, blocks, entries_in, path_after, known_after, is_ready_entry, next_entry, read_entry_record, read_record_body, read_record, read_records}
use Rattle.journal_sides.specs.StoredVolumes.{IsStoredRecord, AreStoredRecords}
use Rattle.journal_sides.proofs.Ready.{ready_tested, test_ready}

-- a record is read back
pub record_back : (head : HeadValue) (records : List RecordValue) (next : RecordValue) (place : ℕ) (rest : List ℕ) → IsStoredRecord head records next
    → read_record head records place (record_bytes next ++ rest) ≡ Found next (place + length (record_bytes next)) rest
unfolding record_bytes read_record_body read_record
record_back head records (EntryRecord entry) place rest is =
    let ticks : List (List ℕ × ℕ) = known_after head.base.ticks (entries_in records) in
    let t = ready_tested ticks entry is.0.entry_kept is.1 in
    let e : place + 1 + length (entry_bytes entry) ≡ place + suc (length (entry_bytes entry)) = omega arith in
    ap (λ (r : Reading EntryValue). chain r (λ entry' next left. next_entry ticks (place + 1) entry' next left)) (entry_back entry (place + 1) rest is.0)
    ∙ ap (λ (b : Bool). if b then Found (EntryRecord entry) (place + 1 + length (entry_bytes entry)) rest else Fault (place + 1)) t
    ∙ ap (λ (n : ℕ). Found (EntryRecord entry) n rest) e
record_back head records ForkRecord place rest is =
    let fits : length (path_after head.path records) + 1 ≤ path_limit = omega (arith, is) in
    ap (λ (b : Bool). if b then Found ForkRecord (place + 1) rest else Fault place) (le-leb (length (path_after head.path records) + 1) path_limit fits)

-- a record that was written behind others
pub record WasRecord (head : HeadValue) (records : List RecordValue) (next : RecordValue) (place : ℕ) (bytes : List ℕ) (end : ℕ) (rest : List ℕ) : Type 0 where
  pub stored : IsStoredRecord head records next
  pub front : bytes ≡ record_bytes next ++ rest
  pub end_is : end ≡ place + length (record_bytes next)

-- an entry that passed its test was written so
entry_was : (head : HeadValue) (records : List RecordValue) (place : ℕ) (bytes : List ℕ) (next : RecordValue) (end : ℕ) (rest : List ℕ) → AreBytes bytes
    → read_entry_record head records (place + 1) bytes ≡ Found next end rest → WasRecord head records next place (entry_record_kind ∷ bytes) end rest
unfolding record_bytes
entry_was head records place bytes next end rest b h =
    by (splits (read_entry (place + 1) bytes) (λ entry at left. next_entry (known_after head.base.ticks (entries_in records)) (place + 1) entry at left) next end rest h)
  where
    by : Splits (read_entry (place + 1) bytes) (λ entry at left. next_entry (known_after head.base.ticks (entries_in records)) (place + 1) entry at left) next end rest
        → WasRecord head records next place (entry_record_kind ∷ bytes) end rest
    by s =
        let ticks : List (List ℕ × ℕ) = known_after head.base.ticks (entries_in records) in
        let w = entry_one (place + 1) bytes s.value s.place s.rest b s.first in
        elim (cases_Bool (is_ready_entry ticks s.value)) [
          | inr f ↦ fault_found (Fault (place + 1)) (place + 1) end next rest refl (rw f at s.second)
          | inl t ↦
              let e = same_parts (EntryRecord s.value) next s.place end s.rest rest (rw t at s.second) in
              let l = e.rest_is in
              let at = w.next_is in
              let stop = e.place_is in
              subst (λ (r : RecordValue). WasRecord head records r place (entry_record_kind ∷ bytes) end rest) e.value (record {
                stored = (w.value_is, test_ready ticks s.value w.value_is.entry_kept t);
                front = ap (λ (m : List ℕ). entry_record_kind ∷ m) (w.front ∙ ap (λ (m : List ℕ). entry_bytes s.value ++ m) l);
                end_is = omega arith;
              })
        ]

-- a fork that fits was written so
fork_was : (head : HeadValue) (records : List RecordValue) (place : ℕ) (bytes : List ℕ) (next : RecordValue) (end : ℕ) (rest : List ℕ)
    → length (path_after head.path records) + 1 ≤ path_limit → Found ForkRecord (place + 1) bytes ≡ Found next end rest → WasRecord head records next place (fork_kind ∷ bytes) end rest
unfolding record_bytes
fork_was head records place bytes next end rest fits h =
    let e = same_parts ForkRecord next (place + 1) end bytes rest h in
    subst (λ (r : RecordValue). WasRecord head records r place (fork_kind ∷ bytes) end rest) e.value (record {
      stored = omega arith;
      front = ap (λ (m : List ℕ). fork_kind ∷ m) e.rest_is;
      end_is = sym e.place_is;
    })

-- a record was written so
pub record_one : (head : HeadValue) (records : List RecordValue) (place : ℕ) (bytes : List ℕ) (next : RecordValue) (end : ℕ) (rest : List ℕ) → AreBytes bytes
    → read_record head records place bytes ≡ Found next end rest → WasRecord head records next place bytes end rest
unfolding read_record_body read_record
record_one head records place [] next end rest b h = fault_found (Fault place) place end next rest refl h
record_one head records place (kind ∷ bytes) next end rest b h =
    elim (eqb_tells kind entry_record_kind) [
      | inl t ↦ subst (λ (k : ℕ). WasRecord head records next place (k ∷ bytes) end rest) (sym t.1) (entry_was head records place bytes next end rest (λ k. b (suc k)) (rw t.0 at h))
      | inr t ↦ elim (cases_Bool (eqb kind fork_kind && leb (length (path_after head.path records) + 1) path_limit)) [
        | inr f ↦ fault_found (Fault place) place end next rest refl (rw (t.0, f) at h)
        | inl f ↦ forked (and_parts (eqb kind fork_kind) (leb (length (path_after head.path records) + 1) path_limit) f) (rw (t.0, f) at h)
      ]
    ]
  where
    forked : (eqb kind fork_kind ≡ true) × (leb (length (path_after head.path records) + 1) path_limit ≡ true) → Found ForkRecord (place + 1) bytes ≡ Found next end rest
        → WasRecord head records next place (kind ∷ bytes) end rest
    forked f h' =
        elim (eqb_tells kind fork_kind) [
          | inr u ↦ absurd (different (sym u.0 ∙ f.0))
          | inl u ↦ elim (leb_tells (length (path_after head.path records) + 1) path_limit) [
            | inr v ↦ absurd (different (sym v.0 ∙ f.1))
            | inl v ↦ subst (λ (k : ℕ). WasRecord head records next place (k ∷ bytes) end rest) (sym u.1) (fork_was head records place bytes next end rest v.1 h')
          ]
        ]
      where
        different : false ≡ true → ⊥
        different e = cc

-- records are read back
pub records_back : (head : HeadValue) (records more : List RecordValue) (steps place gate : ℕ) (junk : List ℕ) → AreStoredRecords head records more → length more < steps → gate ≢ open_gate
    → read_records steps head records place (blocks more ++ gate ∷ junk) ≡ Found (records ++ more) (place + length (blocks more)) (gate ∷ junk)
unfolding read_records
records_back head records more zero place gate junk is l shut = absurd (omega arith)
records_back head records [] (suc steps) place gate junk is l shut =
    elim (eqb_tells gate open_gate) [
      | inl t ↦ absurd (shut t.1)
      | inr t ↦
          let same : records ≡ records ++ [] = sym (append-nil records) in
          let e : place ≡ place + 0 = omega arith in
          rw t.0 (λ i. Found (same i) (e i) (gate ∷ junk))
    ]
records_back head records (next ∷ more) (suc steps) place gate junk is l shut =
    let w = record_bytes next in
    let rest : List ℕ = blocks more ++ gate ∷ junk in
    let one : read_record head records (place + 1) ((w ++ blocks more) ++ gate ∷ junk) ≡ Found next (place + 1 + length w) rest =
    ap (read_record head records (place + 1)) (append_assoc w (blocks more) (gate ∷ junk)) ∙ record_back head records next (place + 1) rest is.0 in
    let e : place + 1 + length w + length (blocks more) ≡ place + suc (length (w ++ blocks more)) = let k = length-append w (blocks more) in omega arith in
    ap (λ (r : Reading RecordValue). chain r (λ next' at left. read_records steps head (records ++ next' ∷ []) at left)) one
    ∙ records_back head (records ++ next ∷ []) more steps (place + 1 + length w) gate junk is.1 (omega arith) shut
    ∙ (λ i. Found (append_assoc records (next ∷ []) more i) (e i) (gate ∷ junk))

-- records that were written behind others, up to a closed gate
pub record WereRecords (head : HeadValue) (records : List RecordValue) (place : ℕ) (bytes : List ℕ) (all : List RecordValue) (stop : ℕ) (rest : List ℕ) : Type 0 where
  pub more : List RecordValue
  pub all_are : all ≡ records ++ more
  pub stored : AreStoredRecords head records more
  pub front : bytes ≡ blocks more ++ rest
  pub stop_is : stop ≡ place + length (blocks more)
  pub gate : ℕ
  pub junk : List ℕ
  pub rest_is : rest ≡ gate ∷ junk
  pub shut : gate ≢ open_gate

-- records were written so
pub records_one : (head : HeadValue) (steps : ℕ) (records : List RecordValue) (place : ℕ) (bytes : List ℕ) (all : List RecordValue) (stop : ℕ) (rest : List ℕ) → AreBytes bytes
    → read_records steps head records place bytes ≡ Found all stop rest → WereRecords head records place bytes all stop rest
unfolding read_records
records_one head zero records place bytes all stop rest b h = fault_found (Fault place) place stop all rest refl h
records_one head (suc steps) records place [] all stop rest b h = fault_found (Fault place) place stop all rest refl h
records_one head (suc steps) records place (gate ∷ bytes) all stop rest b h =
    elim (eqb_tells gate open_gate) [
      | inr t ↦
          let e = same_parts records all place stop (gate ∷ bytes) rest (rw t.0 at h) in
          record {
            more = [];
            all_are = sym e.value ∙ sym (append-nil records);
            stored = tt;
            front = e.rest_is;
            stop_is = sym e.place_is ∙ (omega arith);
            gate = gate;
            junk = bytes;
            rest_is = sym e.rest_is;
            shut = t.1;
          }
      | inl t ↦ further (records_one head steps) t.1 (splits (read_record head records (place + 1) bytes) (λ next at left. read_records steps head (records ++ next ∷ []) at left) all stop rest (rw t.0 at h))
    ]
  where
    further : ((records' : List RecordValue) (place' : ℕ) (bytes' : List ℕ) (all' : List RecordValue) (stop' : ℕ) (rest' : List ℕ) → AreBytes bytes' → read_records steps head records' place' bytes' ≡ Found all' stop' rest' → WereRecords head records' place' bytes' all' stop' rest')
        → gate ≡ open_gate → Splits (read_record head records (place + 1) bytes) (λ next at left. read_records steps head (records ++ next ∷ []) at left) all stop rest
        → WereRecords head records place (gate ∷ bytes) all stop rest
    further again is s =
        let w = record_one head records (place + 1) bytes s.value s.place s.rest (λ k. b (suc k)) s.first in
        let v = again (records ++ s.value ∷ []) s.place s.rest all stop rest (bytes_left bytes (record_bytes s.value) s.rest (λ k. b (suc k)) w.front) s.second in
        let long = length-append (record_bytes s.value) (blocks v.more) in
        let end = w.end_is in
        let stop_at = v.stop_is in
        record {
          more = s.value ∷ v.more;
          all_are = v.all_are ∙ append_assoc records (s.value ∷ []) v.more;
          stored = (w.stored, v.stored);
          front = ap (λ (g : ℕ). g ∷ bytes) is ∙ ap (λ (l : List ℕ). open_gate ∷ l) (w.front ∙ ap (λ (l : List ℕ). record_bytes s.value ++ l) v.front ∙ sym (append_assoc (record_bytes s.value) (blocks v.more) rest));
          stop_is = omega arith;
          gate = v.gate;
          junk = v.junk;
          rest_is = v.rest_is;
          shut = v.shut;
        }
