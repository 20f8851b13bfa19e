-- How the program reads records.
use Rattle.std.proofs.Common.{◌≡◌, ◌≢◌, ℕ, zero, suc, ◌+◌, ◌<◌, ◌≤◌, max, nat_eq, ◌⊎◌, List, [], ◌∷◌, ◌++◌, Bool, true, false, ◌&&◌, leb, eqb, if◌then◌else◌, length, drop, refl, sym, ap, ◌∙◌, inl, inr, arith}
use Rattle.std.proofs.lemmas.Bool.{cases_Bool, le-leb}
use Rattle.std.proofs.lemmas.Bool.Decides.{eqb_tells, leb_tells}
use Rattle.std.specs.Cmp.Lexicographic.{pointwise}
use Rattle.mld_ops.specs.Entry.{EntryValue}
use Rattle.mld_ops.specs.Ready.{last_dot, IsReadyEntry}
use Rattle.op_codec.specs.Agreement.{IsRead, IsRefused}
use Rattle.op_codec.specs.Entries.{read_entry}
use Rattle.op_codec.specs.Reading.{Reading, Found, Fault, chain, read_u8}
use Rattle.op_codec.specs.Stored.{IsStoredEntry}
use Rattle.op_codec.specs.declared.faults.CodecFault.{CodecFault}
use Rattle.op_codec.specs.declared.faults.CodecFault.TheVariants.{NotInGrammar, NoMemory}
use Rattle.op_codec.proofs.ListLaws.{refused_later, refused_same}
use Rattle.tree_clock.specs.Clock.{ticks_of}
use Rattle.tree_clock.specs.Limits.{path_limit}
use Rattle.tree_clock.specs.Path.{zero_letter}
use Rattle.tree_clock.specs.declared.dots.Dot.{Dot}
use Rattle.journal_sides.specs.RecordsRead.{Shows, TakesRecord, HasGate, HasNoGate, FindsRecords}
use Rattle.journal_sides.specs.Format.{entry_record_kind, fork_kind}
use Rattle.journal_sides.specs.Heads.{HeadValue}
use Rattle.journal_sides.specs.RecordBytes.{RecordValue, EntryRecord, ForkRecord, entries_in, path_after, raised_to, known_after, is_ready_entry, next_entry, read_entry_record, read_record_body, read_record, read_records}
use Rattle.journal_sides.proofs.Ready.{ready_tested, test_ready, ready_same}

-- ---- one record more

-- the entries with one more
pub entries_more : (records : List RecordValue) (entry : EntryValue) → entries_in (records ++ EntryRecord entry ∷ []) ≡ entries_in records ++ entry ∷ []
entries_more [] entry = refl
entries_more (EntryRecord first ∷ records) entry = ap (λ (entries : List EntryValue). first ∷ entries) (entries_more records entry)
entries_more (ForkRecord ∷ records) entry = entries_more records entry

-- a fork adds no entry
pub entries_forked : (records : List RecordValue) → entries_in (records ++ ForkRecord ∷ []) ≡ entries_in records
entries_forked [] = refl
entries_forked (EntryRecord first ∷ records) = ap (λ (entries : List EntryValue). first ∷ entries) (entries_forked records)
entries_forked (ForkRecord ∷ records) = entries_forked records

-- an entry leaves the path
pub path_more : (path : List ℕ) (records : List RecordValue) (entry : EntryValue) → path_after path (records ++ EntryRecord entry ∷ []) ≡ path_after path records
path_more path [] entry = refl
path_more path (EntryRecord first ∷ records) entry = path_more path records entry
path_more path (ForkRecord ∷ records) entry = path_more (path ++ zero_letter ∷ []) records entry

-- a fork adds a letter to it
pub path_forked : (path : List ℕ) (records : List RecordValue) → path_after path (records ++ ForkRecord ∷ []) ≡ path_after path records ++ zero_letter ∷ []
path_forked path [] = refl
path_forked path (EntryRecord first ∷ records) = path_forked path records
path_forked path (ForkRecord ∷ records) = path_forked (path ++ zero_letter ∷ []) records

-- what is known behind one entry more
pub known_more : (ticks : List (List ℕ × ℕ)) (entries : List EntryValue) (entry : EntryValue) → known_after ticks (entries ++ entry ∷ []) ≡ raised_to (known_after ticks entries) (last_dot entry.range)
known_more ticks [] entry = refl
known_more ticks (first ∷ entries) entry = known_more (raised_to ticks (last_dot first.range)) entries entry

-- ticks that are the same are so once they are raised
raised_same : (ticks other : List (List ℕ × ℕ)) (dot : Dot) → ((path : List ℕ) → ticks_of ticks path ≡ ticks_of other path) → (path : List ℕ) → ticks_of (raised_to ticks dot) path ≡ ticks_of (raised_to other dot) path
raised_same ticks other dot same path =
    let own = same dot.path in
    let rest = same path in
    λ i. if pointwise nat_eq dot.path path then max (own i) dot.tick else rest i

-- what is shown behind one entry more
pub shows_entry : (head : HeadValue) (records : List RecordValue) (entries : List EntryValue) (path : List ℕ) (ticks raised : List (List ℕ × ℕ)) (entry : EntryValue) → Shows head records entries path ticks
    → ((other : List ℕ) → ticks_of raised other ≡ ticks_of (raised_to ticks (last_dot entry.range)) other) → Shows head (records ++ EntryRecord entry ∷ []) (entries ++ entry ∷ []) path raised
shows_entry head records entries path ticks raised entry shows up = record {
  entries_are = ap (λ (es : List EntryValue). es ++ entry ∷ []) shows.entries_are ∙ sym (entries_more records entry);
  path_is = shows.path_is ∙ sym (path_more head.path records entry);
  ticks_are = λ other.
      let all : known_after head.base.ticks (entries_in (records ++ EntryRecord entry ∷ [])) ≡ raised_to (known_after head.base.ticks (entries_in records)) (last_dot entry.range) =
      ap (known_after head.base.ticks) (entries_more records entry) ∙ known_more head.base.ticks (entries_in records) entry in
      up other ∙ raised_same ticks (known_after head.base.ticks (entries_in records)) (last_dot entry.range) shows.ticks_are other ∙ ap (λ (ts : List (List ℕ × ℕ)). ticks_of ts other) (sym all);
}

-- what is shown behind a fork
pub shows_fork : (head : HeadValue) (records : List RecordValue) (entries : List EntryValue) (path : List ℕ) (ticks : List (List ℕ × ℕ)) → Shows head records entries path ticks
    → Shows head (records ++ ForkRecord ∷ []) entries (path ++ zero_letter ∷ []) ticks
shows_fork head records entries path ticks shows = record {
  entries_are = shows.entries_are ∙ sym (entries_forked records);
  path_is = ap (λ (p : List ℕ). p ++ zero_letter ∷ []) shows.path_is ∙ sym (path_forked head.path records);
  ticks_are = λ other. shows.ticks_are other ∙ ap (λ (es : List EntryValue). ticks_of (known_after head.base.ticks es) other) (sym (entries_forked records));
}

-- ---- entries

module _ (head : HeadValue) (records : List RecordValue) (input : List ℕ) (entries : List EntryValue) (path : List ℕ) (ticks : List (List ℕ × ℕ)) (shows : Shows head records entries path ticks) where
  -- an entry that is ready is taken
  pub entry_taken : (at end : ℕ) (entry : EntryValue) (more : List EntryValue) (after : List ℕ) (raised : List (List ℕ × ℕ)) → IsRead (read_entry at (drop at input)) input entry end → IsStoredEntry entry → IsReadyEntry ticks entry
      → Shows head (records ++ EntryRecord entry ∷ []) more after raised → TakesRecord head records (read_entry_record head records at (drop at input)) input more after raised end
  entry_taken at end entry more after raised r stored ready shown =
      let known : List (List ℕ × ℕ) = known_after head.base.ticks (entries_in records) in
      let t = ready_tested known entry stored.entry_kept (ready_same ticks known entry shows.ticks_are ready) in
      record {
        taken = EntryRecord entry;
        reads = record {
          found = ap (λ (x : Reading EntryValue). chain x (λ entry' next rest. next_entry known at entry' next rest)) r.found ∙ ap (λ (b : Bool). if b then Found (EntryRecord entry) end (drop end input) else Fault at) t;
          within = r.within;
        };
        shows = shown;
      }

  -- an entry that isn't ready is a fault where it begins
  pub entry_unready : (at end : ℕ) (entry : EntryValue) → IsRead (read_entry at (drop at input)) input entry end → IsStoredEntry entry → ¬ IsReadyEntry ticks entry
      → read_entry_record head records at (drop at input) ≡ Fault at
  entry_unready at end entry r stored unready =
      let known : List (List ℕ × ℕ) = known_after head.base.ticks (entries_in records) in
      elim (cases_Bool (is_ready_entry known entry)) [
        | inl t ↦ absurd (unready (ready_same known ticks entry (λ p. sym (shows.ticks_are p)) (test_ready known entry stored.entry_kept t)))
        | inr f ↦ ap (λ (x : Reading EntryValue). chain x (λ entry' next rest. next_entry known at entry' next rest)) r.found ∙ ap (λ (b : Bool). if b then Found (EntryRecord entry) end (drop end input) else Fault at) f
      ]

  -- a fork is taken where the path has room
  pub fork_taken : (at next : ℕ) → IsRead (read_u8 at (drop at input)) input fork_kind next → length path < path_limit
      → TakesRecord head records (read_record head records at (drop at input)) input entries (path ++ zero_letter ∷ []) ticks next
  unfolding read_record_body read_record
  fork_taken at next r room =
      let long : length (path_after head.path records) + 1 ≤ path_limit = omega (arith, ap length shows.path_is) in
      record {
        taken = ForkRecord;
        reads = record {
          found = ap (λ (x : Reading ℕ). chain x (λ kind next rest. read_record_body head records at kind next rest)) r.found
              ∙ ap (λ (b : Bool). if b then Found ForkRecord next (drop next input) else Fault at) (le-leb (length (path_after head.path records) + 1) path_limit long);
          within = r.within;
        };
        shows = shows_fork head records entries path ticks shows;
      }

  -- a kind that is none, and a fork without room, are a fault where the record begins
  pub record_unknown : (at next kind : ℕ) → IsRead (read_u8 at (drop at input)) input kind next → kind ≢ entry_record_kind → (kind ≡ fork_kind → path_limit ≤ length path)
      → read_record head records at (drop at input) ≡ Fault at
  unfolding read_record_body read_record
  record_unknown at next kind r other full =
      ap (λ (x : Reading ℕ). chain x (λ kind next rest. read_record_body head records at kind next rest)) r.found
      ∙ elim (eqb_tells kind entry_record_kind) [
        | inl t ↦ absurd (other t.1)
        | inr t ↦ rw t.0 (ap (λ (b : Bool). if b then Found ForkRecord next (drop next input) else Fault at) (none (eqb_tells kind fork_kind)))
      ]
    where
      none : ((eqb kind fork_kind ≡ true) × (kind ≡ fork_kind)) ⊎ ((eqb kind fork_kind ≡ false) × (kind ≢ fork_kind)) → eqb kind fork_kind && leb (length (path_after head.path records) + 1) path_limit ≡ false
      none (inr f) = rw f.0
      none (inl t) = elim (leb_tells (length (path_after head.path records) + 1) path_limit) [
        | inl l ↦ absurd (let k = full t.1 in let m = l.1 in omega (arith, ap length shows.path_is))
        | inr l ↦ rw (t.0, l.0)
      ]

-- a record that is an entry is read as it
pub record_of_entry : (head : HeadValue) (records : List RecordValue) (input : List ℕ) (at next : ℕ) → IsRead (read_u8 at (drop at input)) input entry_record_kind next
    → read_record head records at (drop at input) ≡ read_entry_record head records next (drop next input)
unfolding read_record_body read_record
record_of_entry head records input at next r = ap (λ (x : Reading ℕ). chain x (λ kind next rest. read_record_body head records at kind next rest)) r.found

-- where the kind can't be read there is no record
pub record_refused : (head : HeadValue) (records : List RecordValue) (input : List ℕ) (at : ℕ) (fault : CodecFault) → IsRefused (read_u8 at (drop at input)) fault → IsRefused (read_record head records at (drop at input)) fault
unfolding read_record
record_refused head records input at fault h = refused_later (read_u8 at (drop at input)) (λ kind next rest. read_record_body head records at kind next rest) fault h

-- ---- all records

-- records are read so far, and the rest of the reading begins here
pub record IsReading (head : HeadValue) (begun : Reading (List RecordValue)) (input : List ℕ) (entries : List EntryValue) (path : List ℕ) (ticks : List (List ℕ × ℕ)) (place : ℕ) : Type 0 where
  pub records : List RecordValue
  pub left : ℕ
  pub enough : length input < place + left
  pub leads : begun ≡ read_records left head records place (drop place input)
  pub shows : Shows head records entries path ticks

module _ (head : HeadValue) (begun : Reading (List RecordValue)) (input : List ℕ) (entries : List EntryValue) (path : List ℕ) (ticks : List (List ℕ × ℕ)) (place : ℕ) (r : IsReading head begun input entries path ticks place) where
  -- where the gate is open there are steps left, and a record is read behind it
  record Opens (gate_open : Bool) : Type 0 where
    fewer : ℕ
    left_is : r.left ≡ suc fewer
    leads : begun ≡ chain (read_record head r.records (place + 1) (drop (place + 1) input)) (λ next at rest. read_records fewer head (r.records ++ next ∷ []) at rest)

  opens : (is_open : Bool) → HasGate input place is_open → is_open ≡ true → Opens is_open
  unfolding read_records
  opens is_open gate t = by r.left refl
    where
      by : (n : ℕ) → r.left ≡ n → Opens is_open
      by zero e = absurd (let k = gate.within in let l = r.enough in omega (arith, e))
      by (suc n) e = record {
        fewer = n;
        left_is = e;
        leads = r.leads ∙ (λ i. read_records (e i) head r.records place (gate.here i))
            ∙ ap (λ (b : Bool). if b then chain (read_record head r.records (place + 1) (drop (place + 1) input)) (λ next at rest. read_records n head (r.records ++ next ∷ []) at rest) else Found r.records place (gate.gate ∷ drop (place + 1) input)) (sym gate.is ∙ t);
      }

  -- the record behind an open gate is taken
  pub reading_more : (is_open : Bool) (more : List EntryValue) (after : List ℕ) (raised : List (List ℕ × ℕ)) (next : ℕ) → HasGate input place is_open → is_open ≡ true → place + 1 ≤ next
      → TakesRecord head r.records (read_record head r.records (place + 1) (drop (place + 1) input)) input more after raised next → IsReading head begun input more after raised next
  reading_more is_open more after raised next gate t further taken =
      let o = opens is_open gate t in
      let few = o.left_is in
      let l = r.enough in
      record {
        records = r.records ++ taken.taken ∷ [];
        left = o.fewer;
        enough = omega (arith, l, few, further);
        leads = o.leads ∙ ap (λ (x : Reading RecordValue). chain x (λ next' at rest. read_records o.fewer head (r.records ++ next' ∷ []) at rest)) taken.reads.found;
        shows = taken.shows;
      }

  -- a record that is missing behind an open gate is missing of all
  pub reading_missed : (is_open : Bool) (fault : CodecFault) → HasGate input place is_open → is_open ≡ true → IsRefused (read_record head r.records (place + 1) (drop (place + 1) input)) fault → IsRefused begun fault
  reading_missed is_open fault gate t h =
      let o = opens is_open gate t in
      refused_same begun (chain (read_record head r.records (place + 1) (drop (place + 1) input)) (λ next at rest. read_records o.fewer head (r.records ++ next ∷ []) at rest)) fault o.leads
      (refused_later (read_record head r.records (place + 1) (drop (place + 1) input)) (λ next at rest. read_records o.fewer head (r.records ++ next ∷ []) at rest) fault h)

  -- a closed gate ends the records
  pub reading_done : (is_open : Bool) → HasGate input place is_open → is_open ≡ false → FindsRecords head begun input entries path place
  unfolding read_records
  reading_done is_open gate f = record {
    records = r.records;
    reads = record { found = r.leads ∙ by r.left refl; within = let k = gate.within in omega arith };
    entries_are = r.shows.entries_are;
    path_is = r.shows.path_is;
  }
    where
      by : (n : ℕ) → r.left ≡ n → read_records r.left head r.records place (drop place input) ≡ Found r.records place (drop place input)
      by zero e = absurd (let k = gate.within in let l = r.enough in omega (arith, e))
      by (suc n) e =
          (λ i. read_records (e i) head r.records place (gate.here i))
          ∙ ap (λ (b : Bool). if b then chain (read_record head r.records (place + 1) (drop (place + 1) input)) (λ next at rest. read_records n head (r.records ++ next ∷ []) at rest) else Found r.records place (gate.gate ∷ drop (place + 1) input)) (sym gate.is ∙ f)
          ∙ ap (Found r.records place) (sym gate.here)

  -- where no gate is there, that is the fault
  pub reading_ended : (fault : CodecFault) → place ≤ length input → HasNoGate input place fault → IsRefused begun fault
  unfolding read_records
  reading_ended NoMemory within h = tt
  reading_ended (NotInGrammar at) within h = r.leads ∙ by r.left refl
    where
      by : (n : ℕ) → r.left ≡ n → read_records r.left head r.records place (drop place input) ≡ Fault at
      by zero e = absurd (let l = r.enough in omega (arith, e))
      by (suc n) e = (λ i. read_records (e i) head r.records place (h.0 i)) ∙ ap Fault (sym h.1)

-- reading begins
pub reading_begins : (head : HeadValue) (steps at : ℕ) (input : List ℕ) (entries : List EntryValue) (path : List ℕ) (ticks : List (List ℕ × ℕ)) → Shows head [] entries path ticks → length input < at + steps
    → IsReading head (read_records steps head [] at (drop at input)) input entries path ticks at
reading_begins head steps at input entries path ticks shows l = record { records = []; left = steps; enough = l; leads = refl; shows = shows }
