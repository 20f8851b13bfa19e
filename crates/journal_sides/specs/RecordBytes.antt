-- Records as bytes, each behind its gate: the entry of a range that was made or taken, or a fork of the clone's leaf.
use Rattle.std.specs.Prelude.{ℕ, zero, suc, ◌+◌, max, Bool, ◌&&◌, ◌||◌, not, ◌==◌, nat_eq, nat_le, List, [], ◌∷◌, ◌++◌, length, if◌then◌else◌}
use Rattle.std.specs.Cmp.Lexicographic.{pointwise}
use Rattle.std.specs.List.{list_all}
use Rattle.mld_ops.specs.Entry.{EntryValue}
use Rattle.mld_ops.specs.Ready.{last_dot}
use Rattle.tree_clock.specs.Clock.{ticks_of}
use Rattle.tree_clock.specs.Limits.{path_limit}
use Rattle.tree_clock.specs.Path.{zero_letter}
use Rattle.tree_clock.specs.declared.dots.Dot.{Dot}
use Rattle.op_codec.specs.Entries.{entry_bytes, read_entry}
use Rattle.op_codec.specs.Reading.{Reading, Found, Fault, chain, read_u8}
use Rattle.journal_sides.specs.Format.{open_gate, entry_record_kind, fork_kind}
use Rattle.journal_sides.specs.Heads.{HeadValue}

-- a record: an entry, or that the clone gave the half `1` of its leaf away and kept the half `0`
pub data RecordValue : Type 0 where
  EntryRecord : EntryValue → RecordValue
  ForkRecord : RecordValue

-- ---- as they are written

-- a record as it is written
unfoldable pub record_bytes : RecordValue → List ℕ
record_bytes (EntryRecord entry) = entry_record_kind ∷ entry_bytes entry
record_bytes ForkRecord = fork_kind ∷ []

-- records as they are written, each behind an open gate
abbrev pub blocks : List RecordValue → List ℕ
blocks [] = []
blocks (entry ∷ records) = (open_gate ∷ record_bytes entry) ++ blocks records

-- ---- what records do

-- the entries of records
abbrev pub entries_in : List RecordValue → List EntryValue
entries_in [] = []
entries_in (EntryRecord entry ∷ records) = entry ∷ entries_in records
entries_in (ForkRecord ∷ records) = entries_in records

-- the path of the clone: a fork adds a letter `0`
abbrev pub path_after : List ℕ → List RecordValue → List ℕ
path_after path [] = path
path_after path (EntryRecord entry ∷ records) = path_after path records
path_after path (ForkRecord ∷ records) = path_after (path ++ zero_letter ∷ []) records

-- ticks raised to a dot: where a path stands twice its first ticks count
abbrev pub raised_to : List (List ℕ × ℕ) → Dot → List (List ℕ × ℕ)
raised_to ticks dot = (dot.path, max (ticks_of ticks dot.path) dot.tick) ∷ ticks

-- ticks raised to the last ticks of entries
abbrev pub known_after : List (List ℕ × ℕ) → List EntryValue → List (List ℕ × ℕ)
known_after ticks [] = ticks
known_after ticks (entry ∷ entries) = known_after (raised_to ticks (last_dot entry.range)) entries

-- each path but one has ticks that are known
abbrev pub is_known_elsewhere : List (List ℕ × ℕ) → List ℕ → List (List ℕ × ℕ) → Bool
is_known_elsewhere ticks path time = list_all (λ (entry : List ℕ × ℕ). pointwise nat_eq entry.0 path || nat_le entry.1 (ticks_of ticks entry.0)) time

-- an entry is ready and not known, as a test
unfoldable pub is_ready_entry : List (List ℕ × ℕ) → EntryValue → Bool
is_ready_entry ticks entry =
    not (nat_le entry.range.last (ticks_of ticks entry.range.path)) && nat_le entry.range.first (ticks_of ticks entry.range.path + 1)
    && is_known_elsewhere ticks entry.range.path entry.time

-- ---- as they are read, behind the records that were read before

-- an entry that is ready and not known, or a fault where it begins
abbrev pub next_entry : List (List ℕ × ℕ) → ℕ → EntryValue → ℕ → List ℕ → Reading RecordValue
next_entry ticks place entry next rest = if is_ready_entry ticks entry then Found (EntryRecord entry) next rest else Fault place

-- an entry behind records
abbrev pub read_entry_record : HeadValue → List RecordValue → ℕ → List ℕ → Reading RecordValue
read_entry_record head records place bytes =
    chain (read_entry place bytes) (λ entry next rest. next_entry (known_after head.base.ticks (entries_in records)) place entry next rest)

-- what a record of a kind carries; another kind, and a fork past the limit of letters, are faults where the record begins
unfoldable pub read_record_body : HeadValue → List RecordValue → ℕ → ℕ → ℕ → List ℕ → Reading RecordValue
read_record_body head records place kind next rest =
    if kind == entry_record_kind then read_entry_record head records next rest
    else (if kind == fork_kind && nat_le (length (path_after head.path records) + 1) path_limit then Found ForkRecord next rest else Fault place)

-- a record
unfoldable pub read_record : HeadValue → List RecordValue → ℕ → List ℕ → Reading RecordValue
read_record head records place bytes = chain (read_u8 place bytes) (λ kind next rest. read_record_body head records place kind next rest)

-- Records up to the first closed gate, which begins what is left. Each has two bytes at least, so as many steps as there are bytes,
-- and one, are enough. A gate that is due and not there is a fault.
unfoldable pub read_records : ℕ → HeadValue → List RecordValue → ℕ → List ℕ → Reading (List RecordValue)
read_records zero head records place bytes = Fault place
read_records (suc steps) head records place [] = Fault place
read_records (suc steps) head records place (gate ∷ bytes) =
    if gate == open_gate
    then chain (read_record head records (place + 1) bytes) (λ next at rest. read_records steps head (records ++ next ∷ []) at rest)
    else Found records place (gate ∷ bytes)
