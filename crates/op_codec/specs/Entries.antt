-- Entries as bytes: the range, the time, the deletes, and the inserts, each a triple with its tick. What is left of an entry's
-- invariant is looked at once the whole entry is read, and a breach is a fault where the entry begins.
use Rattle.std.specs.Prelude.{ℕ, Bool, true, ◌&&◌, not, ◌==◌, nat_eq, nat_le, List, [], ◌∷◌, ◌++◌, None, if◌then◌else◌}
use Rattle.std.specs.Cmp.Lexicographic.{pointwise}
use Rattle.std.specs.List.{list_all}
use Rattle.std.specs.Ordering.{is_lt}
use Rattle.std.specs.declared.cmp.Ordering.{Ordering}
use Rattle.mld_ops.specs.Entry.{EntryValue}
use Rattle.mld_ops.specs.Tagged.{tagged_cmp, insert_cmp}
use Rattle.mld_ops.specs.declared.tagged.Tagged.{Tagged}
use Rattle.rdf_terms.specs.declared.terms.Triple.{Triple}
use Rattle.tree_clock.specs.Clock.{ticks_of}
use Rattle.tree_clock.specs.declared.dots.Dot.{Dot}
use Rattle.tree_clock.specs.declared.dots.Range.{Range}
use Rattle.op_codec.specs.Clocks.{tick_bytes, read_any_tick, clock_bytes, read_clock}
use Rattle.op_codec.specs.StoredLists.{list_bytes, is_above, read_list}
use Rattle.op_codec.specs.PairBytes.{is_dot_of, pairs_bytes, read_pairs}
use Rattle.op_codec.specs.Paths.{path_bytes, read_path}
use Rattle.op_codec.specs.Reading.{Reading, Found, Fault, chain}
use Rattle.op_codec.specs.Triples.{stored_triple, read_stored}

-- a range as it is written: its path, its first tick and its last
abbrev pub range_bytes : Range → List ℕ
range_bytes range = path_bytes range.path ++ (tick_bytes range.first ++ tick_bytes range.last)

-- a range, of any ticks
unfoldable pub read_range : ℕ → List ℕ → Reading Range
read_range place bytes =
    chain (read_path place bytes) (λ path at rest.
    chain (read_any_tick at rest) (λ first next more.
    chain (read_any_tick next more) (λ last end left. Found (record { path = path; first = first; last = last }) end left)))

-- an insert as it is written: its triple and its tick
abbrev pub insert_bytes : Triple × ℕ → List ℕ
insert_bytes insert = stored_triple insert.0 ++ tick_bytes insert.1

-- an insert, of any tick
unfoldable pub read_insert : ℕ → List ℕ → Reading (Triple × ℕ)
read_insert place bytes =
    chain (read_stored place bytes) (λ triple next rest.
    chain (read_any_tick next rest) (λ tick end left. Found (triple, tick) end left))

-- a list of inserts as it is written
unfoldable pub inserts_bytes : List (Triple × ℕ) → List ℕ
inserts_bytes inserts = list_bytes insert_bytes inserts

-- a list of inserts
unfoldable pub read_inserts : ℕ → List ℕ → Reading (List (Triple × ℕ))
read_inserts place bytes = read_list read_insert (is_above insert_cmp) place bytes

-- each item is below every later one
abbrev pub is_ascending : {X : Type 0} → (X → X → Ordering) → List X → Bool
is_ascending order [] = true
is_ascending order (item ∷ items) = list_all (λ later. is_lt (order item later)) items && is_ascending order items

-- the dot is one of the range
abbrev pub is_in : Range → Dot → Bool
is_in range dot = pointwise nat_eq dot.path range.path && nat_le range.first dot.tick && nat_le dot.tick range.last

-- the invariant of an entry whose time is a clock, as a test
unfoldable pub is_entry : EntryValue → Bool
is_entry entry =
    (nat_le 1 entry.range.first && nat_le entry.range.first entry.range.last && ticks_of entry.time entry.range.path == entry.range.last)
    && (is_ascending tagged_cmp entry.deletes && list_all (λ (pair : Tagged). is_dot_of entry.time pair.dot) entry.deletes && list_all (λ (pair : Tagged). not (is_in entry.range pair.dot)) entry.deletes)
    && (is_ascending insert_cmp entry.inserts && list_all (λ (insert : Triple × ℕ). nat_le entry.range.first insert.1 && nat_le insert.1 entry.range.last) entry.inserts)

-- an entry as it is written
unfoldable pub entry_bytes : EntryValue → List ℕ
entry_bytes entry = range_bytes entry.range ++ (clock_bytes entry.time ++ (pairs_bytes entry.deletes ++ inserts_bytes entry.inserts))

-- the entry of parts that were read, or a fault where they begin
abbrev pub entry_at : ℕ → EntryValue → ℕ → List ℕ → Reading EntryValue
entry_at place entry next rest = if is_entry entry then Found entry next rest else Fault place

-- an entry
unfoldable pub read_entry : ℕ → List ℕ → Reading EntryValue
read_entry place bytes =
    chain (read_range place bytes) (λ range at first.
    chain (read_clock at first) (λ time next second.
    chain (read_pairs None next second) (λ deletes behind third.
    chain (read_inserts behind third) (λ inserts end left.
    entry_at place (record { range = range; time = time; deletes = deletes; inserts = inserts }) end left))))
