-- What is written for entries is read as them, and what is read was written so.
use Rattle.std.proofs.Common.{◌≡◌, ℕ, ◌+◌, List, [], ◌∷◌, ◌++◌, true, None, length, refl, sym, ap, ◌∙◌, subst, inl, inr}
use Rattle.std.proofs.lemmas.Bool.{cases_Bool}
use Rattle.std.specs.List.{AllByRecursion}
use Rattle.mld_ops.specs.Entry.{EntryValue}
use Rattle.mld_ops.specs.Tagged.{insert_cmp}
use Rattle.mld_ops.proofs.TaggedLaws.{insert_total}
use Rattle.mld_ops.specs.declared.tagged.Tagged.{Tagged}
use Rattle.rdf_terms.specs.declared.terms.Triple.{Triple}
use Rattle.tree_clock.specs.declared.dots.Range.{Range}
use Rattle.op_codec.specs.Clocks.{tick_bytes, read_any_tick, clock_bytes, read_clock}
use Rattle.op_codec.specs.Entries.{range_bytes, read_range, insert_bytes, read_insert, inserts_bytes, read_inserts, entry_bytes, entry_at, is_entry, read_entry}
use Rattle.op_codec.specs.CodecLaws.{IsReadBack, IsWritten, IsOneSpelling}
use Rattle.op_codec.specs.StoredLists.{is_above}
use Rattle.op_codec.specs.PairBytes.{pairs_bytes, read_pairs}
use Rattle.op_codec.specs.Paths.{path_bytes, read_path}
use Rattle.op_codec.specs.Reading.{Reading, Found, Fault, chain}
use Rattle.op_codec.specs.Stored.{ArePairs, IsRange, IsInsert, AreStoredInserts, IsStoredEntry}
use Rattle.op_codec.specs.Triples.{stored_triple, read_stored}
use Rattle.op_codec.proofs.EntryLaws.{entry_decided, entry_found}
use Rattle.op_codec.proofs.Shapes.{clock_of_stored}
use Rattle.op_codec.proofs.FieldTrips.{any_tick_back, any_tick_one}
use Rattle.op_codec.proofs.ListTrips.{fitting_from_ascending, ascending_from_fitting, list_back, list_one}
use Rattle.op_codec.proofs.PairTrips.{clock_back, clock_one, stored_back, stored_one, pairs_back, pairs_one}
use Rattle.op_codec.proofs.PathTrips.{path_back, path_one}
use Rattle.op_codec.proofs.Sequences.{then_back, map_back, Splits, splits, bytes_left, same_parts, fault_found, both_written, rest_moved}

-- each pair is covered where no clock is given
pub no_cover : (pairs : List Tagged) → AllByRecursion (λ (pair : Tagged). true ≡ true) pairs
no_cover [] = tt
no_cover (pair ∷ pairs) = (refl, no_cover pairs)

-- a list of pairs that no clock has to cover is read back
pub tagged_back : IsReadBack ArePairs pairs_bytes (read_pairs None)
tagged_back pairs place rest is = pairs_back None pairs place rest is (no_cover pairs)

-- and was written so
pub tagged_one : IsOneSpelling ArePairs pairs_bytes (read_pairs None)
tagged_one place bytes pairs next rest b h = (pairs_one None place bytes pairs next rest b h).0

-- ---- ranges

-- what is read behind a range's path
abbrev range_behind : List ℕ → ℕ → List ℕ → Reading Range
range_behind path at rest =
    chain (read_any_tick at rest) (λ first next more. chain (read_any_tick next more) (λ last end left. Found (record { path = path; first = first; last = last }) end left))

-- what is read behind a range's first tick
abbrev last_behind : List ℕ → ℕ → ℕ → List ℕ → Reading Range
last_behind path first next more = chain (read_any_tick next more) (λ last end left. Found (record { path = path; first = first; last = last }) end left)

-- a range is read back
pub range_back : IsReadBack IsRange range_bytes read_range
unfolding read_range
range_back range place rest is =
    let ticks = tick_bytes range.first ++ tick_bytes range.last in
    let middle = place + length (path_bytes range.path) in
    then_back read_path range_behind place (path_bytes range.path) ticks rest range.path range
    (path_back range.path place (ticks ++ rest) is.path)
    (then_back read_any_tick (last_behind range.path) middle (tick_bytes range.first) (tick_bytes range.last) rest range.first range
    (any_tick_back range.first middle (tick_bytes range.last ++ rest) is.first)
    (map_back (read_any_tick (middle + length (tick_bytes range.first)) (tick_bytes range.last ++ rest)) (λ (last : ℕ). let r : Range = record { path = range.path; first = range.first; last = last } in r) range.last (middle + length (tick_bytes range.first) + length (tick_bytes range.last)) rest
    (any_tick_back range.last (middle + length (tick_bytes range.first)) rest is.last)))

-- a range was written so
pub range_one : IsOneSpelling IsRange range_bytes read_range
unfolding read_range
range_one place bytes range next rest b h = by (splits (read_path place bytes) range_behind range next rest h)
  where
    by : Splits (read_path place bytes) range_behind range next rest → IsWritten IsRange range_bytes place bytes range next rest
    by s =
        let w = path_one place bytes s.value s.place s.rest b s.first in
        let b2 = bytes_left bytes (path_bytes s.value) s.rest b w.front in
        let t = splits (read_any_tick s.place s.rest) (last_behind s.value) range next rest s.second in
        let v = any_tick_one s.place s.rest t.value t.place t.rest b2 t.first in
        let b3 = bytes_left s.rest (tick_bytes t.value) t.rest b2 v.front in
        let u = splits (read_any_tick t.place t.rest) (λ last end left. Found (let r : Range = record { path = s.value; first = t.value; last = last } in r) end left) range next rest t.second in
        let x = any_tick_one t.place t.rest u.value u.place u.rest b3 u.first in
        let e = same_parts (let r : Range = record { path = s.value; first = t.value; last = u.value } in r) range u.place next u.rest rest u.second in
        let l = e.rest_is in
        let back = both_written (tick_bytes t.value) (tick_bytes u.value) s.place t.place u.place s.rest t.rest u.rest v.front v.next_is x.front x.next_is in
        let both = both_written (path_bytes s.value) (tick_bytes t.value ++ tick_bytes u.value) place s.place u.place bytes s.rest u.rest w.front w.next_is back.front back.next_is in
        subst (λ (r : Range). IsWritten IsRange range_bytes place bytes r next rest) e.value (record {
          value_is = record { path = w.value_is; first = v.value_is; last = x.value_is };
          front = both.front ∙ ap (λ (m : List ℕ). (path_bytes s.value ++ (tick_bytes t.value ++ tick_bytes u.value)) ++ m) l;
          next_is = sym e.place_is ∙ both.next_is;
        })

-- ---- inserts

-- an insert is read back
insert_back : IsReadBack IsInsert insert_bytes read_insert
unfolding read_insert
insert_back insert place rest is =
    let middle = place + length (stored_triple insert.0) in
    then_back read_stored (λ triple next rest. chain (read_any_tick next rest) (λ tick end left. Found (triple, tick) end left)) place (stored_triple insert.0) (tick_bytes insert.1) rest insert.0 insert
    (stored_back insert.0 place (tick_bytes insert.1 ++ rest) is.triple)
    (map_back (read_any_tick middle (tick_bytes insert.1 ++ rest)) (λ (tick : ℕ). (insert.0, tick)) insert.1 (middle + length (tick_bytes insert.1)) rest (any_tick_back insert.1 middle rest is.tick))

-- an insert was written so
insert_one : IsOneSpelling IsInsert insert_bytes read_insert
unfolding read_insert
insert_one place bytes insert next rest b h =
    by (splits (read_stored place bytes) (λ triple next rest. chain (read_any_tick next rest) (λ tick end left. Found (triple, tick) end left)) insert next rest h)
  where
    by : Splits (read_stored place bytes) (λ triple next rest. chain (read_any_tick next rest) (λ tick end left. Found (triple, tick) end left)) insert next rest → IsWritten IsInsert insert_bytes place bytes insert next rest
    by s =
        let w = stored_one place bytes s.value s.place s.rest b s.first in
        let t = splits (read_any_tick s.place s.rest) (λ tick end left. Found (s.value, tick) end left) insert next rest s.second in
        let v = any_tick_one s.place s.rest t.value t.place t.rest (bytes_left bytes (stored_triple s.value) s.rest b w.front) t.first in
        let e = same_parts (s.value, t.value) insert t.place next t.rest rest t.second in
        let l = e.rest_is in
        let both = both_written (stored_triple s.value) (tick_bytes t.value) place s.place t.place bytes s.rest t.rest w.front w.next_is v.front v.next_is in
        subst (λ (i : Triple × ℕ). IsWritten IsInsert insert_bytes place bytes i next rest) e.value (record {
          value_is = record { triple = w.value_is; tick = v.value_is };
          front = both.front ∙ ap (λ (m : List ℕ). (stored_triple s.value ++ tick_bytes t.value) ++ m) l;
          next_is = sym e.place_is ∙ both.next_is;
        })

-- a list of inserts is read back
pub inserts_back : IsReadBack AreStoredInserts inserts_bytes read_inserts
unfolding inserts_bytes read_inserts
inserts_back inserts place rest is =
    list_back IsInsert insert_bytes read_insert (is_above insert_cmp) insert_back inserts place rest is.count is.each (fitting_from_ascending insert_cmp [] inserts is.ascending)

-- a list of inserts was written so
pub inserts_one : IsOneSpelling AreStoredInserts inserts_bytes read_inserts
unfolding inserts_bytes read_inserts
inserts_one place bytes inserts next rest b h =
    let w = list_one IsInsert insert_bytes read_insert (is_above insert_cmp) insert_one place bytes inserts next rest b h in
    record {
      value_is = record { count = w.count; each = w.each; ascending = ascending_from_fitting insert_cmp insert_total [] inserts tt w.fitting };
      front = w.front;
      next_is = w.next_is;
    }

-- ---- entries

-- the entry of these parts
abbrev entry_of : Range → List (List ℕ × ℕ) → List Tagged → List (Triple × ℕ) → EntryValue
entry_of range time deletes inserts = record { range = range; time = time; deletes = deletes; inserts = inserts }

-- what is read behind the deletes of an entry that begins at a place
abbrev behind_deletes : ℕ → Range → List (List ℕ × ℕ) → List Tagged → ℕ → List ℕ → Reading EntryValue
behind_deletes place range time deletes at rest = chain (read_inserts at rest) (λ inserts end left. entry_at place (entry_of range time deletes inserts) end left)

-- what is read behind its time
abbrev behind_time : ℕ → Range → List (List ℕ × ℕ) → ℕ → List ℕ → Reading EntryValue
behind_time place range time at rest = chain (read_pairs None at rest) (λ deletes end left. behind_deletes place range time deletes end left)

-- what is read behind its range
abbrev behind_range : ℕ → Range → ℕ → List ℕ → Reading EntryValue
behind_range place range at rest = chain (read_clock at rest) (λ time end left. behind_time place range time end left)

-- an entry is read back
pub entry_back : IsReadBack IsStoredEntry entry_bytes read_entry
unfolding entry_bytes read_entry
entry_back entry place rest is =
    let range = range_bytes entry.range in
    let time = clock_bytes entry.time in
    let deletes = pairs_bytes entry.deletes in
    let inserts = inserts_bytes entry.inserts in
    let first = place + length range in
    let second = first + length time in
    let third = second + length deletes in
    then_back read_range (behind_range place) place range (time ++ (deletes ++ inserts)) rest entry.range entry
    (range_back entry.range place ((time ++ (deletes ++ inserts)) ++ rest) is.range)
    (then_back read_clock (behind_time place entry.range) first time (deletes ++ inserts) rest entry.time entry
    (clock_back entry.time first ((deletes ++ inserts) ++ rest) is.time)
    (then_back (read_pairs None) (behind_deletes place entry.range entry.time) second deletes inserts rest entry.deletes entry
    (pairs_back None entry.deletes second (inserts ++ rest) is.deletes (no_cover entry.deletes))
    (ap (λ (r : Reading (List (Triple × ℕ))). chain r (λ inserts end left. entry_at place (entry_of entry.range entry.time entry.deletes inserts) end left)) (inserts_back entry.inserts third rest is.inserts)
    ∙ entry_found place (third + length inserts) entry rest is.entry_kept)))

-- an entry was written so
pub entry_one : IsOneSpelling IsStoredEntry entry_bytes read_entry
unfolding entry_bytes read_entry
entry_one place bytes entry next rest b h = by (splits (read_range place bytes) (behind_range place) entry next rest h)
  where
    by : Splits (read_range place bytes) (behind_range place) entry next rest → IsWritten IsStoredEntry entry_bytes place bytes entry next rest
    by s =
        let w = range_one place bytes s.value s.place s.rest b s.first in
        let b2 = bytes_left bytes (range_bytes s.value) s.rest b w.front in
        let t = splits (read_clock s.place s.rest) (behind_time place s.value) entry next rest s.second in
        let v = clock_one s.place s.rest t.value t.place t.rest b2 t.first in
        let b3 = bytes_left s.rest (clock_bytes t.value) t.rest b2 v.front in
        let u = splits (read_pairs None t.place t.rest) (behind_deletes place s.value t.value) entry next rest t.second in
        let x = (pairs_one None t.place t.rest u.value u.place u.rest b3 u.first).0 in
        let b4 = bytes_left t.rest (pairs_bytes u.value) u.rest b3 x.front in
        let k = splits (read_inserts u.place u.rest) (λ inserts end left. entry_at place (entry_of s.value t.value u.value inserts) end left) entry next rest u.second in
        let y = inserts_one u.place u.rest k.value k.place k.rest b4 k.first in
        let value = entry_of s.value t.value u.value k.value in
        let last = both_written (pairs_bytes u.value) (inserts_bytes k.value) t.place u.place k.place t.rest u.rest k.rest x.front x.next_is y.front y.next_is in
        let more = both_written (clock_bytes t.value) (pairs_bytes u.value ++ inserts_bytes k.value) s.place t.place k.place s.rest t.rest k.rest v.front v.next_is last.front last.next_is in
        let both = both_written (range_bytes s.value) (clock_bytes t.value ++ (pairs_bytes u.value ++ inserts_bytes k.value)) place s.place k.place bytes s.rest k.rest w.front w.next_is more.front more.next_is in
        elim (cases_Bool (is_entry value)) [
          | inr f ↦ fault_found (Fault place) place next entry rest refl (rw f at k.second)
          | inl g ↦
              let e = same_parts value entry k.place next k.rest rest (rw g at k.second) in
              let l = e.rest_is in
              subst (λ (n : EntryValue). IsWritten IsStoredEntry entry_bytes place bytes n next rest) e.value (record {
                value_is = record { range = w.value_is; time = v.value_is; deletes = x.value_is; inserts = y.value_is; entry_kept = (entry_decided value (clock_of_stored t.value v.value_is)).0 g };
                front = rest_moved (entry_bytes value) bytes k.rest rest both.front l;
                next_is = sym e.place_is ∙ both.next_is;
              })
        ]
