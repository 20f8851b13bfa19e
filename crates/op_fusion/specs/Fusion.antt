-- The fused entry of two entries of one path whose ranges meet: the net effect of both, made from the two entries alone (in the manner
-- of m-ld's fused operations).
use Rattle.std.specs.Prelude.{◌≡◌, ℕ, ◌+◌, ◌<◌, ◌≤◌, min, max, List, ◌⊎◌, ◌↔◌}
use Rattle.rdf_terms.specs.declared.terms.Triple.{Triple}
use Rattle.tree_clock.specs.declared.dots.Range.{Range}
use Rattle.tree_clock.specs.Lists.{Has, IsAscending}
use Rattle.tree_clock.specs.Dot.{IsIn}
use Rattle.tree_clock.specs.Clock.{ticks_of, IsClock}
use Rattle.mld_ops.specs.declared.tagged.Tagged.{Tagged}
use Rattle.mld_ops.specs.Tagged.{tagged_cmp, insert_cmp}
use Rattle.mld_ops.specs.Entry.{EntryValue}
use Rattle.mld_ops.specs.History.{dot_at}

-- the ranges may be fused: they have one path, and the tick after the first range is one that the second has, or is just before one
-- that it begins with; so the second may begin earlier than the first ends, and even earlier than it begins
pub record AreNeighbours (first second : Range) : Type 0 where
  pub path : first.path ≡ second.path
  pub joins : second.first ≤ first.last + 1
  pub beyond : first.last + 1 ≤ second.last

-- the range of both
abbrev pub joined : Range → Range → Range
joined first second = record { path = first.path; first = min first.first second.first; last = second.last }

-- the pair of a triple that an operation of the path inserts
abbrev pub pair_at : List ℕ → Triple → ℕ → Tagged
pair_at path triple tick = record { triple = triple; dot = dot_at path tick }

-- an insert of the second entry stays: its tick comes after the first range, or the first entry has it too, or its tick comes before
-- the first range and the first entry doesn't delete it
pub record StaysOfSecond (first second : EntryValue) (triple : Triple) (tick : ℕ) : Type 0 where
  pub stands : Has second.inserts (triple, tick)
  pub kept : (first.range.last < tick) ⊎ Has first.inserts (triple, tick)
      ⊎ ((tick < first.range.first) × ¬ Has first.deletes (pair_at first.range.path triple tick))

-- an insert of the first entry stays: its tick comes before the second range, and the second entry doesn't delete it
pub record StaysOfFirst (first second : EntryValue) (triple : Triple) (tick : ℕ) : Type 0 where
  pub stands : Has first.inserts (triple, tick)
  pub before : tick < second.range.first
  pub kept : ¬ Has second.deletes (pair_at first.range.path triple tick)

-- a delete of either entry stays where its dot is none of the range of both
pub record StaysDeleted (first second : EntryValue) (pair : Tagged) : Type 0 where
  pub stands : Has first.deletes pair ⊎ Has second.deletes pair
  pub outside : ¬ IsIn (joined first.range second.range) pair.dot

-- the entry is the fused one of the two
pub record Fused (first second fused : EntryValue) : Type 0 where
  pub range : fused.range ≡ joined first.range second.range
  pub inserts_ascend : IsAscending insert_cmp fused.inserts
  pub inserts : (triple : Triple) (tick : ℕ)
      → Has fused.inserts (triple, tick) ↔ (StaysOfSecond first second triple tick ⊎ StaysOfFirst first second triple tick)
  pub deletes_ascend : IsAscending tagged_cmp fused.deletes
  pub deletes : (pair : Tagged) → Has fused.deletes pair ↔ StaysDeleted first second pair
  -- the join of both times
  pub clock : IsClock fused.time
  pub time : (path : List ℕ) → ticks_of fused.time path ≡ max (ticks_of first.time path) (ticks_of second.time path)
