-- The parts of an entry, each as one test of the program decides it.
use Rattle.std.specs.Prelude.{◌≡◌, ℕ, ◌≤◌, List, [], unwrap_or}
use Rattle.std.specs.List.{AllByRecursion}
use Rattle.rdf_terms.specs.declared.terms.Triple.{Triple}
use Rattle.tree_clock.specs.declared.dots.Range.{Range}
use Rattle.tree_clock.specs.Lists.{IsAscending}
use Rattle.tree_clock.specs.Dot.{IsIn}
use Rattle.tree_clock.specs.Clock.{ticks_of, Covers, IsClock, ClockValue}
use Rattle.mld_ops.specs.declared.tagged.Tagged.{Tagged}
use Rattle.mld_ops.specs.Tagged.{tagged_cmp, insert_cmp}

-- the range has a dot and no tick 0, and the time is a clock in which its path's ticks are its last
pub record HasOwnTicks (range : Range) (time : List (List ℕ × ℕ)) : Type 0 where
  pub first : 1 ≤ range.first
  pub last : range.first ≤ range.last
  pub clock : IsClock time
  pub own : ticks_of time range.path ≡ range.last

-- the deletes of an entry: ascending, covered, outside the range
pub record AreDeletes (range : Range) (time : List (List ℕ × ℕ)) (deletes : List Tagged) : Type 0 where
  pub ascend : IsAscending tagged_cmp deletes
  pub covered : AllByRecursion (λ (pair : Tagged). Covers time pair.dot) deletes
  pub outside : AllByRecursion (λ (pair : Tagged). ¬ IsIn range pair.dot) deletes

-- the inserts of an entry: ascending, at ticks of the range
pub record AreInserts (range : Range) (inserts : List (Triple × ℕ)) : Type 0 where
  pub ascend : IsAscending insert_cmp inserts
  pub inside : AllByRecursion (λ (insert : Triple × ℕ). (range.first ≤ insert.1) × (insert.1 ≤ range.last)) inserts

-- the range from a first tick to the last one of a clock's own path; the root stands in where it has none
abbrev pub own_range : ℕ → ClockValue → Range
own_range first time = let path = unwrap_or time.own [] in record { path = path; first = first; last = ticks_of time.ticks path }
