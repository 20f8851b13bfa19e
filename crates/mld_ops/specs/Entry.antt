-- An entry: the net effect of the operations of a range, as a message or a journal carries it.
use Rattle.std.specs.Prelude.{◌≡◌, ℕ, ◌≤◌, List}
use Rattle.std.specs.List.{AllByRecursion}
use Rattle.rdf_terms.specs.declared.terms.Triple.{Triple}
use Rattle.tree_clock.specs.declared.dots.Range.{Range}
use Rattle.tree_clock.specs.Lists.{IsAscending}
use Rattle.tree_clock.specs.Dot.{IsIn}
use Rattle.tree_clock.specs.Clock.{ticks_of, Covers, IsClock}
use Rattle.mld_ops.specs.declared.tagged.Tagged.{Tagged}
use Rattle.mld_ops.specs.Tagged.{tagged_cmp, insert_cmp}

-- an entry as contracts see it: the range, the ticks of its time, the pairs that it deletes, and the triples that it
-- inserts, each with the tick of the operation that did so
pub record EntryValue : Type 0 where
  pub range : Range
  pub time : List (List ℕ × ℕ)
  pub deletes : List Tagged
  pub inserts : List (Triple × ℕ)

-- what every entry keeps
pub record IsEntry (entry : EntryValue) : Type 0 where
  pub first : 1 ≤ entry.range.first
  pub last : entry.range.first ≤ entry.range.last
  pub clock : IsClock entry.time
  pub own : ticks_of entry.time entry.range.path ≡ entry.range.last
  pub deletes_ascend : IsAscending tagged_cmp entry.deletes
  pub deletes_covered : AllByRecursion (λ (pair : Tagged). Covers entry.time pair.dot) entry.deletes
  pub deletes_outside : AllByRecursion (λ (pair : Tagged). ¬ IsIn entry.range pair.dot) entry.deletes
  pub inserts_ascend : IsAscending insert_cmp entry.inserts
  pub inserts_inside : AllByRecursion (λ (insert : Triple × ℕ). (entry.range.first ≤ insert.1) × (insert.1 ≤ entry.range.last)) entry.inserts
