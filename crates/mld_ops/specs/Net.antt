-- The net effect of a range of operations of one path.
use Rattle.std.specs.Prelude.{◌≡◌, ℕ, ◌<◌, List, ◌⊎◌, ◌↔◌}
use Rattle.rdf_terms.specs.declared.terms.Triple.{Triple}
use Rattle.tree_clock.specs.declared.dots.Dot.{Dot}
use Rattle.tree_clock.specs.declared.dots.Range.{Range}
use Rattle.tree_clock.specs.Lists.{Has, IsAscending}
use Rattle.tree_clock.specs.Dot.{IsIn, Knows}
use Rattle.tree_clock.specs.Clock.{Covers}
use Rattle.mld_ops.specs.declared.tagged.Tagged.{Tagged}
use Rattle.mld_ops.specs.Tagged.{tagged_cmp, insert_cmp}
use Rattle.mld_ops.specs.Entry.{EntryValue}
use Rattle.mld_ops.specs.History.{Operation, dot_at, IsInserted}

-- the triple is inserted at the tick of the range, and no later operation of the range deletes that pair
pub record IsNetInsert (history : List Operation) (range : Range) (triple : Triple) (tick : ℕ) : Type 0 where
  pub inside : IsIn range (dot_at range.path tick)
  pub inserted : IsInserted history (record { triple = triple; dot = dot_at range.path tick })
  pub kept : (operation : Operation) → Has history operation → IsIn range operation.dot → tick < operation.dot.tick
      → ¬ Has operation.deletes (record { triple = triple; dot = dot_at range.path tick })

-- the pair is deleted by an operation of the range, and its dot is none of the range
pub record IsNetDelete (history : List Operation) (range : Range) (pair : Tagged) : Type 0 where
  pub operation : Operation
  pub stands : Has history operation
  pub inside : IsIn range operation.dot
  pub deletes : Has operation.deletes pair
  pub outside : ¬ IsIn range pair.dot

-- the dot is a cause of the range's last operation, or is that operation's own
pub record IsTime (history : List Operation) (range : Range) (dot : Dot) : Type 0 where
  pub last : Operation
  pub stands : Has history last
  pub is : last.dot ≡ dot_at range.path range.last
  pub cause : Knows last.causes dot ⊎ (dot ≡ dot_at range.path range.last)

-- the entry is the net effect of the range
pub record IsNet (history : List Operation) (range : Range) (entry : EntryValue) : Type 0 where
  pub same : entry.range ≡ range
  pub inserts_ascend : IsAscending insert_cmp entry.inserts
  pub inserts : (triple : Triple) (tick : ℕ) → Has entry.inserts (triple, tick) ↔ IsNetInsert history range triple tick
  pub deletes_ascend : IsAscending tagged_cmp entry.deletes
  pub deletes : (pair : Tagged) → Has entry.deletes pair ↔ IsNetDelete history range pair
  pub time : (dot : Dot) → Covers entry.time dot ↔ IsTime history range dot
