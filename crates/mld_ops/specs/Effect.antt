-- The effect of one operation as an entry carries it.
use Rattle.std.specs.Prelude.{◌≡◌, ℕ, List, ◌⊎◌, ◌↔◌}
use Rattle.rdf_terms.specs.declared.terms.Triple.{Triple}
use Rattle.tree_clock.specs.declared.dots.Dot.{Dot}
use Rattle.tree_clock.specs.declared.dots.Range.{Range}
use Rattle.tree_clock.specs.Lists.{Has}
use Rattle.tree_clock.specs.Dot.{Knows}
use Rattle.tree_clock.specs.Clock.{Covers}
use Rattle.mld_ops.specs.declared.tagged.Tagged.{Tagged}
use Rattle.mld_ops.specs.Entry.{EntryValue}
use Rattle.mld_ops.specs.History.{Operation}

-- the range of one dot
abbrev pub range_of : Dot → Range
range_of dot = record { path = dot.path; first = dot.tick; last = dot.tick }

-- the entry deletes what the operation deletes, inserts what it inserts at its tick, and its time covers the operation's
-- causes and its own dot
pub record IsEffect (operation : Operation) (entry : EntryValue) : Type 0 where
  pub deletes : (pair : Tagged) → Has entry.deletes pair ↔ Has operation.deletes pair
  pub inserts : (triple : Triple) (tick : ℕ) → Has entry.inserts (triple, tick) ↔ ((tick ≡ operation.dot.tick) × Has operation.inserts triple)
  pub time : (dot : Dot) → Covers entry.time dot ↔ (Knows operation.causes dot ⊎ (dot ≡ operation.dot))

-- the pairs behind a change are those before it that it doesn't delete, and those that it inserts
abbrev pub PairsAfter : List Tagged → List Tagged → (Tagged → Type 0) → List Tagged → Type 0
PairsAfter before deletes inserts after = (pair : Tagged) → Has after pair ↔ ((Has before pair × ¬ Has deletes pair) ⊎ inserts pair)

-- the pairs behind an operation
abbrev pub IsAfter : Operation → List Tagged → List Tagged → Type 0
IsAfter operation before after =
    PairsAfter before operation.deletes (λ pair. (pair.dot ≡ operation.dot) × Has operation.inserts pair.triple) after
