-- Operations and histories (SU-Set, with causal delivery). A history has every operation ever made, the newest first.
use Rattle.std.specs.Prelude.{◌≡◌, ◌≢◌, ℕ, ◌<◌, ◌≤◌, List, [], ◌∷◌}
use Rattle.rdf_terms.specs.declared.terms.Triple.{Triple}
use Rattle.tree_clock.specs.declared.dots.Dot.{Dot}
use Rattle.tree_clock.specs.declared.dots.Range.{Range}
use Rattle.tree_clock.specs.Lists.{Has}
use Rattle.tree_clock.specs.Path.{IsProperPrefix}
use Rattle.tree_clock.specs.Dot.{Knows}
use Rattle.mld_ops.specs.declared.tagged.Tagged.{Tagged}

-- an operation: its dot, the dots known at its source (its causes), the pairs that it deletes and the triples that it
-- inserts, each tagged by the operation's dot
pub record Operation : Type 0 where
  pub dot : Dot
  pub causes : List Range
  pub deletes : List Tagged
  pub inserts : List Triple

-- the dot of a path and a tick
abbrev pub dot_at : List ℕ → ℕ → Dot
dot_at path tick = record { path = path; tick = tick }

-- the operation of the dot stands in the history
pub record IsDone (history : List Operation) (dot : Dot) : Type 0 where
  pub operation : Operation
  pub stands : Has history operation
  pub is : operation.dot ≡ dot

-- the pair was inserted by the operation of its dot
pub record IsInserted (history : List Operation) (pair : Tagged) : Type 0 where
  pub operation : Operation
  pub stands : Has history operation
  pub is : operation.dot ≡ pair.dot
  pub inserts : Has operation.inserts pair.triple

-- a set of dots of the history that contains the causes of each of its dots
pub record IsClosed (history : List Operation) (known : List Range) : Type 0 where
  pub done : (dot : Dot) → Knows known dot → IsDone history dot
  pub causes : (operation : Operation) → Has history operation → Knows known operation.dot
      → (dot : Dot) → Knows operation.causes dot → Knows known dot

-- what an operation keeps that comes after a history
pub record IsNext (history : List Operation) (operation : Operation) : Type 0 where
  -- its dot is new, and its tick is at least 1
  pub fresh : (other : Operation) → Has history other → other.dot ≢ operation.dot
  pub tick : 1 ≤ operation.dot.tick
  -- its causes stand earlier, are closed under causes, and contain every earlier tick of its path
  pub causes : IsClosed history operation.causes
  pub ticks : (tick : ℕ) → 1 ≤ tick → tick < operation.dot.tick → Knows operation.causes (dot_at operation.dot.path tick)
  -- they contain every dot whose path is a proper prefix of its path, and no dot of the history goes on from its path
  pub above : (other : Operation) → Has history other → IsProperPrefix other.dot.path operation.dot.path
      → Knows operation.causes other.dot
  pub below : (other : Operation) → Has history other → ¬ IsProperPrefix operation.dot.path other.dot.path
  -- each pair that it deletes was inserted by one of its causes
  pub deletes : (pair : Tagged) → Has operation.deletes pair → Knows operation.causes pair.dot
  pub deletes_inserted : (pair : Tagged) → Has operation.deletes pair → IsInserted history pair

-- each operation of a lawful history keeps this after those before it
abbrev pub IsLawful : List Operation → Type 0
IsLawful [] = Unit {0}
IsLawful (operation ∷ history) = IsNext history operation × IsLawful history
