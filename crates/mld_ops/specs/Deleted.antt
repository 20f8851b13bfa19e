-- Pairs that a known operation deletes.
use Rattle.tree_clock.specs.declared.dots.Range.{Range}
use Rattle.tree_clock.specs.Lists.{Has}
use Rattle.tree_clock.specs.Dot.{Knows}
use Rattle.std.specs.Prelude.{◌≡◌, List}
use Rattle.rdf_terms.specs.declared.terms.Triple.{Triple}
use Rattle.tree_clock.specs.declared.dots.Dot.{Dot}
use Rattle.mld_ops.specs.declared.tagged.Tagged.{Tagged}
use Rattle.mld_ops.specs.History.{Operation}

-- a known operation deletes the pair
pub record IsDeleted (history : List Operation) (known : List Range) (pair : Tagged) : Type 0 where
  pub operation : Operation
  pub stands : Has history operation
  pub knows : Knows known operation.dot
  pub deletes : Has operation.deletes pair

-- the pair has the dot and one of the triples, and no known operation deletes it
abbrev pub IsOf : List Operation → List Range → Dot → List Triple → Tagged → Type 0
IsOf history known dot triples pair = (pair.dot ≡ dot) × Has triples pair.triple × ¬ IsDeleted history known pair
