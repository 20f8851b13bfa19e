-- The meaning of a history for one who knows some of its dots (SU-Set, Ibanez, Skaf-Molli, Molli and Corby 2012).
use Rattle.std.specs.Prelude.{◌≡◌, List}
use Rattle.rdf_terms.specs.declared.terms.Triple.{Triple}
use Rattle.tree_clock.specs.declared.dots.Range.{Range}
use Rattle.tree_clock.specs.Lists.{Has, IsAscending}
use Rattle.tree_clock.specs.Dot.{Knows}
use Rattle.mld_ops.specs.declared.tagged.Tagged.{Tagged}
use Rattle.mld_ops.specs.Tagged.{tagged_cmp}
use Rattle.mld_ops.specs.History.{Operation, IsInserted}

-- the pair was inserted by a known operation, and no known operation deletes it
pub record IsKept (history : List Operation) (known : List Range) (pair : Tagged) : Type 0 where
  pub covered : Knows known pair.dot
  pub inserted : IsInserted history pair
  pub kept : (operation : Operation) → Has history operation → Knows known operation.dot → ¬ Has operation.deletes pair

-- the meaning: the pairs that are kept, ascending
pub record IsMeaning (history : List Operation) (known : List Range) (pairs : List Tagged) : Type 0 where
  pub ascending : IsAscending tagged_cmp pairs
  pub sound : (pair : Tagged) → Has pairs pair → IsKept history known pair
  pub complete : (pair : Tagged) → IsKept history known pair → Has pairs pair

-- the triple is present: it has a pair
pub record IsPresent (pairs : List Tagged) (triple : Triple) : Type 0 where
  pub pair : Tagged
  pub stands : Has pairs pair
  pub is : pair.triple ≡ triple
