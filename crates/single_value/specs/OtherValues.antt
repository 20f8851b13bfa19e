-- Other values of the subject and the property of a triple.
use Rattle.std.specs.Prelude.{◌≢◌, List}
use Rattle.rdf_terms.specs.declared.terms.Triple.{Triple}
use Rattle.tree_clock.specs.Lists.{Has}
use Rattle.mld_ops.specs.declared.tagged.Tagged.{Tagged}
use Rattle.mld_ops.specs.Breaches.{IsSpared, IsValueOf}
use Rattle.mld_ops.specs.Effects.{EffectValue}

-- the other triple says another value of the triple's property for its subject
pub record IsOtherValue (triple other : Triple) : Type 0 where
  pub value : IsValueOf triple.s triple.p other
  pub differs : other.o ≢ triple.o

-- one of the triples does
pub record HasOtherValue (triples : List Triple) (triple : Triple) : Type 0 where
  pub other : Triple
  pub there : Has triples other
  pub is : IsOtherValue triple other

-- one that the effect spares does
pub record SparesOther (pairs : List Tagged) (effect : EffectValue) (triple : Triple) : Type 0 where
  pub other : Triple
  pub spared : IsSpared pairs effect other
  pub is : IsOtherValue triple other

-- the pair has another object than the triple, and the effect doesn't delete it
pub record IsSparedOther (effect : EffectValue) (triple : Triple) (pair : Tagged) : Type 0 where
  pub differs : pair.triple.o ≢ triple.o
  pub stands : ¬ Has effect.deletes pair
