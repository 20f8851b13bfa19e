-- Single-valued properties: what an update breaks that gives a subject a second value. It is looked at by the one who makes the update, so
-- only what the update itself inserts can break anything.
use Rattle.std.specs.Prelude.{◌≡◌, ◌≢◌, ℕ, List, ◌⊎◌, Option, None, Some}
use Rattle.std.specs.Ordering.{ordering_then}
use Rattle.std.specs.declared.cmp.Ordering.{Ordering}
use Rattle.std.specs.declared.cmp.Ordering.TheVariants.{Greater}
use Rattle.rdf_terms.specs.declared.terms.Triple.{Triple}
use Rattle.rdf_terms.specs.Order.{iri_cmp}
use Rattle.tree_clock.specs.Lists.{Has}
use Rattle.mld_ops.specs.declared.tagged.Tagged.{Tagged}
use Rattle.mld_ops.specs.Effects.{EffectValue}

-- of the triple there is a pair that the effect doesn't delete
pub record IsSpared (pairs : List Tagged) (effect : EffectValue) (triple : Triple) : Type 0 where
  pub pair : Tagged
  pub stands : Has pairs pair
  pub spared : ¬ Has effect.deletes pair
  pub is : pair.triple ≡ triple

-- the triple is present behind the effect: it is spared, or inserted
abbrev pub IsPresentAfter : List Tagged → EffectValue → Triple → Type 0
IsPresentAfter pairs effect triple = IsSpared pairs effect triple ⊎ Has effect.inserts triple

-- the triple says a value of the property for the subject
pub record IsValueOf (subject property : List ℕ) (triple : Triple) : Type 0 where
  pub subject_is : triple.s ≡ subject
  pub property_is : triple.p ≡ property

-- the effect inserts a value of the property for the subject, which has two values or more behind it
pub record Breaks (pairs : List Tagged) (effect : EffectValue) (subject property : List ℕ) : Type 0 where
  pub inserted : Triple
  pub inserts : Has effect.inserts inserted
  pub inserted_is : IsValueOf subject property inserted
  pub one : Triple
  pub one_is : IsValueOf subject property one
  pub one_present : IsPresentAfter pairs effect one
  pub other : Triple
  pub other_is : IsValueOf subject property other
  pub other_present : IsPresentAfter pairs effect other
  pub differ : one.o ≢ other.o

-- subjects with a property, ordered by the subject, then by the property
abbrev pub breach_cmp : List ℕ × List ℕ → List ℕ × List ℕ → Ordering
breach_cmp place other = ordering_then (iri_cmp place.0 other.0) (iri_cmp place.1 other.1)

-- the first subject and property that an effect breaks, of these properties
pub record IsFirstBreach (properties : List (List ℕ)) (pairs : List Tagged) (effect : EffectValue) (place : List ℕ × List ℕ) : Type 0 where
  pub single : Has properties place.1
  pub breaks : Breaks pairs effect place.0 place.1
  pub first : (subject property : List ℕ) → Has properties property → Breaks pairs effect subject property
      → breach_cmp place (subject, property) ≢ Greater

-- an effect breaks none of these properties
abbrev pub BreaksNone : List (List ℕ) → List Tagged → EffectValue → Type 0
BreaksNone properties pairs effect = (subject property : List ℕ) → Has properties property → ¬ Breaks pairs effect subject property

-- what an effect breaks first, where it breaks any
abbrev pub BreaksFirst : List (List ℕ) → List Tagged → EffectValue → Option (List ℕ × List ℕ) → Type 0
BreaksFirst properties pairs effect None = BreaksNone properties pairs effect
BreaksFirst properties pairs effect (Some place) = IsFirstBreach properties pairs effect place

-- what an effect breaks first is one
abbrev pub OneBreach : Type 0
OneBreach = (properties : List (List ℕ)) (pairs : List Tagged) (effect : EffectValue) (found other : Option (List ℕ × List ℕ))
    → BreaksFirst properties pairs effect found → BreaksFirst properties pairs effect other → found ≡ other
