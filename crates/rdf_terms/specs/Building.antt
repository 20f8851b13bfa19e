-- What a triple must be for its value to be made, and when a text is refused.
use Rattle.std.specs.Prelude.{ℕ, List, Bool, ◌&&◌, nat_le, IsTrue, length}
use Rattle.text_rules.specs.Iri.{is_absolute, iri_limit}
use Rattle.rdf_terms.specs.declared.faults.TripleFault.{TripleFault}
use Rattle.rdf_terms.specs.declared.faults.TripleFault.TheVariants.{NotTriple, TooLong, NoMemory}
use Rattle.rdf_terms.specs.declared.terms.Term.{Term}
use Rattle.rdf_terms.specs.declared.terms.Term.TheVariants as terms
use Rattle.rdf_terms.specs.declared.terms.Triple.{Triple}
use Rattle.rdf_terms.specs.Grammar.{SpellsTriple, IsTripleWithin}
use Rattle.rdf_terms.specs.Literal.{Typed, Tagged, IsLiteral, lexical_limit}
use Rattle.rdf_terms.specs.Places.{IsPlace}

-- no IRI of the term and no lexical form is too long
abbrev pub is_term_within : Term → Bool
is_term_within (terms.Iri iri) = nat_le (length iri) iri_limit
is_term_within (terms.Literal (Typed lexical datatype)) = nat_le (length lexical) lexical_limit && nat_le (length datatype) iri_limit
is_term_within (terms.Literal (Tagged lexical tag)) = nat_le (length lexical) lexical_limit

-- no IRI of the triple and no lexical form is too long
unfoldable pub is_within : Triple → Bool
is_within triple = nat_le (length triple.s) iri_limit && nat_le (length triple.p) iri_limit && is_term_within triple.o

-- a term whose value may be made
abbrev pub IsSoundTerm : Term → Type 0
IsSoundTerm (terms.Iri iri) = IsTrue (is_absolute iri)
IsSoundTerm (terms.Literal literal) = IsLiteral literal

-- a triple whose value may be made
pub record IsSoundTriple (triple : Triple) : Type 0 where
  pub subject : IsTrue (is_absolute triple.s)
  pub predicate : IsTrue (is_absolute triple.p)
  pub object : IsSoundTerm triple.o

-- the text spells no triple, and up to this place it begins one
pub record IsNoTriple (text : List ℕ) (place : ℕ) : Type 0 where
  pub unspelled : (triple : Triple) → ¬ SpellsTriple text triple
  pub exact : IsPlace text place

-- when a text is refused as a triple, want of memory aside
abbrev pub RefusesTriple : List ℕ → TripleFault → Type 0
RefusesTriple text (NotTriple place) = IsNoTriple text place
RefusesTriple text TooLong = (triple : Triple) × SpellsTriple text triple × (¬ IsTripleWithin triple)
RefusesTriple text NoMemory = Unit {0}
