-- A literal by its parts.
use Rattle.std.proofs.Common.{◌≡◌, ℕ, List, Some}
use Rattle.rdf_terms.specs.Literal.{LiteralValue, Typed, Tagged, lexical_form, datatype_of, language_of}

-- a literal that has a datatype is its lexical form with it
pub whole_typed : (literal : LiteralValue) (lexical datatype : List ℕ) → lexical ≡ lexical_form literal → Some datatype ≡ datatype_of literal → Typed lexical datatype ≡ literal
whole_typed (Typed form iri) lexical datatype l d = cc
whole_typed (Tagged form tag) lexical datatype l d = cc

-- and one that has a language tag with that
pub whole_tagged : (literal : LiteralValue) (lexical tag : List ℕ) → lexical ≡ lexical_form literal → Some tag ≡ language_of literal → Tagged lexical tag ≡ literal
whole_tagged (Typed form iri) lexical tag l d = cc
whole_tagged (Tagged form mark) lexical tag l d = cc
