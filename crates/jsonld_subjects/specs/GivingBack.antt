-- A subject that was written and is read again under the same context.
use Rattle.std.specs.Prelude.{◌≡◌, ℕ, List, IsPermutation, None, Ok, IsTrue, map}
use Rattle.text_rules.specs.Iri.{is_absolute}
use Rattle.jrql_ast.specs.declared.answers.Described.{Described}
use Rattle.jrql_ast.specs.declared.patterns.PatternTriple.{PatternTriple}
use Rattle.jrql_ast.specs.declared.patterns.Slot.TheVariants as slots
use Rattle.rdf_terms.specs.Literal.{LiteralValue, Typed, Tagged, IsLiteral}
use Rattle.rdf_terms.specs.declared.terms.Term.{Term}
use Rattle.rdf_terms.specs.declared.terms.Term.TheVariants as terms
use Rattle.rdf_terms.specs.declared.terms.Triple.{Triple}
use Rattle.serde_json.specs.Data.{Data}
use Rattle.jsonld_context.specs.Context.{ContextValue, prefix_of}
use Rattle.jsonld_context.specs.Texts.{before_colon}
use Rattle.jsonld_values.specs.Literals.{iri_slot}
use Rattle.jsonld_values.specs.VariableNames.{NamesValue}
use Rattle.jsonld_subjects.specs.SubjectReading.{Found, subjects_read}
use Rattle.jsonld_subjects.specs.declared.places.Place.{Place}

-- an IRI that is absolute, and whose scheme is no prefix of the context: expanding gives it back
pub record IsGivenBack (context : ContextValue) (iri : List ℕ) : Type 0 where
  pub absolute : IsTrue (is_absolute iri)
  pub scheme : prefix_of context.terms (before_colon iri) ≡ None

-- such a literal, by its datatype
abbrev pub IsLiteralGivenBack : ContextValue → LiteralValue → Type 0
IsLiteralGivenBack context (Typed lexical datatype) = IsLiteral (Typed lexical datatype) × IsGivenBack context datatype
IsLiteralGivenBack context (Tagged lexical tag) = IsLiteral (Tagged lexical tag)

abbrev pub IsTermGivenBack : ContextValue → Term → Type 0
IsTermGivenBack context (terms.Iri iri) = IsGivenBack context iri
IsTermGivenBack context (terms.Literal literal) = IsLiteralGivenBack context literal

-- a triple of a subject, all of whose parts are given back
pub record IsTripleGivenBack (context : ContextValue) (id : List ℕ) (triple : Triple) : Type 0 where
  pub subject : triple.s ≡ id
  pub property : IsGivenBack context triple.p
  pub value : IsTermGivenBack context triple.o

-- a triple as a pattern without a variable
abbrev pub pattern_of : Triple → PatternTriple
pattern_of triple = record { s = iri_slot triple.s; p = iri_slot triple.p; o = slots.Term triple.o }

-- what was written of a subject is read as its triples, each once, and meets no names
abbrev pub GivesBack : ContextValue → Place → NamesValue → Described → Data → Type 0
GivesBack context place names described written =
    (found : Found) × (subjects_read context place names written ≡ Ok found) × (found.names ≡ names) × IsPermutation (map pattern_of described.triples) found.triples
