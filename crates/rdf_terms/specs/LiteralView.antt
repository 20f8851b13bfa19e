-- A literal of the program as the value that contracts see.
use Rattle.std.specs.Prelude.{ℕ, List}
use Rattle.rdf_terms.specs.declared.terms.Kind.{Kind}
use Rattle.rdf_terms.specs.declared.terms.Kind.TheVariants.{Plain, Datatype, Language}
use Rattle.rdf_terms.specs.Literal.{LiteralValue, Typed, Tagged, xsd_string}

-- the lexical form with its datatype or tag
abbrev pub literal_of : List ℕ → Kind → LiteralValue
literal_of lexical Plain = Typed lexical xsd_string
literal_of lexical (Datatype iri) = Typed lexical iri
literal_of lexical (Language tag) = Tagged lexical tag
