-- The parts of a triple that were read, of any lengths, as the triple that they are.
use Rattle.rdf_terms.specs.declared.terms.Term.{Term}
use Rattle.rdf_terms.specs.declared.terms.Term.TheVariants as terms
use Rattle.rdf_terms.specs.declared.terms.Triple.{Triple}
use Rattle.rdf_terms.specs.declared.read.ObjectParts.{ObjectParts}
use Rattle.rdf_terms.specs.declared.read.ObjectParts.TheVariants as parts
use Rattle.rdf_terms.specs.declared.read.TripleParts.{TripleParts}
use Rattle.rdf_terms.specs.Literal.{Typed, Tagged, xsd_string}

-- the object of its parts
abbrev pub object_value : ObjectParts → Term
object_value (parts.Iri iri) = terms.Iri iri
object_value (parts.Plain lexical) = terms.Literal (Typed lexical xsd_string)
object_value (parts.Typed lexical datatype) = terms.Literal (Typed lexical datatype)
object_value (parts.Tagged lexical tag) = terms.Literal (Tagged lexical tag)

-- the triple of its parts
abbrev pub triple_value : TripleParts → Triple
triple_value p = record { s = p.s; p = p.p; o = object_value p.o }
