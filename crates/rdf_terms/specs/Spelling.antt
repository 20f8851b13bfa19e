-- Terms and triples as they are written (N-Triples 1.1, canonical form): one spelling for each.
use Rattle.std.specs.Prelude.{ℕ, List, [], ◌∷◌, ◌++◌, if◌then◌else◌}
use Rattle.rdf_terms.specs.declared.terms.Kind.{Kind}
use Rattle.rdf_terms.specs.declared.terms.Kind.TheVariants.{Plain, Datatype, Language}
use Rattle.rdf_terms.specs.declared.terms.Term.{Term}
use Rattle.rdf_terms.specs.declared.terms.Term.TheVariants as terms
use Rattle.rdf_terms.specs.declared.terms.Triple.{Triple}
use Rattle.rdf_terms.specs.Literal.{LiteralValue, Typed, Tagged, xsd_string, is_same}
use Rattle.text_rules.specs.Escaped.{escaped}
use Rattle.text_rules.specs.Marks.{space, quote, dot, less, greater, at_sign, hat}

-- an IRI as it is written
abbrev pub iri_text : List ℕ → List ℕ
iri_text iri = less ∷ (iri ++ greater ∷ [])

-- what is written behind the quotes of a typed literal: nothing for xsd:string
abbrev pub datatype_text : List ℕ → List ℕ
datatype_text datatype = if is_same datatype xsd_string then [] else hat ∷ hat ∷ iri_text datatype

-- what is written behind the quotes of a literal
abbrev pub suffix_text : Kind → List ℕ
suffix_text Plain = []
suffix_text (Datatype iri) = datatype_text iri
suffix_text (Language tag) = at_sign ∷ tag

-- a literal as it is written
abbrev pub literal_text : LiteralValue → List ℕ
literal_text (Typed lexical datatype) = quote ∷ (escaped lexical ++ quote ∷ datatype_text datatype)
literal_text (Tagged lexical tag) = quote ∷ (escaped lexical ++ quote ∷ at_sign ∷ tag)

-- a term as it is written
unfoldable pub term_text : Term → List ℕ
term_text (terms.Iri iri) = iri_text iri
term_text (terms.Literal literal) = literal_text literal

-- a triple as it is written: one space between its terms and before the dot
unfoldable pub triple_text : Triple → List ℕ
triple_text triple = iri_text triple.s ++ space ∷ (iri_text triple.p ++ space ∷ (term_text triple.o ++ space ∷ dot ∷ []))
