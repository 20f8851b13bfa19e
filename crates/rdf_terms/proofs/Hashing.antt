-- What a literal feeds a hasher, by what it keeps beside its lexical form.
use Rattle.std.proofs.Common.{◌≡◌, ℕ, List, [], ◌++◌, refl}
use Rattle.std.specs.Hash as fed
use Rattle.rdf_terms.specs.declared.terms.Kind.{Kind}
use Rattle.rdf_terms.specs.declared.terms.Kind.TheVariants.{Plain, Datatype, Language}
use Rattle.rdf_terms.specs.Hashed.{datatype_fed, literal_fed}
use Rattle.rdf_terms.specs.Literal.{xsd_string}
use Rattle.rdf_terms.specs.LiteralView.{literal_of}

-- what a datatype or a tag feeds
abbrev pub kind_fed : Kind → fed.HashWrites
kind_fed Plain = []
kind_fed (Datatype iri) = datatype_fed iri
kind_fed (Language tag) = fed.str tag

plain_unfed : datatype_fed xsd_string ≡ []
unfolding xsd_string
plain_unfed = refl

pub fed_by_parts : (a : List ℕ) (k : Kind) → literal_fed (literal_of a k) ≡ fed.str a ++ kind_fed k
fed_by_parts a Plain = λ i. fed.str a ++ plain_unfed i
fed_by_parts a (Datatype iri) = refl
fed_by_parts a (Language tag) = refl
