-- rdf:type is an absolute IRI.
use Rattle.std.proofs.Common.{IsTrue, refl}
use Rattle.text_rules.specs.Iri.{is_iri, is_absolute}
use Rattle.jsonld_subjects.specs.SubjectReading.{rdf_type}

pub type_absolute : IsTrue (is_absolute rdf_type)
unfolding rdf_type is_iri
type_absolute = refl
