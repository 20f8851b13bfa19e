-- The datatypes of JSON's own values are absolute IRIs other than rdf:langString, and the first ones aren't xsd:double.
use Rattle.std.proofs.Common.{◌≡◌, false, IsTrue, refl}
use Rattle.text_rules.specs.Iri.{is_iri, is_absolute}
use Rattle.rdf_terms.specs.Literal.{xsd_string, xsd_integer, rdf_lang_string, is_same}
use Rattle.jsonld_values.specs.Literals.{IsDatatype, xsd_boolean, xsd_double}

pub string_datatype : IsDatatype xsd_string
unfolding xsd_string rdf_lang_string is_iri
string_datatype = (refl, refl)

pub boolean_datatype : IsDatatype xsd_boolean
unfolding xsd_boolean rdf_lang_string is_iri
boolean_datatype = (refl, refl)

pub integer_datatype : IsDatatype xsd_integer
unfolding xsd_integer rdf_lang_string is_iri
integer_datatype = (refl, refl)

pub double_absolute : IsTrue (is_absolute xsd_double)
unfolding xsd_double is_iri
double_absolute = refl

pub integer_apart : is_same xsd_integer xsd_double ≡ false
unfolding xsd_integer xsd_double
integer_apart = refl
