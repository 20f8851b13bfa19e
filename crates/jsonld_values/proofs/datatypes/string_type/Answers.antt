use Rattle.rdf_terms.specs.Literal.{xsd_string}
use Rattle.jsonld_values.proofs.KnownTypes.{string_datatype}
use Rattle.jsonld_values.proofs.datatypes.string_type.Goals as goal

pub returns-clause-datatype : goal.returns-clause-datatype
unfolding xsd_string
returns-clause-datatype c = string_datatype
