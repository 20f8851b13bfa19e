use Rattle.rdf_terms.specs.Literal.{xsd_integer}
use Rattle.jsonld_values.proofs.KnownTypes.{integer_datatype}
use Rattle.jsonld_values.proofs.datatypes.integer_type.Goals as goal

pub returns-clause-datatype : goal.returns-clause-datatype
unfolding xsd_integer
returns-clause-datatype c = integer_datatype
