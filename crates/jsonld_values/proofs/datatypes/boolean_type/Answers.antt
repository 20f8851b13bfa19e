use Rattle.jsonld_values.specs.Literals.{xsd_boolean}
use Rattle.jsonld_values.proofs.KnownTypes.{boolean_datatype}
use Rattle.jsonld_values.proofs.datatypes.boolean_type.Goals as goal

pub returns-clause-datatype : goal.returns-clause-datatype
unfolding xsd_boolean
returns-clause-datatype c = boolean_datatype
