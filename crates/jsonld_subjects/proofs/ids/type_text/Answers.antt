use Rattle.jsonld_subjects.specs.SubjectReading.{rdf_type}
use Rattle.jsonld_subjects.proofs.TypeProperty.{type_absolute}
use Rattle.jsonld_subjects.proofs.ids.type_text.Goals as goal

pub returns-clause-absolute : goal.returns-clause-absolute
unfolding rdf_type
returns-clause-absolute c = type_absolute
