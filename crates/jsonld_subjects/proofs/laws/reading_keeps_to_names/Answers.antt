use Rattle.jsonld_subjects.proofs.KeptNames.{subjects_keep, object_keeps}
use Rattle.jsonld_subjects.proofs.laws.reading_keeps_to_names.Goals as goal

pub returns-clause-subjects : goal.returns-clause-subjects
returns-clause-subjects c = subjects_keep

pub returns-clause-objects : goal.returns-clause-objects
returns-clause-objects c = object_keeps
