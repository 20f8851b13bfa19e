use Rattle.jsonld_subjects.proofs.OwnSubjects.{subjects_own}
use Rattle.jsonld_subjects.proofs.laws.each_subject_is_its_own.Goals as goal

pub returns : goal.returns
returns c = subjects_own
