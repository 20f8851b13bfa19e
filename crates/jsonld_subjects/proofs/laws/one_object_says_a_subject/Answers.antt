use Rattle.jsonld_subjects.proofs.OneObject.{one_object}
use Rattle.jsonld_subjects.proofs.laws.one_object_says_a_subject.Goals as goal

pub returns : goal.returns
returns c = one_object
