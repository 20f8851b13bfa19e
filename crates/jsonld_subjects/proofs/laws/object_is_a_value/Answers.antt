use Rattle.jsonld_subjects.proofs.AloneIsValue.{any_key_alone}
use Rattle.jsonld_subjects.proofs.laws.object_is_a_value.Goals as goal

pub returns : goal.returns
returns c = any_key_alone
