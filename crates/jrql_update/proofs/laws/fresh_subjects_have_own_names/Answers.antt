use Rattle.jrql_update.proofs.OwnNames.{own_names}
use Rattle.jrql_update.proofs.laws.fresh_subjects_have_own_names.Goals as goal

pub returns : goal.returns
returns c = own_names
