use Rattle.serde_json.specs.View.{view}
use Rattle.jrql_update.proofs.KeptUpdates.{ok_in_form}
use Rattle.jrql_update.proofs.MeantUpdates.{ok_means}
use Rattle.jrql_update.proofs.updates.read_update.Goals as goal

pub returns-clause-in_form : goal.returns-clause-in_form
returns-clause-in_form c = ok_in_form c.args.domain.now (view c.in_ok-value.value) c.update_said.result c.update_said.ensures.ok

pub returns-clause-meant : goal.returns-clause-meant
returns-clause-meant c =
    ok_means c.args.bytes.now c.args.domain.now (view c.in_ok-value.value) c.update_said.result c.in_ok-value.ensures.ok c.update_said.ensures.ok
