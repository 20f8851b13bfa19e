use Rattle.serde_json.specs.View.{view}
use Rattle.jrql_patterns.proofs.KeptQueries.{ok_in_form}
use Rattle.jrql_patterns.proofs.MeantQueries.{ok_means}
use Rattle.jrql_patterns.proofs.queries.read_query.Goals as goal

pub returns-clause-in_form : goal.returns-clause-in_form
returns-clause-in_form c = ok_in_form c.args.domain.now (view c.in_ok-value.value) c.query_said.result c.query_said.ensures.ok

pub returns-clause-meant : goal.returns-clause-meant
returns-clause-meant c =
    ok_means c.args.bytes.now c.args.domain.now (view c.in_ok-value.value) c.query_said.result c.in_ok-value.ensures.ok c.query_said.ensures.ok
