use Rattle.node_run.proofs.Finding.{fails_as, finds_as}
use Rattle.node_run.proofs.given.find_in.Goals as goal

pub returns-clause-ok : goal.returns-clause-ok
returns-clause-ok c = finds_as c.in_ok-node_command.field-0 _ c.try_get_matches_from.result c.in_ok-node_command.ensures c.try_get_matches_from.ensures.matches

pub returns-clause-kinds : goal.returns-clause-kinds
returns-clause-kinds c = fails_as c.in_ok-node_command.field-0 _ c.try_get_matches_from.result c.in_ok-node_command.ensures c.try_get_matches_from.ensures.kinds
