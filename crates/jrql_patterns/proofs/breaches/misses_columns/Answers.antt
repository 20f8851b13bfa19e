use Rattle.jrql_patterns.proofs.MissedColumns.{columns_missed}
use Rattle.jrql_patterns.proofs.breaches.misses_columns.Goals as goal

pub returns : goal.returns
returns c = columns_missed c.args.read.now c.args.standing.now c.columns.result.now c.is_some_missing.result c.requires c.columns.ensures c.is_some_missing.ensures
