use Rattle.jrql_patterns.proofs.NameOrder.{columns_in_order}
use Rattle.jrql_patterns.proofs.laws.every_column_in_order.Goals as goal

pub returns : goal.returns
returns c = columns_in_order
