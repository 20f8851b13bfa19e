use Rattle.jrql_ast.proofs.Permuted.{matches_permuted}
use Rattle.jrql_ast.proofs.laws.patterns_in_any_order.Goals as goal

pub returns : goal.returns
returns c = matches_permuted
