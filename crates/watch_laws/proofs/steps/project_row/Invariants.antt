use Rattle.std.proofs.Common.{◌≡◌, take}
use Rattle.jrql_ast.specs.QueryAnswers.{project}
use Rattle.watch_laws.proofs.steps.project_row.Given as goal

abbrev pub invariant-loop-variable : goal.invariant-loop-variable
invariant-loop-variable l = l.values.items ≡ project (take l.variable-index l.variables) l.row
