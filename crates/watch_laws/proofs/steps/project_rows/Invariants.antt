use Rattle.std.proofs.Common.{◌≡◌, map, take}
use Rattle.jrql_ast.specs.QueryAnswers.{project}
use Rattle.watch_laws.proofs.steps.project_rows.Given as goal

abbrev pub invariant-loop-row : goal.invariant-loop-row
invariant-loop-row l = l.values.items ≡ map (project l.variables) (take l.row-index l.rows)
