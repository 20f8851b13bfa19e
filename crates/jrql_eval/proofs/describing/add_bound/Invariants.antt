use Rattle.std.proofs.Common.{◌≡◌, ◌++◌, map, take}
use Rattle.jrql_eval.specs.Asked.{bound_iris}
use Rattle.jrql_eval.proofs.describing.add_bound.Given as goal

abbrev pub invariant-loop-row : goal.invariant-loop-row
invariant-loop-row l = map (λ x. x.now) l.iris.items ≡ map (λ x. x.now) l.initial.iris.items ++ bound_iris l.variable (take l.row l.kept.rows)
