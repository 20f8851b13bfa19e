use Rattle.std.proofs.Common.{◌≡◌, map, take}
use Rattle.jrql_eval.specs.Asked.{all_targeted}
use Rattle.jrql_eval.proofs.describing.targeted.Given as goal

abbrev pub invariant-loop-target : goal.invariant-loop-target
invariant-loop-target l = map (λ x. x.now) l.iris.items ≡ all_targeted l.kept.rows (take l.target-index l.targets)
