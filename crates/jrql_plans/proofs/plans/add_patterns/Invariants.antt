use Rattle.std.proofs.Common.{◌≡◌, ◌++◌, map, take}
use Rattle.jrql_plans.proofs.plans.add_patterns.Given as goal

abbrev pub invariant-loop-pattern : goal.invariant-loop-pattern
invariant-loop-pattern l = map (λ x. x.now) l.left.items ≡ map (λ x. x.now) l.initial.left.items ++ take l.pattern-index l.patterns
