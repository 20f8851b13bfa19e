use Rattle.std.proofs.Common.{◌≡◌, false, replicate}
use Rattle.jrql_plans.proofs.marks.none_bound.Given as goal

abbrev pub invariant-loop : goal.invariant-loop
invariant-loop l = l.bound.items ≡ replicate l.counter false
