use Rattle.jrql_plans.specs.Planning.{places_bound}
use Rattle.jrql_plans.proofs.FirstMost.{IsMostSoFar}
use Rattle.jrql_plans.proofs.taking.best_place.Given as goal

abbrev pub invariant-loop-place : goal.invariant-loop-place
invariant-loop-place l = IsMostSoFar (λ pattern. places_bound l.bound pattern.now) l.left l.place l.best l.most
