use Rattle.std.proofs.Common.{◌≡◌, map, take}
use Rattle.jrql_plans.proofs.plans.all_filters.Given as goal

abbrev pub invariant-loop-filter : goal.invariant-loop-filter
invariant-loop-filter l = map (λ x. x.now) l.all.items ≡ take l.filter-index l.filters
