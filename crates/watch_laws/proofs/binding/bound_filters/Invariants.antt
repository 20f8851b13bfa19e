use Rattle.std.proofs.Common.{◌≡◌, map, take}
use Rattle.watch_laws.specs.Bound.{bound_filter}
use Rattle.watch_laws.proofs.binding.bound_filters.Given as goal

abbrev pub invariant-loop-filter : goal.invariant-loop-filter
invariant-loop-filter l = l.bound.items ≡ map (bound_filter l.row) (take l.filter-index l.filters)
