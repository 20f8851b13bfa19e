use Rattle.std.proofs.Common.{◌≡◌, ◌++◌, map, take}
use Rattle.watch_laws.specs.Bound.{bound_pattern}
use Rattle.watch_laws.proofs.binding.add_patterns.Given as goal

abbrev pub invariant-loop-pattern : goal.invariant-loop-pattern
invariant-loop-pattern l = l.bound.items ≡ l.initial.bound.items ++ map (bound_pattern l.row) (take l.pattern-index l.patterns)
