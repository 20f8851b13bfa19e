use Rattle.std.proofs.Common.{◌≡◌, drop}
use Rattle.std.specs.List.{list_any}
use Rattle.jrql_patterns.specs.QueryReading.{is_apart}
use Rattle.jrql_patterns.proofs.breaches.is_some_apart.Given as goal

abbrev pub invariant-loop-target : goal.invariant-loop-target
invariant-loop-target l = list_any (is_apart l.names) (drop l.target-index l.targets) ≡ list_any (is_apart l.names) l.targets
