use Rattle.std.proofs.Common.{◌≡◌, drop}
use Rattle.std.specs.List.{list_any}
use Rattle.jrql_patterns.specs.QueryReading.{is_asked}
use Rattle.jrql_patterns.proofs.breaches.is_some_asked.Given as goal

abbrev pub invariant-loop-target : goal.invariant-loop-target
invariant-loop-target l = list_any is_asked (drop l.target-index l.targets) ≡ list_any is_asked l.targets
