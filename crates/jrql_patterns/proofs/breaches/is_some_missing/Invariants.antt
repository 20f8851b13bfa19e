use Rattle.std.proofs.Common.{◌≡◌, drop, not}
use Rattle.std.specs.List.{list_any}
use Rattle.jrql_patterns.specs.QueryReading.{is_among}
use Rattle.jrql_patterns.proofs.breaches.is_some_missing.Given as goal

abbrev pub invariant-loop-number : goal.invariant-loop-number
invariant-loop-number l = list_any (λ variable. not (is_among l.standing variable)) (drop l.number-index l.columns) ≡ list_any (λ variable. not (is_among l.standing variable)) l.columns
