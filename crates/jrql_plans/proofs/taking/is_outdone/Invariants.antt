use Rattle.std.proofs.Common.{◌≡◌, drop}
use Rattle.std.specs.List.{list_any}
use Rattle.jrql_plans.specs.Planning.{has_more}
use Rattle.jrql_plans.proofs.taking.is_outdone.Given as goal

abbrev pub invariant-loop-pattern : goal.invariant-loop-pattern
invariant-loop-pattern l = list_any (has_more l.bound l.places) (drop l.pattern-index l.patterns) ≡ list_any (has_more l.bound l.places) l.patterns
