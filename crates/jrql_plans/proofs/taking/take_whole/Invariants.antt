use Rattle.std.proofs.Common.{take}
use Rattle.jrql_plans.specs.Planning.{AreSortedOut, is_whole}
use Rattle.jrql_plans.proofs.taking.take_whole.Given as goal

abbrev pub invariant-loop-pattern : goal.invariant-loop-pattern
invariant-loop-pattern l = AreSortedOut (λ pattern. is_whole l.bound pattern.now) (take l.pattern-index l.pattern-items) l.whole.items l.others.items
