use Rattle.std.proofs.Common.{take}
use Rattle.jrql_plans.specs.Planning.{AreSortedOut, is_closed}
use Rattle.jrql_plans.proofs.taking.take_closed.Given as goal

abbrev pub invariant-loop-test : goal.invariant-loop-test
invariant-loop-test l = AreSortedOut (λ test. is_closed l.bound test.now) (take l.test-index l.test-items) l.closed.items l.others.items
