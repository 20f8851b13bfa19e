use Rattle.std.specs.Ordering.{nat_cmp}
use Rattle.tree_clock.specs.Lists.{IsAscending}
use Rattle.pair_tests.proofs.lists.are_done.Given as goal

abbrev pub invariant-loop-step : goal.invariant-loop-step
invariant-loop-step l = IsAscending nat_cmp l.list.elements
