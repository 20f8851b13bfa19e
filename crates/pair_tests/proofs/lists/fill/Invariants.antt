use Rattle.std.specs.Ordering.{nat_cmp}
use Rattle.tree_clock.specs.Lists.{IsAscending}
use Rattle.pair_tests.proofs.lists.fill.Given as goal

abbrev pub invariant-loop-value : goal.invariant-loop-value
invariant-loop-value l = IsAscending nat_cmp l.list.elements
