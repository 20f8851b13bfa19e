use Rattle.mld_ops.specs.Tagged.{tagged_cmp}
use Rattle.tree_clock.specs.Lists.{IsAscending}
use Rattle.pair_tests.proofs.made.fill.Given as goal

abbrev pub invariant-loop-row : goal.invariant-loop-row
invariant-loop-row l = IsAscending tagged_cmp l.list.items
