use Rattle.mld_ops.specs.Tagged.{tagged_cmp}
use Rattle.tree_clock.specs.Lists.{IsAscending}
use Rattle.data_tests.proofs.made.fill.Given as goal

abbrev pub invariant-loop-subject : goal.invariant-loop-subject
invariant-loop-subject l = IsAscending tagged_cmp l.list.items
