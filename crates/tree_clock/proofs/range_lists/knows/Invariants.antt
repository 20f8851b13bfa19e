use Rattle.std.proofs.Common.{drop}
use Rattle.tree_clock.specs.Dot.{Knows}
use Rattle.tree_clock.proofs.range_lists.knows.Given as goal

abbrev pub invariant-loop-range : goal.invariant-loop-range
invariant-loop-range l = Knows l.ranges l.dot → Knows (drop l.range-index l.ranges) l.dot
