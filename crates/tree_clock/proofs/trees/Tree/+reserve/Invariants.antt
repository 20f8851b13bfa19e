use Rattle.std.proofs.Common.{◌-◌, length}
use Rattle.tree_clock.proofs.trees.Tree.+reserve.Given as goal

abbrev pub decreases-reserve : goal.decreases-reserve
decreases-reserve l = length l.path.now - l.depth
