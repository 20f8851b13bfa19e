use Rattle.std.proofs.Common.{◌-◌, length}
use Rattle.tree_clock.proofs.trees.Tree.+leq_elsewhere.Given as goal

abbrev pub decreases-leq_elsewhere : goal.decreases-leq_elsewhere
decreases-leq_elsewhere l = length l.path.now - l.depth
