use Rattle.tree_clock.proofs.TreeLemmas.{HasNode-root, son_of_fork}
use Rattle.tree_clock.proofs.trees.Tree.with_son.Goals as goal

pub returns-else-one-2-clause-son : goal.returns-else-one-2-clause-son
returns-else-one-2-clause-son c = rw c.if-one-2.false (HasNode-root c.in-Left.left.value)

pub returns-then-one-3-clause-son : goal.returns-then-one-3-clause-son
returns-then-one-3-clause-son c = rw c.if-one-3.true (HasNode-root c.in-Right.right.value)

pub returns-in-Fork-clause-son : goal.returns-in-Fork-clause-son
returns-in-Fork-clause-son c = son_of_fork c.args.one c.in-Fork.left.value c.in-Fork.right.value
