use Rattle.std.proofs.Common.{refl}
use Rattle.tree_clock.proofs.TreeLemmas.{son_of_left, son_of_right, son_of_fork}
use Rattle.tree_clock.proofs.trees.Tree.has_son.Goals as goal

pub returns-in-Left : goal.returns-in-Left
returns-in-Left c = rw c.in-Left.is (son_of_left c.args.one c.in-Left.field-2.value)

pub returns-in-Right : goal.returns-in-Right
returns-in-Right c = rw c.in-Right.is (son_of_right c.args.one c.in-Right.field-2.value)

pub returns-in-Fork : goal.returns-in-Fork
returns-in-Fork c = rw c.in-Fork.is (λ h. son_of_fork c.args.one c.in-Fork.field-2.value c.in-Fork.field-3.value, λ h. refl)
