use Rattle.std.proofs.Common.{◌≡◌, [], drop, arith}
use Rattle.std.proofs.lemmas.List.{drop_all}
use Rattle.tree_clock.proofs.TreeLemmas.{HasNode-root}
use Rattle.tree_clock.proofs.trees.Tree.+reserve.Goals as goal

pub returns-then-depth-len-clause-ok : goal.returns-then-depth-len-clause-ok
returns-then-depth-len-clause-ok t c =
    let none : drop c.args.depth c.args.path.now ≡ [] = drop_all c.args.depth c.args.path.now (omega arith) in
    rw none (HasNode-root c.args.self.now)
