use Rattle.std.proofs.lemmas.Bool.{false≢true}
use Rattle.tree_clock.specs.Path.{zero_letter, one_letter}
use Rattle.tree_clock.proofs.TreeLemmas.{HasNodesBelow-son}
use Rattle.tree_clock.proofs.trees.Tree.+raise_in.Goals as goal

pub raise_left-unreachable-requires : goal.raise_left-unreachable-requires
raise_left-unreachable-requires t c =
    let son = HasNodesBelow-son zero_letter c.args.into.now c.args.self.now c.requires in
    let there = rw c.in-Leaf.is at son in absurd (false≢true there)

pub raise_left-unreachable-requires-in-Right : goal.raise_left-unreachable-requires-in-Right
raise_left-unreachable-requires-in-Right t c =
    let son = HasNodesBelow-son zero_letter c.args.into.now c.args.self.now c.requires in
    let there = rw c.in-Right.is at son in absurd (false≢true there)

pub raise_right-unreachable-requires : goal.raise_right-unreachable-requires
raise_right-unreachable-requires t c =
    let son = HasNodesBelow-son one_letter c.args.into.now c.args.self.now c.requires in
    let there = rw c.in-Leaf.is at son in absurd (false≢true there)

pub raise_right-unreachable-requires-in-Left : goal.raise_right-unreachable-requires-in-Left
raise_right-unreachable-requires-in-Left t c =
    let son = HasNodesBelow-son one_letter c.args.into.now c.args.self.now c.requires in
    let there = rw c.in-Left.is at son in absurd (false≢true there)
