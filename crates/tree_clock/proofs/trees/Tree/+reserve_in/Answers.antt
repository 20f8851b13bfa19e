use Rattle.std.proofs.Common.{subst}
use Rattle.std.proofs.lemmas.Bool.{false≢true}
use Rattle.std.proofs.lemmas.Result.{on_ok_weaker}
use Rattle.tree_clock.specs.Path.{zero_letter, one_letter}
use Rattle.tree_clock.specs.Trees.{HasNodesBelow}
use Rattle.tree_clock.specs.declared.trees.Tree.{Tree}
use Rattle.tree_clock.proofs.TreeLemmas.{HasNodesOf-Leaf, HasNodesOf-letters, HasNodesBelow-grown}
use Rattle.tree_clock.proofs.trees.Tree.+reserve_in.Goals as goal

pub reserve_in-returns-in-Leaf-clause-ok : goal.reserve_in-returns-in-Leaf-clause-ok
reserve_in-returns-in-Leaf-clause-ok t c = rw c.in-Leaf.is (HasNodesOf-Leaf c.args.into.now c.in-Leaf.field-0 c.in-Leaf.field-1)

pub reserve_in-returns-in-Left-clause-ok : goal.reserve_in-returns-in-Left-clause-ok
reserve_in-returns-in-Left-clause-ok t c =
    let into = c.reserve_left.new.into in
    on_ok_weaker c.reserve_left.result (λ (h : HasNodesBelow zero_letter into c.deref.result.now).
    let low = subst (λ (son : Tree). HasNodesBelow zero_letter into son) c.deref.ensures h in
    HasNodesOf-letters into c.args.self.now (rw c.in-Left.is low) (rw c.in-Left.is (λ path k. absurd (false≢true k))))
    c.reserve_left.ensures.ok

pub reserve_in-returns-in-Right-clause-ok : goal.reserve_in-returns-in-Right-clause-ok
reserve_in-returns-in-Right-clause-ok t c =
    let into = c.reserve_right.new.into in
    on_ok_weaker c.reserve_right.result (λ (h : HasNodesBelow one_letter into c.deref-in-Right.result.now).
    let high = subst (λ (son : Tree). HasNodesBelow one_letter into son) c.deref-in-Right.ensures h in
    HasNodesOf-letters into c.args.self.now (rw c.in-Right.is (λ path k. absurd (false≢true k))) (rw c.in-Right.is high))
    c.reserve_right.ensures.ok

pub reserve_in-returns-in_ok-reserve_left-in-Fork-clause-ok :
    goal.reserve_in-returns-in_ok-reserve_left-in-Fork-clause-ok
reserve_in-returns-in_ok-reserve_left-in-Fork-clause-ok t c =
    let half = c.reserve_left-in-Fork.new.into in
    let into = c.reserve_right-in-Fork.new.into in
    let before = subst (λ (son : Tree). HasNodesBelow zero_letter half son) c.deref-in-Fork.ensures c.in_ok-reserve_left-in-Fork.ensures.ok in
    let low = HasNodesBelow-grown zero_letter half into c.in-Fork.zero.value c.reserve_right-in-Fork.ensures.grows before in
    on_ok_weaker c.reserve_right-in-Fork.result (λ (h : HasNodesBelow one_letter into c.deref-in-Fork-2.result.now).
    let high = subst (λ (son : Tree). HasNodesBelow one_letter into son) c.deref-in-Fork-2.ensures h in
    HasNodesOf-letters into c.args.self.now (rw c.in-Fork.is low) (rw c.in-Fork.is high))
    c.reserve_right-in-Fork.ensures.ok
