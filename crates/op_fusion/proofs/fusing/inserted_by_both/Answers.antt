use Rattle.std.proofs.Common.{◌≡◌, ◌↔◌, Vec, Global, true}
use Rattle.std.proofs.lemmas.Result.{IfOk-weaker}
use Rattle.mld_ops.specs.declared.tagged.Tagged.{Tagged}
use Rattle.tree_clock.specs.Lists.{Has}
use Rattle.op_fusion.specs.FusionPairs.{IsAsWanted}
use Rattle.op_fusion.proofs.Staying.{both_stay}
use Rattle.op_fusion.proofs.fusing.inserted_by_both.Goals as goal

pub returns-clause-members : goal.returns-clause-members
returns-clause-members c =
    let first = c.args.first.now in
    let second = c.args.second.now in
    let left = c.in_ok-left.left.items in
    let right = c.in_ok-right.right.items in
    let left_members = rw (c.range-low.ensures.value, c.range-high.ensures.value) at c.in_ok-left.ensures.members in
    let right_members = rw (c.range-low.ensures.value, c.range-high.ensures.value) at c.in_ok-right.ensures.members in
    let sifted = rw c.deref.ensures.value at c.sift.ensures.members in
    IfOk-weaker c.sift.result (λ (v : Vec Tagged Global). (pair : Tagged) → Has v.items pair ↔ (Has left pair × IsAsWanted true right pair))
    (λ (v : Vec Tagged Global). (pair : Tagged) → Has v.items pair
    ↔ ((pair.dot.path ≡ first.range.path) × Has first.inserts (pair.triple, pair.dot.tick) × Has second.inserts (pair.triple, pair.dot.tick)))
    (λ v s. both_stay first second c.range-high.ensures.entry c.range-low.ensures.entry c.requires left right v.items left_members right_members s) sifted
