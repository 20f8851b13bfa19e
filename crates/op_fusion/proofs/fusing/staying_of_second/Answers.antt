use Rattle.std.proofs.Common.{◌≡◌, ◌↔◌, ◌⊎◌, Vec, Global}
use Rattle.std.proofs.lemmas.Result.{IfOk-weaker}
use Rattle.mld_ops.specs.declared.tagged.Tagged.{Tagged}
use Rattle.tree_clock.specs.Lists.{Has}
use Rattle.op_fusion.specs.Fusion as fusion
use Rattle.op_fusion.proofs.Staying.{second_stays}
use Rattle.op_fusion.proofs.fusing.staying_of_second.Goals as goal

pub returns-clause-members : goal.returns-clause-members
returns-clause-members c =
    let first = c.args.first.now in
    let second = c.args.second.now in
    let behind = c.in_ok-behind.behind.items in
    let both = c.in_ok-both.both.items in
    let before = c.in_ok-before.before.items in
    let kept = c.in_ok-before-2.before.items in
    let some = c.in_ok-merge.field-0.items in
    let behind_members = rw (c.range-range.ensures.value, c.range.ensures.value) at c.in_ok-behind.ensures.members in
    let before_members = rw c.range-range.ensures.value at c.in_ok-before.ensures.members in
    let kept_members = rw c.deletes.ensures at c.in_ok-before-2.ensures.members in
    IfOk-weaker c.merge-2.result (λ (v : Vec Tagged Global). (pair : Tagged) → Has v.items pair ↔ (Has some pair ⊎ Has kept pair))
    (λ (v : Vec Tagged Global). (pair : Tagged) → Has v.items pair ↔ ((pair.dot.path ≡ first.range.path) × fusion.StaysOfSecond first second pair.triple pair.dot.tick))
    (λ v s. second_stays first second c.range-range.ensures.entry c.range.ensures.entry c.requires behind both before kept some v.items
    behind_members c.in_ok-both.ensures.members before_members kept_members c.in_ok-merge.ensures.members s) c.merge-2.ensures.members
