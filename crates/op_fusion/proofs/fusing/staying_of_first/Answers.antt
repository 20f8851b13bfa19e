use Rattle.std.proofs.Common.{◌≡◌, ◌↔◌, Vec, Global, false}
use Rattle.std.proofs.lemmas.Result.{IfOk-weaker}
use Rattle.mld_ops.specs.declared.tagged.Tagged.{Tagged}
use Rattle.tree_clock.specs.Lists.{Has}
use Rattle.op_fusion.specs.Fusion as fusion
use Rattle.op_fusion.specs.FusionPairs.{IsAsWanted}
use Rattle.op_fusion.proofs.Staying.{first_stays}
use Rattle.op_fusion.proofs.fusing.staying_of_first.Goals as goal

pub returns-clause-members : goal.returns-clause-members
returns-clause-members c =
    let first = c.args.first.now in
    let second = c.args.second.now in
    let before = c.in_ok-before.before.items in
    let members = rw c.range.ensures.value at c.in_ok-before.ensures.members in
    let sifted = rw c.deletes.ensures at c.sift.ensures.members in
    IfOk-weaker c.sift.result (λ (v : Vec Tagged Global). (pair : Tagged) → Has v.items pair ↔ (Has before pair × IsAsWanted false second.deletes pair))
    (λ (v : Vec Tagged Global). (pair : Tagged) → Has v.items pair ↔ ((pair.dot.path ≡ first.range.path) × fusion.StaysOfFirst first second pair.triple pair.dot.tick))
    (λ v s. first_stays first second c.inserted_within.ensures.entry c.range.ensures.entry c.requires before v.items members s) sifted
