use Rattle.std.proofs.Common.{◌≡◌, ℕ, ◌↔◌, ◌⊎◌, map, Vec, Global}
use Rattle.std.proofs.lemmas.Result.{IfOk-weaker}
use Rattle.mld_ops.specs.Tagged.{insert_cmp}
use Rattle.rdf_terms.specs.declared.terms.Triple.{Triple}
use Rattle.tree_clock.specs.Lists.{Has, IsAscending}
use Rattle.op_fusion.specs.Fusion as fusion
use Rattle.op_fusion.proofs.Orders.{as_insert}
use Rattle.op_fusion.proofs.Staying.{all_stay, all_ascend}
use Rattle.op_fusion.proofs.fusing.fused_inserts.Goals as goal

pub returns-clause-ascending : goal.returns-clause-ascending
returns-clause-ascending c =
    let first = c.args.first.now in
    let second = c.args.second.now in
    let merged = c.in_ok-merge.field-0.items in
    IfOk-weaker c.inserts_of.result (λ (v : Vec (Triple × ℕ) Global). v.items ≡ map as_insert merged) (λ (v : Vec (Triple × ℕ) Global). IsAscending insert_cmp v.items)
    (λ v is. all_ascend first second c.in_ok-early.early.items c.in_ok-late.late.items merged v.items c.in_ok-merge.ensures.ascending c.in_ok-early.ensures.members c.in_ok-late.ensures.members
    c.in_ok-merge.ensures.members is) c.inserts_of.ensures

pub returns-clause-members : goal.returns-clause-members
returns-clause-members c =
    let first = c.args.first.now in
    let second = c.args.second.now in
    let merged = c.in_ok-merge.field-0.items in
    IfOk-weaker c.inserts_of.result (λ (v : Vec (Triple × ℕ) Global). v.items ≡ map as_insert merged)
    (λ (v : Vec (Triple × ℕ) Global). (triple : Triple) (tick : ℕ) → Has v.items (triple, tick) ↔ (fusion.StaysOfSecond first second triple tick ⊎ fusion.StaysOfFirst first second triple tick))
    (λ v is. all_stay first second c.in_ok-early.early.items c.in_ok-late.late.items merged v.items c.in_ok-early.ensures.members c.in_ok-late.ensures.members c.in_ok-merge.ensures.members is) c.inserts_of.ensures
