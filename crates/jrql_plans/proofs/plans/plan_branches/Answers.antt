use Rattle.std.proofs.Common.{◌∙◌, ◌++◌, ◌∷◌, [], ◌+◌, List, take, sym, ap, subst}
use Rattle.std.proofs.lemmas.List.{take_more}
use Rattle.jrql_ast.specs.declared.patterns.PatternTriple.{PatternTriple}
use Rattle.jrql_plans.specs.declared.plans.BranchPlan.{BranchPlan}
use Rattle.jrql_plans.specs.Planning.{AreBranchPlans, IsBranchPlan}
use Rattle.jrql_plans.proofs.PlanLaws.{branches_more}
use Rattle.jrql_plans.proofs.plans.plan_branches.Goals as goal

pub loop-branch-preserved : goal.loop-branch-preserved
loop-branch-preserved c =
    let left = c.args.left.now in
    let untested = c.args.open.now in
    let bound = c.args.bound.now in
    let branches = c.args.branches.now in
    let i = c.loop-branch.branch-index in
    let plans = c.loop-branch.plans.items in
    let plan = c.in_ok-plan_branch.field-0 in
    let branch = c.branch-item.result in
    subst (λ (z : List BranchPlan). AreBranchPlans left untested bound (take (i + 1) branches) z) (sym c.in_ok-push.ensures.items)
    (subst (λ (z : List (List PatternTriple)). AreBranchPlans left untested bound z (plans ++ plan ∷ []))
    (sym (take_more branches i branch c.loop-branch-test.true ∙ ap (λ z. take i branches ++ z ∷ []) (sym c.branch-item.is)))
    (branches_more left untested bound (take i branches) plans branch plan c.loop-branch.invariant
    (subst (λ (z : List PatternTriple). IsBranchPlan left untested bound z plan) c.as_slice.ensures c.in_ok-plan_branch.ensures)))
