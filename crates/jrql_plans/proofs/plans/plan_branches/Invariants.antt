use Rattle.std.proofs.Common.{take}
use Rattle.jrql_plans.specs.Planning.{AreBranchPlans}
use Rattle.jrql_plans.proofs.plans.plan_branches.Given as goal

abbrev pub invariant-loop-branch : goal.invariant-loop-branch
invariant-loop-branch l = AreBranchPlans l.left l.open l.bound (take l.branch-index l.branches) l.plans.items
