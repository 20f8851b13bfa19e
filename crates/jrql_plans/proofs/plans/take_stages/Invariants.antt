use Rattle.std.proofs.Common.{length, All, List}
use Rattle.tree_clock.specs.Lists.{Has}
use Rattle.jrql_ast.specs.declared.patterns.Filter.{Filter}
use Rattle.jrql_plans.specs.PlannedGroups.{AreTestsOf}
use Rattle.jrql_plans.specs.Planning.{AreTakenStages}
use Rattle.jrql_plans.proofs.plans.take_stages.Given as goal

abbrev pub invariant-staging : goal.invariant-staging
invariant-staging l =
    AreTakenStages l.initial.left.items l.initial.bound.items l.stages.items l.left.items l.bound.items
    × ((filters : List Filter) → All (λ test. Has filters test.now) l.initial.open.items → AreTestsOf filters l.stages.items)
    × ((filters : List Filter) → All (λ test. Has filters test.now) l.initial.open.items → All (λ test. Has filters test.now) l.open.items)

abbrev pub decreases-staging : goal.decreases-staging
decreases-staging l = length l.left.items
