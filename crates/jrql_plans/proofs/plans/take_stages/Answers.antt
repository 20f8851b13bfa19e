use Rattle.std.proofs.Common.{List, Bor, sym, subst}
use Rattle.tree_clock.specs.Lists.{Has}
use Rattle.jrql_ast.specs.declared.patterns.Filter.{Filter}
use Rattle.jrql_plans.specs.declared.plans.PatternStage.{PatternStage}
use Rattle.jrql_plans.specs.PlannedGroups.{AreTestsOf}
use Rattle.jrql_plans.specs.Planning.{AreTakenStages, is_closed}
use Rattle.jrql_plans.proofs.PlanSteps.{others_have, stages_more, taken_have, tests_more}
use Rattle.jrql_plans.proofs.plans.take_stages.Goals as goal

pub staging-preserved : goal.staging-preserved
staging-preserved c =
    let all = c.args.left.now.items in
    let start = c.args.bound.now.items in
    let stages = c.staging.stages.items in
    let stage = c.in_ok-take_stage.field-0 in
    let others = c.take_stage.new.left.items in
    let next = c.take_stage.new.bound.items in
    let closes = λ (test : Bor Filter). is_closed next test.now in
    let before = c.staging.open.items in
    let behind = c.take_stage.new.open.items in
    let tests = c.in_ok-take_stage.ensures.tests in (
      subst (λ (s : List PatternStage). AreTakenStages all start s others next) (sym c.in_ok-push.ensures.items)
          (stages_more all c.staging.left.items others start c.staging.bound.items next stages stage c.staging.invariant.0 c.in_ok-take_stage.ensures.stage),
      (λ filters h. subst (AreTestsOf filters) (sym c.in_ok-push.ensures.items)
          (tests_more filters stages stage (c.staging.invariant.1 filters h)
          (taken_have (λ (t : Bor Filter). Has filters t.now) closes before stage.tests.items behind tests (c.staging.invariant.2 filters h)))),
      (λ filters h. others_have (λ (t : Bor Filter). Has filters t.now) closes before stage.tests.items behind tests (c.staging.invariant.2 filters h)),
    )
