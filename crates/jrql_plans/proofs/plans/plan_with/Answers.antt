use Rattle.std.proofs.Common.{◌∙◌, ◌++◌, List, Bool, Bor, false, length, replicate, ap, subst}
use Rattle.tree_clock.specs.Lists.{Has}
use Rattle.jrql_ast.specs.declared.patterns.Filter.{Filter}
use Rattle.jrql_ast.specs.declared.patterns.PatternTriple.{PatternTriple}
use Rattle.jrql_ast.specs.InForm.{IsPatternWithin, variables_of}
use Rattle.jrql_plans.specs.Planning.{AreBranchPlans, AreSortedOut, is_closed, is_whole}
use Rattle.jrql_plans.proofs.PlanLaws.{length_of_none, plan_made, within_given}
use Rattle.jrql_plans.proofs.PlanSteps.{all_members, others_have, taken_have}
use Rattle.jrql_plans.proofs.plans.plan_with.Goals as goal

pub take_stages-requires : goal.take_stages-requires
take_stages-requires c =
    let n = variables_of c.args.group.now in
    let given = c.in_ok-left.left.items in
    let is_none = c.in_ok-bound.ensures ∙ ap (λ k. replicate k false) c.variables_of.ensures in
    let within = within_given n c.args.group.now.patterns c.args.more.now given (c.in_ok-left.ensures ∙ ap (λ z. z ++ c.args.more.now) c.as_slice.ensures) c.requires.form.patterns c.requires.more in
    others_have (λ (p : Bor PatternTriple). IsPatternWithin (length c.in_ok-bound.bound.items) 0 p.now) (λ p. is_whole c.deref.result.now p.now) given c.in_ok-checks.checks.items c.take_whole.new.left.items
    c.in_ok-checks.ensures (rw (ap length is_none ∙ length_of_none n) within)

pub plan_branches-requires-clause-branches : goal.plan_branches-requires-clause-branches
plan_branches-requires-clause-branches c =
    let n = variables_of c.args.group.now in
    let is_none = c.in_ok-bound.ensures ∙ ap (λ k. replicate k false) c.variables_of.ensures in
    rw (ap length c.deref-5.ensures.value ∙ c.in_ok-stages.ensures.stages.places ∙ ap length is_none ∙ length_of_none n) c.requires.branches

pub returns : goal.returns
returns c =
    let group = c.args.group.now in
    let more = c.args.more.now in
    let branches = c.args.branches.now in
    let n = variables_of group in
    let given = c.in_ok-left.left.items in
    let bound = c.in_ok-bound.bound.items in
    let left = c.take_whole.new.left.items in
    let checks = c.in_ok-checks.checks.items in
    let others = c.take_stages.new.left.items in
    let untested = c.take_stages.new.open.items in
    let e = c.in_ok-left.ensures ∙ ap (λ z. z ++ more) c.as_slice.ensures in
    let within = within_given n group.patterns more given e c.requires.form.patterns c.requires.more in
    let sorted_out = subst (λ (b : List Bool). AreSortedOut (λ (p : Bor PatternTriple). is_whole b p.now) given checks left) c.deref.ensures.value c.in_ok-checks.ensures in
    let plans = subst (λ (z : List (Bor PatternTriple)). AreBranchPlans z untested c.take_stages.new.bound.items branches c.in_ok-branches.branches.items) c.deref-3.ensures.value
    (subst (λ (z : List (Bor Filter)). AreBranchPlans c.deref-3.result.now z c.take_stages.new.bound.items branches c.in_ok-branches.branches.items) c.deref-4.ensures.value
    (subst (λ (z : List Bool). AreBranchPlans c.deref-3.result.now c.deref-4.result.now z branches c.in_ok-branches.branches.items) c.deref-5.ensures.value c.in_ok-branches.ensures)) in
    let has = λ (t : Bor Filter). Has group.filters t.now in
    let closes = λ (t : Bor Filter). is_closed c.deref-2.result.now t.now in
    let members = all_members group.filters c.in_ok-open.open.items (c.in_ok-open.ensures ∙ c.as_slice-2.ensures) in
    let later = others_have has closes c.in_ok-open.open.items c.in_ok-tests.tests.items c.take_closed.new.open.items c.in_ok-tests.ensures members in
    plan_made (group.patterns ++ more) branches group.filters n
    (record { checks = c.in_ok-checks.checks; tests = c.in_ok-tests.tests; stages = c.in_ok-stages.stages; branches = c.in_ok-branches.branches })
    given left others untested bound c.take_stages.new.bound.items e (c.in_ok-bound.ensures ∙ ap (λ k. replicate k false) c.variables_of.ensures) within
    sorted_out c.in_ok-stages.ensures.stages c.in_ok-stages.ensures.all plans
    (taken_have has closes c.in_ok-open.open.items c.in_ok-tests.tests.items c.take_closed.new.open.items c.in_ok-tests.ensures members)
    (c.in_ok-stages.ensures.tests group.filters later) (c.in_ok-stages.ensures.open group.filters later)
