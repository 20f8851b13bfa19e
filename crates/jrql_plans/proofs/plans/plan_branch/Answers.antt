use Rattle.std.proofs.Common.{◌∙◌, ◌++◌, List, Bool, Bor, All, length, sym, ap, subst, refl}
use Rattle.tree_clock.specs.Lists.{Has}
use Rattle.jrql_ast.specs.declared.patterns.Filter.{Filter}
use Rattle.jrql_ast.specs.declared.patterns.PatternTriple.{PatternTriple}
use Rattle.jrql_ast.specs.InForm.{IsPatternWithin}
use Rattle.jrql_plans.specs.Planning.{AreSortedOut, is_whole}
use Rattle.jrql_plans.proofs.PlanLaws.{branch_made, within_left}
use Rattle.jrql_plans.proofs.PlanSteps.{now_of, others_have}
use Rattle.jrql_plans.proofs.plans.plan_branch.Goals as goal

pub take_stages-requires : goal.take_stages-requires
take_stages-requires c =
    let given = c.add_patterns.new.left.items in
    let e = c.in_ok-add_patterns.ensures ∙ ap (λ z. now_of z ++ c.args.branch.now) c.in_ok-left.ensures.items in
    let within = subst (λ (z : List Bool). All (λ (p : Bor PatternTriple). IsPatternWithin (length z) 0 p.now) given) (sym c.in_ok-bound.ensures.items)
    (within_left (length c.args.bound.now) c.args.left.now c.args.branch.now given e c.requires.left c.requires.branch) in
    others_have (λ (p : Bor PatternTriple). IsPatternWithin (length c.in_ok-bound.bound.items) 0 p.now) (λ p. is_whole c.deref.result.now p.now) given c.in_ok-checks.checks.items c.take_whole.new.left.items
    c.in_ok-checks.ensures within

pub returns : goal.returns
returns c =
    let given = c.add_patterns.new.left.items in
    let e = c.in_ok-add_patterns.ensures ∙ ap (λ z. now_of z ++ c.args.branch.now) c.in_ok-left.ensures.items in
    let within = subst (λ (z : List Bool). All (λ (p : Bor PatternTriple). IsPatternWithin (length z) 0 p.now) given) (sym c.in_ok-bound.ensures.items)
    (within_left (length c.args.bound.now) c.args.left.now c.args.branch.now given e c.requires.left c.requires.branch) in
    let sorted_out = subst (λ (b : List Bool). AreSortedOut (λ (p : Bor PatternTriple). is_whole b p.now) given c.in_ok-checks.checks.items c.take_whole.new.left.items) c.deref.ensures.value c.in_ok-checks.ensures in
    branch_made c.args.left.now c.args.open.now c.args.bound.now c.in_ok-bound.bound.items c.take_stages.new.bound.items c.args.branch.now
    (record { checks = c.in_ok-checks.checks; stages = c.in_ok-stages.stages }) given c.take_whole.new.left.items c.take_stages.new.left.items
    c.in_ok-bound.ensures.items e within sorted_out c.in_ok-stages.ensures.stages (c.in_ok-stages.ensures.all refl)
    (λ filters h. c.in_ok-stages.ensures.tests filters (subst (λ (z : List (Bor Filter)). All (λ (t : Bor Filter). Has filters t.now) z) (sym c.in_ok-open.ensures.items) h))
