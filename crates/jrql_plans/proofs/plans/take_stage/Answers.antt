use Rattle.std.proofs.Common.{List, Bool, Bor, not, remove, subst}
use Rattle.jrql_ast.specs.declared.patterns.PatternTriple.{PatternTriple}
use Rattle.jrql_plans.specs.Planning.{AreSortedOut, is_whole}
use Rattle.jrql_plans.proofs.PlanSteps.{fewer_left}
use Rattle.jrql_plans.proofs.plans.take_stage.Goals as goal

pub returns-clause-stage : goal.returns-clause-stage
returns-clause-stage c =
    let left = c.args.left.now.items in
    let next = c.mark.new.bound.items in
    let whole = c.in_ok-checks.checks.items in
    let others = c.take_whole.new.left.items in
    let sorted_out = subst (λ (b : List Bool). AreSortedOut (λ p. is_whole b p.now) (remove left c.args.place) whole others) c.deref.ensures.value
    (subst (λ (xs : List (Bor PatternTriple)). AreSortedOut (λ p. is_whole c.deref.result.now p.now) xs whole others) c.remove-pattern.ensures.items c.in_ok-checks.ensures) in record {
      place = c.args.place;
      there = c.requires.there;
      taken = c.remove-pattern.ensures.value;
      marks = c.mark.ensures.bound;
      sorted_out = sorted_out;
      fewer = fewer_left left others (λ p. not (is_whole next p.now)) c.remove-pattern.result c.args.place c.requires.there c.remove-pattern.ensures.value sorted_out.left;
    }
