use Rattle.std.proofs.Common.{◌∙◌, ℕ, List, sym, subst}
use Rattle.std.proofs.lemmas.Bool.{true≢false}
use Rattle.rdf_terms.specs.declared.terms.Triple.{Triple}
use Rattle.mld_ops.specs.Breaches.{IsFirstBreach}
use Rattle.single_value.proofs.Breaching.{IsLeft, first_by, harmless_by, left_behind}
use Rattle.single_value.proofs.breaches.breaks.Goals as goal

pub returns-then-branch-clause-first : goal.returns-then-branch-clause-first
returns-then-branch-clause-first c =
    let props = c.args.props.now in
    let pairs = c.args.graph.now.pairs in
    let effect = c.args.effect.now in
    let left = subst (λ (l : List Triple). IsLeft props pairs effect l) c.in-Some.ensures.cases.0 c.loop-triple.invariant in
    subst (λ (place : List ℕ × List ℕ). IsFirstBreach props pairs effect place)
    (λ k. (sym c.in_ok-place_of.ensures.subject k, sym c.in_ok-place_of.ensures.property k))
    (first_by props pairs effect c.in-Some.triple.now c.in-Some.rest.now left (c.in_ok-is_breach.ensures.0 c.if-branch.true))

pub loop-triple-preserved : goal.loop-triple-preserved
loop-triple-preserved c =
    let props = c.args.props.now in
    let pairs = c.args.graph.now.pairs in
    let effect = c.args.effect.now in
    let triple = c.in-Some.triple.now in
    let rest = c.in-Some.rest.now in
    let left = subst (λ (l : List Triple). IsLeft props pairs effect l) c.in-Some.ensures.cases.0 c.loop-triple.invariant in
    left_behind props pairs effect triple rest left
    (harmless_by props pairs effect triple rest left (λ h. true≢false (sym (c.in_ok-is_breach.ensures.1 h) ∙ c.if-branch.false)))
