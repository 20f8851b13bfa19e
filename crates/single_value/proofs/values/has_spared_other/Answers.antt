use Rattle.std.proofs.Common.{◌∙◌, ◌<◌, ◌≤◌, length, refl, sym, arith}
use Rattle.std.proofs.lemmas.Bool.{false≢true}
use Rattle.mld_ops.specs.declared.tagged.Tagged.{Tagged}
use Rattle.mld_ops.proofs.Walking.{all_more, all_passed}
use Rattle.single_value.specs.OtherValues.{IsSparedOther}
use Rattle.single_value.proofs.Standing.{at_place, has_there, none_of}
use Rattle.single_value.proofs.values.has_spared_other.Goals as goal

pub returns-then-is_spared_at-clause-some : goal.returns-then-is_spared_at-clause-some
returns-then-is_spared_at-clause-some c =
    let found = c.args.pairs.now in
    let at = c.loop-at.at in
    let l : at < length found = omega arith in
    let there = at_place found at l in
    λ t. (there.0, has_there found at there.0 l there.2, (c.is_spared_at.ensures there.0 there.1).0 c.if-is_spared_at.true)

pub returns-then-is_spared_at-clause-none : goal.returns-then-is_spared_at-clause-none
returns-then-is_spared_at-clause-none c = λ n. absurd (n refl)

pub loop-at-preserved : goal.loop-at-preserved
loop-at-preserved c =
    let found = c.args.pairs.now in
    let at = c.loop-at.at in
    let l : at < length found = omega arith in
    let there = at_place found at l in
    all_more (λ (pair : Tagged). ¬ IsSparedOther c.args.effect.now c.args.triple.now pair) found at there.0 l there.2 c.loop-at.invariant
    (λ o. false≢true (sym c.if-is_spared_at.false ∙ (c.is_spared_at.ensures there.0 there.1).1 o))

pub returns-clause-none : goal.returns-clause-none
returns-clause-none c =
    let effect = c.args.effect.now in
    let triple = c.args.triple.now in
    let found = c.args.pairs.now in
    let l : length found ≤ c.loop-at.at = omega arith in
    let passed = all_passed (λ (pair : Tagged). ¬ IsSparedOther effect triple pair) found c.loop-at.at l c.loop-at.invariant in
    λ n. none_of (IsSparedOther effect triple) found passed
