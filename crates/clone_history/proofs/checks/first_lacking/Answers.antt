use Rattle.std.proofs.Common.{◌≡◌, ◌∙◌, true, false, sym}
use Rattle.clone_history.proofs.PastSteps.{lacking_found, lacking_more, lacking_none}
use Rattle.clone_history.proofs.checks.first_lacking.Goals as goal

pub returns-then-not-covers : goal.returns-then-not-covers
returns-then-not-covers c =
    lacking_found c.args.clock.now.ticks c.args.ends.now c.loop-path.path-index c.loop-path-item.result c.loop-path-test.true c.loop-path-item.is c.loop-path.invariant
    (λ k. let no : false ≡ true = sym c.if-not-covers.true ∙ c.covers.ensures.1 k in cc)

pub loop-path-preserved : goal.loop-path-preserved
loop-path-preserved c =
    lacking_more c.args.clock.now.ticks c.args.ends.now c.loop-path.path-index c.loop-path-item.result c.loop-path-test.true c.loop-path-item.is c.loop-path.invariant
    (c.covers.ensures.0 c.if-not-covers.false)

pub returns : goal.returns
returns c = lacking_none c.args.clock.now.ticks c.args.ends.now c.loop-path.path-index c.loop-path-test.false c.loop-path.invariant
