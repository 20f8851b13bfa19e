use Rattle.std.proofs.Common.{refl, sym, ◌∙◌, subst}
use Rattle.std.proofs.lemmas.Bool.{false≢true}
use Rattle.std.proofs.lemmas.List.{drop_all}
use Rattle.tree_clock.proofs.DotLemmas.{Knows-at, Knows-after}
use Rattle.tree_clock.specs.Dot.{Knows}
use Rattle.tree_clock.proofs.range_lists.knows.Goals as goal

pub returns-then-contains : goal.returns-then-contains
returns-then-contains c =
    (λ _. Knows-at c.args.ranges.now c.loop-range.range-index c.range-item.result c.args.dot.now c.loop-range-test.true c.range-item.is (c.contains.ensures.0 c.if-contains.true), λ _. refl)

pub loop-range-preserved : goal.loop-range-preserved
loop-range-preserved c = λ known.
    Knows-after c.args.ranges.now c.loop-range.range-index c.range-item.result c.args.dot.now c.loop-range-test.true c.range-item.is (λ at. false≢true (sym c.if-contains.false ∙ c.contains.ensures.1 at)) (c.loop-range.invariant known)

pub returns : goal.returns
returns c =
    (λ h. absurd (false≢true h), λ known. absurd (subst (λ rs. Knows rs c.args.dot.now) (drop_all c.loop-range.range-index c.args.ranges.now c.loop-range-test.false) (c.loop-range.invariant known)))
