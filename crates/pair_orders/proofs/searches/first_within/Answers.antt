use Rattle.std.proofs.Common.{◌∙◌, refl, sym, ap}
use Rattle.std.specs.Ordering.{is_gt}
use Rattle.pair_orders.specs.Orders.{is_before_places}
use Rattle.pair_orders.proofs.Dividing.{before_divides}
use Rattle.pair_orders.proofs.Narrowing.{raised, lowered, ranged}
use Rattle.pair_orders.proofs.searches.first_within.Goals as goal

pub loop-low-init : goal.loop-low-init
loop-low-init g c =
    ranged (is_before_places c.args.order.now.shape c.args.wanted.now) c.args.order.now.keys c.args.from c.args.to c.args.steps.now c.requires.order c.requires.end c.requires.front c.requires.back

pub loop-low-preserved-then-is_gt : goal.loop-low-preserved-then-is_gt
loop-low-preserved-then-is_gt g c =
    raised (is_before_places c.args.order.now.shape c.args.wanted.now) c.args.order.now.keys c.loop-low.low c.loop-low.high _ c.loop-low.steps c.compare.new.steps _
    (before_divides c.args.order.now.shape c.args.wanted.now c.args.order.now.keys c.len.ensures.order.ascending)
    c.loop-low.invariant c.loop-low-test.true refl c.compare.ensures.step
    (λ none. ap is_gt (sym (c.compare.ensures.order none)) ∙ sym c.is_gt.ensures ∙ c.if-is_gt.true)

pub loop-low-preserved : goal.loop-low-preserved
loop-low-preserved g c =
    lowered (is_before_places c.args.order.now.shape c.args.wanted.now) c.args.order.now.keys c.loop-low.low c.loop-low.high _ c.loop-low.steps c.compare.new.steps _
    (before_divides c.args.order.now.shape c.args.wanted.now c.args.order.now.keys c.len.ensures.order.ascending)
    c.loop-low.invariant c.loop-low-test.true refl c.compare.ensures.step
    (λ none. ap is_gt (sym (c.compare.ensures.order none)) ∙ sym c.is_gt.ensures ∙ c.if-is_gt.false)
