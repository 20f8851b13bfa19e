use Rattle.std.proofs.Common.{◌∙◌, refl, sym, ap, arith}
use Rattle.std.specs.Ordering.{is_ge}
use Rattle.pair_orders.specs.Orders.{is_up_to_places}
use Rattle.pair_orders.proofs.Dividing.{up_to_divides}
use Rattle.pair_orders.proofs.Narrowing.{raised, lowered, begun}
use Rattle.pair_orders.proofs.searches.behind_by_halves.Goals as goal

pub loop-low-init : goal.loop-low-init
loop-low-init g c = record {
  from_is = omega arith;
  narrowed =
      begun (is_up_to_places c.args.order.now.shape c.args.wanted.now) (is_up_to_places c.args.order.now.shape c.args.wanted.now) c.args.order.now.keys c.args.from
      c.len-high.result c.args.steps.now c.requires.end c.len-high.ensures.len (λ _ e. e) c.requires.front;
}

pub loop-low-preserved-then-is_ge : goal.loop-low-preserved-then-is_ge
loop-low-preserved-then-is_ge g c = record {
  from_is = omega (arith, c.loop-low.invariant.from_is);
  narrowed =
      raised (is_up_to_places c.args.order.now.shape c.args.wanted.now) c.args.order.now.keys c.loop-low.low c.loop-low.high _ c.loop-low.steps c.compare.new.steps _
      (up_to_divides c.args.order.now.shape c.args.wanted.now c.args.order.now.keys c.len-high.ensures.order.ascending)
      c.loop-low.invariant.narrowed c.loop-low-test.true refl c.compare.ensures.step
      (λ none. ap is_ge (sym (c.compare.ensures.order none)) ∙ sym c.is_ge.ensures ∙ c.if-is_ge.true);
}

pub loop-low-preserved : goal.loop-low-preserved
loop-low-preserved g c = record {
  from_is = omega (arith, c.loop-low.invariant.from_is);
  narrowed =
      lowered (is_up_to_places c.args.order.now.shape c.args.wanted.now) c.args.order.now.keys c.loop-low.low c.loop-low.high _ c.loop-low.steps c.compare.new.steps _
      (up_to_divides c.args.order.now.shape c.args.wanted.now c.args.order.now.keys c.len-high.ensures.order.ascending)
      c.loop-low.invariant.narrowed c.loop-low-test.true refl c.compare.ensures.step
      (λ none. ap is_ge (sym (c.compare.ensures.order none)) ∙ sym c.is_ge.ensures ∙ c.if-is_ge.false);
}
