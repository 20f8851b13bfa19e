use Rattle.std.proofs.Common.{[], map, arith}
use Rattle.pair_orders.proofs.Lending.{lent_more}
use Rattle.pair_orders.proofs.orders.lend_pairs.Goals as goal

pub loop-key-preserved : goal.loop-key-preserved
loop-key-preserved g c = record {
  pairs =
      lent_more (λ key. key.now.slot) c.args.slots.now c.args.keys.now c.loop-key.key-index _ [] (map (λ x. x.now) c.loop-key.found.items) _ c.loop-key-test.true
      c.in_ok-add_pair.ensures c.loop-key.invariant.pairs;
  step = omega (arith, c.loop-key.invariant.step, c.tick.ensures);
}
