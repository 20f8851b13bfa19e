use Rattle.std.proofs.Common.{[], map}
use Rattle.pair_orders.proofs.Lending.{lent_more}
use Rattle.pair_orders.proofs.lends.lend_found.Goals as goal

pub loop-key-preserved : goal.loop-key-preserved
loop-key-preserved c =
    lent_more (λ key. key.now.slot) c.args.slots.now c.args.keys.now c.loop-key.key-index
    (record { ref_ptr = (0, 0); now = record { first = 0; second = 0; third = 0; fourth = 0; fifth = 0; slot = 0 } }) [] (map (λ x. x.now) c.loop-key.list.items)
    (map (λ x. x.now) c.add_pair.new.list.items) c.loop-key-test.true c.in_ok-add_pair.ensures c.loop-key.invariant
