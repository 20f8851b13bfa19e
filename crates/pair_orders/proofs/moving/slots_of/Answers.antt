use Rattle.pair_orders.proofs.Emptying.{slots_more}
use Rattle.pair_orders.proofs.moving.slots_of.Goals as goal

pub loop-chunk-preserved : goal.loop-chunk-preserved
loop-chunk-preserved c =
    slots_more c.args.chunks.now c.loop-chunk.chunk-index c.chunk-item.result c.as_slice.result.now c.loop-chunk.numbers.items c.add_slots_of.new.numbers.items
    c.loop-chunk-test.true c.chunk-item.is c.as_slice.ensures c.in_ok-add_slots_of.ensures c.loop-chunk.invariant
