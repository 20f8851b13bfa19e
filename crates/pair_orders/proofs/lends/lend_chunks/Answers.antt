use Rattle.std.proofs.Common.{map}
use Rattle.pair_orders.proofs.Lending.{lent_chunk_more}
use Rattle.pair_orders.proofs.lends.lend_chunks.Goals as goal

pub loop-chunk-preserved : goal.loop-chunk-preserved
loop-chunk-preserved c =
    lent_chunk_more c.args.slots.now c.args.chunks.now c.loop-chunk.chunk-index c.chunk-item.result c.as_slice.result.now (map (λ x. x.now) c.loop-chunk.list.items) (map (λ x. x.now) c.add_pairs.new.list.items)
    c.loop-chunk-test.true c.chunk-item.is c.as_slice.ensures c.in_ok-add_pairs.ensures c.loop-chunk.invariant
