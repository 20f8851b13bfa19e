use Rattle.std.proofs.Common.{◌∙◌, ◌++◌, sym, ap, take}
use Rattle.pair_orders.specs.chunked_list.Joined.{joined_chunks}
use Rattle.pair_orders.proofs.of_chunked_list.JoinedLaws.{joined_more}
use Rattle.graph_index.proofs.copies.copy_chunks.Goals as goal

pub loop-chunk-preserved : goal.loop-chunk-preserved
loop-chunk-preserved c =
    let i = c.loop-chunk.chunk-index in
    c.in_ok-add_copies.ensures
    ∙ ap (λ zs. zs ++ c.as_slice.result.now) c.loop-chunk.invariant
    ∙ ap (λ zs. joined_chunks (take i c.args.chunks.now) ++ zs) c.as_slice.ensures
    ∙ sym (joined_more c.args.chunks.now i c.chunk-item.result c.loop-chunk-test.true c.chunk-item.is)
