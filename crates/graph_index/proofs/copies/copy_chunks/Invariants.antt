use Rattle.std.proofs.Common.{◌≡◌, take}
use Rattle.pair_orders.specs.chunked_list.Joined.{joined_chunks}
use Rattle.graph_index.proofs.copies.copy_chunks.Given as goal

abbrev pub invariant-loop-chunk : goal.invariant-loop-chunk
invariant-loop-chunk l = l.list.items ≡ joined_chunks (take l.chunk-index l.chunks)
