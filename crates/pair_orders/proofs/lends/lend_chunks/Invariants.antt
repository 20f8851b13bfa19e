use Rattle.std.proofs.Common.{◌≡◌, map, take}
use Rattle.chunked_list.specs.Joined.{joined_chunks}
use Rattle.pair_orders.specs.Keys.{slot_pairs}
use Rattle.pair_orders.proofs.lends.lend_chunks.Given as goal

abbrev pub invariant-loop-chunk : goal.invariant-loop-chunk
invariant-loop-chunk l = map (λ x. x.now) l.list.items ≡ slot_pairs l.slots (map (λ key. key.slot) (joined_chunks (take l.chunk-index l.chunks)))
