use Rattle.std.proofs.Common.{◌≡◌, map, take}
use Rattle.chunked_list.specs.Joined.{joined_chunks}
use Rattle.pair_orders.proofs.moving.slots_of.Given as goal

abbrev pub invariant-loop-chunk : goal.invariant-loop-chunk
invariant-loop-chunk l = l.numbers.items ≡ map (λ key. key.slot) (joined_chunks (take l.chunk-index l.chunks))
