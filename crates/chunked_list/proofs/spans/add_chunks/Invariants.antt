use Rattle.std.proofs.Common.{◌≡◌, ◌++◌, map, take}
use Rattle.std.specs.List.{filter}
use Rattle.chunked_list.specs.Joined.{joined_chunks}
use Rattle.chunked_list.proofs.spans.add_chunks.Given as goal

abbrev pub invariant-loop-chunk : goal.invariant-loop-chunk
invariant-loop-chunk g l = map (λ x. x.now) l.found.items ≡ map (λ x. x.now) l.initial.found.items ++ filter (g.B.Bound.before l.bound) (joined_chunks (take l.chunk-index l.chunks))
