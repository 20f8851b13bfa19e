use Rattle.std.proofs.Common.{◌≡◌, map, take}
use Rattle.std.specs.List.{filter}
use Rattle.chunked_list.specs.Joined.{joined_chunks}
use Rattle.chunked_list.proofs.spans.filtered_in.Given as goal

abbrev pub invariant-loop-chunk : goal.invariant-loop-chunk
invariant-loop-chunk g l = map (λ x. x.now) l.found.items ≡ filter (g.P.Test.passes l.test) (joined_chunks (take l.chunk-index l.chunks))
