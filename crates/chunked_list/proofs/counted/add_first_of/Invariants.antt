use Rattle.std.proofs.Common.{◌≡◌, ◌≤◌, ◌++◌, map, take, vec_len, vec_capacity}
use Rattle.chunked_list.specs.Joined.{joined_chunks}
use Rattle.chunked_list.proofs.counted.add_first_of.Given as goal

abbrev pub invariant-loop-chunk : goal.invariant-loop-chunk
invariant-loop-chunk g l = record {
  items : map (λ x. x.now) l.found.items ≡ take l.count (map (λ x. x.now) l.initial.found.items ++ joined_chunks (take l.chunk-index l.chunks));
  few : vec_len l.found ≤ l.count;
  room : vec_capacity l.found ≡ vec_capacity l.initial.found;
}
