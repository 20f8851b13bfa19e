use Rattle.std.proofs.Common.{◌≡◌, ◌≤◌, ◌+◌, ◌++◌, min, reverse, vec_len, vec_capacity}
use Rattle.hinted_chunks.specs.ChunkLimits.{half_limit}
use Rattle.hinted_chunks.proofs.chunks.move_tail.Given as goal

abbrev pub invariant-loop-from : goal.invariant-loop-from
invariant-loop-from g l = record {
  items : l.initial.from.items ≡ l.from.items ++ reverse l.to.items;
  least : min half_limit (vec_len l.initial.from) ≤ vec_len l.from;
  room : vec_len l.from + vec_len l.to ≤ vec_capacity l.to;
  from_capacity : vec_capacity l.from ≡ vec_capacity l.initial.from;
  to_capacity : vec_capacity l.to ≡ vec_capacity l.initial.to;
}

abbrev pub decreases-loop-from : goal.decreases-loop-from
decreases-loop-from g l = vec_len l.from
