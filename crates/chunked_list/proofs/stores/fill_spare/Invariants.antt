use Rattle.std.proofs.Common.{◌≡◌, ◌≤◌, ◌+◌, ◌-◌, vec_len, vec_capacity}
use Rattle.hinted_chunks.specs.ChunkLimits.{chunks_limit}
use Rattle.chunked_list.specs.Stores.{IsStore}
use Rattle.chunked_list.proofs.stores.fill_spare.Given as goal

abbrev pub invariant-loop-alloc : goal.invariant-loop-alloc
invariant-loop-alloc g l = record {
  is : IsStore g.T.Keyed.key l.store;
  chunks : l.store.chunks.items ≡ l.initial.store.chunks.items;
  kept : vec_len l.initial.store.spare ≤ vec_len l.store.spare;
  chunk_room : vec_len l.store.chunks + l.wanted ≤ vec_capacity l.store.chunks;
  tops_room : vec_len l.store.chunks + l.wanted ≤ vec_capacity l.store.tops.numbers;
  starts_room : vec_len l.store.chunks + l.wanted ≤ vec_capacity l.store.starts;
  spare_room : vec_len l.store.chunks + l.wanted ≤ vec_capacity l.store.spare;
  few : vec_len l.store.chunks + l.wanted ≤ chunks_limit;
}

abbrev pub decreases-loop-alloc : goal.decreases-loop-alloc
decreases-loop-alloc g l = l.wanted - vec_len l.store.spare
