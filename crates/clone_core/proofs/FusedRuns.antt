-- What a compaction does where no neighbours stand side by side.
use Rattle.std.proofs.Common.{List, [], ◌∷◌, refl, ap}
use Rattle.mld_ops.specs.Entry.{EntryValue}
use Rattle.op_fusion.specs.Compacting.{alone, AreFusedRuns, HasNeighbours}

-- entries of which no two neighbours stand side by side are fused runs as they are
pub unfused : (entries : List EntryValue) → ¬ HasNeighbours entries → AreFusedRuns entries entries
unfused [] none = refl
unfused (one ∷ []) none = (one ∷ [], [], refl, alone one, tt, refl)
unfused (one ∷ two ∷ entries) none = (
  one ∷ [],
  two ∷ entries,
  refl,
  alone one,
  λ near. none (record { front = []; first = one; second = two; rest = entries; stand = refl; near = near }),
  unfused (two ∷ entries)
      (λ has. none (record {
        front = one ∷ has.front;
        first = has.first;
        second = has.second;
        rest = has.rest;
        stand = ap (λ (es : List EntryValue). one ∷ es) has.stand;
        near = has.near;
      })),
)
