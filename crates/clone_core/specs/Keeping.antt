-- Keeping a journal compacted or truncated: what it makes of a clone and of what its banks keep. `MldClone::compact` and `truncate` cite it.
use Rattle.std.specs.Prelude.{◌≡◌, ◌<◌, ◌≤◌, ℕ, ◌+◌, None, length}
use Rattle.op_fusion.specs.Compacting.{AreFusedRuns, HasNeighbours}
use Rattle.mld_model.specs.Local.{LocallyCompacts, LocallyTruncates}
use Rattle.clone_core.specs.Banked.{BankedClone}

-- an open clone keeps its journal compacted: no two neighbours stand side by side, and nothing changes; or there are such, and what its
-- banks keep is swapped for the compacted journal, of the next generation
pub data KeepsCompacted {B : Type 0} (old new : BankedClone B) : Type 0 where
  nothing_to_fuse : AreFusedRuns old.local.entries old.local.entries → new ≡ old → KeepsCompacted old new
  swapped : LocallyCompacts old.local new.local → HasNeighbours old.local.entries → new.closed ≡ None → new.generation ≡ old.generation + 1
      → KeepsCompacted old new

-- an open clone keeps so many entries at the end of its journal: it has no more, and nothing changes; or it has, and what its banks keep
-- is swapped for the truncated journal, of the next generation
pub data KeepsTruncated {B : Type 0} (old : BankedClone B) (keep : ℕ) (new : BankedClone B) : Type 0 where
  nothing_to_cut : length old.local.entries ≤ keep → new ≡ old → KeepsTruncated old keep new
  cut : keep < length old.local.entries → LocallyTruncates old.local keep new.local → new.closed ≡ None → new.generation ≡ old.generation + 1
      → KeepsTruncated old keep new

-- a clone that was open is open still
pub record StaysUnclosed {B : Type 0} (old new : BankedClone B) : Type 0 where
  pub was : old.closed ≡ None
  pub now : new.closed ≡ None
