-- Entries that are written behind the head of a swap.
use Rattle.std.proofs.Common.{ℕ, List, [], ◌∷◌}
use Rattle.std.specs.List.{AllByRecursion}
use Rattle.mld_ops.specs.Entry.{EntryValue}
use Rattle.mld_ops.specs.Ready.{last_dot}
use Rattle.op_codec.specs.Stored.{IsShortEntry}
use Rattle.journal_store.specs.journal_sides.RecordBytes.{raised_to}
use Rattle.journal_store.specs.journal_sides.StoredVolumes.{AreGoodEntries}
use Rattle.clone_parts.specs.Replays.{AreReadyEntries}

-- entries that are ready and short may be written
pub good_entries : (ticks : List (List ℕ × ℕ)) (entries : List EntryValue) → AreReadyEntries ticks entries → AllByRecursion IsShortEntry entries → AreGoodEntries ticks entries
good_entries ticks [] ready short = tt
good_entries ticks (entry ∷ entries) ready short = (ready.0, short.0, good_entries (raised_to ticks (last_dot entry.range)) entries ready.1 short.1)
