-- Entries that are taken one after another. `led_to` asks for them, and so do the appends (`MayAppendAll`) and the swaps here.
use Rattle.std.specs.Prelude.{ℕ, List, [], ◌∷◌}
use Rattle.mld_ops.specs.Entry.{EntryValue}
use Rattle.mld_ops.specs.Ready.{last_dot, IsReadyEntry}
use Rattle.journal_store.specs.journal_sides.RecordBytes.{raised_to}

-- entries each of which is ready, and not known, once those before it are taken
abbrev pub AreReadyEntries : List (List ℕ × ℕ) → List EntryValue → Type 0
AreReadyEntries ticks [] = Unit {0}
AreReadyEntries ticks (entry ∷ entries) = IsReadyEntry ticks entry × AreReadyEntries (raised_to ticks (last_dot entry.range)) entries
