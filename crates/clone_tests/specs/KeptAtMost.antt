-- What a journal may keep.
use Rattle.std.specs.Prelude.{◌≡◌, Option}
use Rattle.mld_io.specs.Disk.{Log}
use Rattle.journal_sides.specs.Pairs.{Kept}
use Rattle.journal_store.specs.Calls.{KeptBy}
use Rattle.journal_store.specs.declared.faults.Why.{Why}

-- an open journal over banks that tell their log keeps just this
abbrev pub KeepsAtMost : Kept → Option Log → Option Why → Type 0
KeepsAtMost kept now closed = (other : Kept) → KeptBy now closed other → other ≡ kept
