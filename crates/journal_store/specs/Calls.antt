-- What a journal keeps of which the calls that write speak, and what these ask for. `create`, `append_entry`, `append_fork`, `swap` and those
-- for an open journal cite it, and so does `clone_parts`.
use Rattle.std.specs.Prelude.{◌≡◌, ◌+◌, ◌<◌, List, [], length, Option, None, Some, Result, Ok, Err}
use Rattle.mld_io.specs.Disk.{Log, seen, IsSettled, other_side}
use Rattle.mld_io.specs.declared.banks.Side.TheVariants.{A}
use Rattle.mld_ops.specs.Entry.{EntryValue}
use Rattle.mld_ops.specs.Ready.{IsReadyEntry}
use Rattle.tree_clock.specs.Limits.{path_limit}
use Rattle.journal_sides.specs.Heads.{HeadValue}
use Rattle.journal_sides.specs.Pairs.{Kept, Keeps, read_banks}
use Rattle.journal_sides.specs.RecordBytes.{known_after}
use Rattle.journal_store.specs.declared.faults.MakeFault.{MakeFault}
use Rattle.journal_store.specs.declared.faults.MakeFault.TheVariants as make
use Rattle.journal_store.specs.declared.faults.Why.{Why}
use Rattle.journal_store.specs.Standing.{JournalValue}

-- an open journal over banks that tell their log keeps this, and a crash now leaves that
pub record KeptBy (now : Option Log) (closed : Option Why) (kept : Kept) : Type 0 where
  pub log : Log
  pub now_is : now ≡ Some log
  pub opened : closed ≡ None
  pub reads : read_banks (seen log) ≡ Keeps kept
  pub settled : IsSettled log

-- what a journal that was just made keeps
abbrev pub made : HeadValue → Kept
made head = record { side = A; generation = 1; head = head; entries = [] }

-- what a journal keeps once it was swapped
abbrev pub swapped : HeadValue → List EntryValue → Kept → Kept
swapped head entries kept = record { side = other_side kept.side; generation = kept.generation + 1; head = head; entries = entries }

-- the entry may stand behind those that are kept
abbrev pub MayAppend : EntryValue → Kept → Type 0
MayAppend entry kept = IsReadyEntry (known_after kept.head.base.ticks kept.entries) entry

-- the path of the clone has room for a letter more
abbrev pub MayFork : Kept → Type 0
MayFork kept = length kept.head.path < path_limit

-- the banks of a journal that was made, or that was not
abbrev pub made_banks : {B : Type 0} → Result (JournalValue B) (MakeFault × B) → B
made_banks (Ok journal) = journal.banks
made_banks (Err refused) = refused.1

-- the device failed, so no journal was made
abbrev pub FailsToMake : {B : Type 0} → Result (JournalValue B) (MakeFault × B) → Type 0
FailsToMake (Ok journal) = ⊥
FailsToMake (Err refused) = refused.0 ≡ make.Device
