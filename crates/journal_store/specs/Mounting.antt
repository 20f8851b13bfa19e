-- What a mount tells. `Journal::mount` cites it, and `MldClone::mount` has `IsSynced`.
use Rattle.std.specs.Prelude.{◌≡◌, Option, None, Some}
use Rattle.mld_io.specs.Disk.{Log, seen, IsSettled}
use Rattle.journal_sides.specs.Heads.{head_value}
use Rattle.journal_sides.specs.Pairs.{PairReading, KeepsNone, Keeps, Damages}
use Rattle.journal_sides.specs.StoredVolumes.{IsGoodHead, AreGoodEntries}
use Rattle.journal_store.specs.declared.faults.MountFault.TheVariants.{Damaged, Device, NoMemory}
use Rattle.journal_store.specs.declared.mounting.JournalMounted.{JournalMounted}
use Rattle.journal_store.specs.declared.mounting.JournalMounted.TheVariants.{Found, Empty, Refused}

-- the banks, whatever a mount answered
abbrev pub mounted_banks : {B : Type 0} → JournalMounted B → B
mounted_banks (Found journal head entries) = journal.banks
mounted_banks (Empty blank) = blank
mounted_banks (Refused fault banks) = banks

-- an answer that was read tells what the bytes of both sides say
abbrev pub TellsPair : {B : Type 0} → JournalMounted B → PairReading → Type 0
TellsPair (Found journal head entries) reading =
    reading ≡ Keeps (record { side = journal.side; generation = journal.generation; head = head_value head; entries = entries.items })
TellsPair (Empty blank) reading = reading ≡ KeepsNone
TellsPair (Refused (Damaged side place) banks) reading = reading ≡ Damages side place
TellsPair (Refused Device banks) reading = Unit {0}
TellsPair (Refused NoMemory banks) reading = Unit {0}

-- a journal that was found is open
abbrev pub IsOpened : {B : Type 0} → JournalMounted B → Type 0
IsOpened (Found journal head entries) = journal.closed ≡ None
IsOpened (Empty blank) = Unit {0}
IsOpened (Refused fault banks) = Unit {0}

-- a head and entries that were found are such as may be written, so a swap may have them
abbrev pub FindsGood : {B : Type 0} → JournalMounted B → Type 0
FindsGood (Found journal head entries) = IsGoodHead (head_value head) × AreGoodEntries (head_value head).base.ticks entries.items
FindsGood (Empty blank) = Unit {0}
FindsGood (Refused fault banks) = Unit {0}

-- the device didn't fail: both sides were synced
abbrev pub BothSynced : {B : Type 0} → JournalMounted B → Type 0
BothSynced (Found journal head entries) = Unit {0}
BothSynced (Empty blank) = Unit {0}
BothSynced (Refused (Damaged side place) banks) = Unit {0}
BothSynced (Refused Device banks) = ⊥
BothSynced (Refused NoMemory banks) = Unit {0}

-- the device failed
abbrev pub FailsToMount : {B : Type 0} → JournalMounted B → Type 0
FailsToMount (Found journal head entries) = ⊥
FailsToMount (Empty blank) = ⊥
FailsToMount (Refused fault banks) = fault ≡ Device

-- Reads give what they gave; where both sides were synced, a crash now leaves just that.
pub record IsSynced (done : Type 0) (old : Log) (now : Option Log) : Type 0 where
  pub log : Log
  pub now_is : now ≡ Some log
  pub same : seen log ≡ seen old
  pub settled : done → IsSettled log
