-- What is found on banks where a clone is to run again. `MldClone::mount` cites it.
use Rattle.std.specs.Prelude.{◌≡◌, ℕ, [], None}
use Rattle.mld_io.specs.declared.banks.Side.{Side}
use Rattle.journal_sides.specs.Pairs.{PairReading, KeepsNone, Keeps, Damages}
use Rattle.journal_store.specs.declared.faults.MountFault.TheVariants.{Damaged, Device, NoMemory}
use Rattle.mld_model.specs.Local.{IsLocal}
use Rattle.clone_core.specs.Banked.{BankedClone, kept_as}
use Rattle.clone_core.specs.declared.mounts.Mounted.{Mounted}
use Rattle.clone_core.specs.declared.mounts.Mounted.TheVariants.{Live, Empty, Refused}

-- the clone is the one that the banks read to, and holds nothing back
pub record IsFoundAs {B : Type 0} (clone : BankedClone B) (reading : PairReading) : Type 0 where
  pub side : Side
  pub reads : reading ≡ Keeps (kept_as side clone.generation clone.local)

-- a mount tells what the banks read to
abbrev pub TellsClone : {B : Type 0} → Mounted B → PairReading → Type 0
TellsClone (Live clone) reading = IsFoundAs clone reading
TellsClone (Empty blank) reading = reading ≡ KeepsNone
TellsClone (Refused (Damaged side place) banks) reading = reading ≡ Damages side place
TellsClone (Refused Device banks) reading = Unit {0}
TellsClone (Refused NoMemory banks) reading = Unit {0}

-- a clone that was found is whole and open, and holds nothing back
pub record RunsAgain {B : Type 0} (clone : BankedClone B) : Type 0 where
  pub local : IsLocal clone.local
  pub held : clone.local.held ≡ []
  pub opened : clone.closed ≡ None

abbrev pub OpensClone : {B : Type 0} → Mounted B → Type 0
OpensClone (Live clone) = RunsAgain clone
OpensClone (Empty blank) = Unit {0}
OpensClone (Refused fault banks) = Unit {0}

-- the banks, whatever a mount answered
abbrev pub banks_of_mounted : {B : Type 0} → Mounted B → B
banks_of_mounted (Live clone) = clone.banks
banks_of_mounted (Empty blank) = blank
banks_of_mounted (Refused fault banks) = banks

-- how many calls of the device a mount makes: it syncs both sides
abbrev pub mount_calls : ℕ
mount_calls = 2

-- both sides were synced
abbrev pub SyncsBoth : {B : Type 0} → Mounted B → Type 0
SyncsBoth (Live clone) = Unit {0}
SyncsBoth (Empty blank) = Unit {0}
SyncsBoth (Refused (Damaged side place) banks) = Unit {0}
SyncsBoth (Refused Device banks) = ⊥
SyncsBoth (Refused NoMemory banks) = Unit {0}

-- the device failed
abbrev pub FailsToOpen : {B : Type 0} → Mounted B → Type 0
FailsToOpen (Live clone) = ⊥
FailsToOpen (Empty blank) = ⊥
FailsToOpen (Refused fault banks) = fault ≡ Device
