-- What a bank in memory keeps. What `MemoryBanks` is for contracts is made of it.
use Rattle.std.specs.Prelude.{◌∷◌, ◌||◌, if◌then◌else◌, List}
use Rattle.mld_io.specs.declared.banks.Side.{Side}
use Rattle.mld_io.specs.declared.banks.Side.TheVariants.{A, B}
use Rattle.mld_io.specs.declared.banks.Leave.{Leave}
use Rattle.mld_io.specs.Disk.{Sides}
use Rattle.disk_model.specs.DeviceSteps.{DeviceStep}
use Rattle.disk_model.specs.DeviceSteps as step
use Rattle.disk_model.specs.SideSteps.{unsynced}

-- the sides at first, and the steps since, the newest first
pub record StoreValue : Type 0 where
  pub first : Sides
  pub steps : List DeviceStep

-- with one step more
abbrev pub with_step : DeviceStep → StoreValue → StoreValue
with_step next store = record store { steps = next ∷ store.steps }

-- after a sync of a side, which adds a step only where it was unsynced
abbrev pub synced : Side → StoreValue → StoreValue
synced side store = if unsynced side store.steps then with_step (step.Synced side) store else store

-- after a revival that leaves this much, which adds a step only where a side was unsynced
abbrev pub cut : Leave → StoreValue → StoreValue
cut leave store = if unsynced A store.steps || unsynced B store.steps then with_step (step.Cut leave) store else store
