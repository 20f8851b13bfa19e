-- What a refused call leaves of a clone. `left` of `MldClone::update`, `receive`, `compact` and `truncate` cites it, and `err` of `genesis`.
use Rattle.std.specs.Prelude.{◌≡◌, ◌≢◌, ◌⊎◌, ◌+◌, ◌-◌, ◌^◌, Option, None, Some, Result, Ok, Err}
use Rattle.mld_io.specs.Arm.{Meter}
use Rattle.mld_io.specs.Disk.{Log}
use Rattle.journal_store.specs.Closing.{WasCalled}
use Rattle.journal_store.specs.declared.faults.MakeFault.{MakeFault}
use Rattle.journal_store.specs.declared.faults.MakeFault.TheVariants as make
use Rattle.journal_store.specs.declared.faults.Why.{Why}
use Rattle.journal_store.specs.declared.faults.Why.TheVariants as why
use Rattle.clone_core.specs.Banked.{BankedClone}
use Rattle.clone_parts.specs.declared.faults.KeepFault.{KeepFault}
use Rattle.clone_parts.specs.declared.faults.KeepFault.TheVariants as keep
use Rattle.clone_parts.specs.declared.faults.ReceiveFault.{ReceiveFault}
use Rattle.clone_parts.specs.declared.faults.ReceiveFault.TheVariants as receive
use Rattle.clone_parts.specs.declared.faults.UpdateFault.{UpdateFault}
use Rattle.clone_parts.specs.declared.faults.UpdateFault.TheVariants as update

-- A clone that was open is closed for this reason. There was something to do on its banks (`Due`), and want of memory closes it only where
-- a call of the device was done. It has in memory what it had; what its banks keep is of the same generation, or of the next one where a
-- swap may have been done before (`Swaps`).
pub record ShutsClone {B : Type 0} (log : B → Option Log) (meter : B → Meter) (Due Swaps : Type 0) (old : BankedClone B) (reason : Why) (new : BankedClone B) : Type 0 where
  pub was : old.closed ≡ None
  pub due : Due
  pub now : new.closed ≡ Some reason
  pub called : reason ≡ why.NoMemory → WasCalled log meter old.banks new.banks
  pub local : new.local ≡ old.local
  pub generation : (new.generation ≡ old.generation) ⊎ (Swaps × (new.generation ≡ old.generation + 1))

-- what a refused call leaves, by what stopped it: the clone as it was; but a fault of the device closes it, and want of memory does so or
-- leaves it as it was
abbrev pub LeavesClone : {B : Type 0} → (B → Option Log) → (B → Meter) → (Due Swaps : Type 0) → BankedClone B → BankedClone B → Option Why → Type 0
LeavesClone log meter Due Swaps old new None = new ≡ old
LeavesClone log meter Due Swaps old new (Some why.Device) = ShutsClone log meter Due Swaps old why.Device new
LeavesClone log meter Due Swaps old new (Some why.NoMemory) = (new ≡ old) ⊎ ShutsClone log meter Due Swaps old why.NoMemory new

-- what stopped a call, where it was the device or memory
abbrev pub update_stop : UpdateFault → Option Why
update_stop update.Device = Some why.Device
update_stop update.NoMemory = Some why.NoMemory
update_stop (update.Closed reason) = None
update_stop update.TicksSpent = None
update_stop update.TooMany = None
update_stop (update.Single subject property) = None

abbrev pub receive_stop : ReceiveFault → Option Why
receive_stop receive.Device = Some why.Device
receive_stop receive.NoMemory = Some why.NoMemory
receive_stop other = None

abbrev pub keep_stop : KeepFault → Option Why
keep_stop keep.Device = Some why.Device
keep_stop keep.NoMemory = Some why.NoMemory
keep_stop (keep.Closed reason) = None
keep_stop keep.GenerationsSpent = None

-- ---- what is left where nothing was refused

-- a clone that stays open keeps its generation
pub record StaysOpen {B : Type 0} (old new : BankedClone B) : Type 0 where
  pub opened : new.closed ≡ None
  pub generation : new.generation ≡ old.generation

-- a clone whose banks were swapped had a generation left for it and is open, and what they keep is of the next generation
pub record IsSwappedOpen {B : Type 0} (old new : BankedClone B) : Type 0 where
  pub left : old.generation ≢ 2 ^ 64 - 1
  pub opened : new.closed ≡ None
  pub generation : new.generation ≡ old.generation + 1

-- ---- a clone that was made, or that was not

-- the banks of a clone that was made, or that was not
abbrev pub banks_of_made : {B : Type 0} → Result (BankedClone B) (MakeFault × B) → B
banks_of_made (Ok clone) = clone.banks
banks_of_made (Err refused) = refused.1

-- what a refusal gives back for want of memory is as it was, or the device was called
abbrev pub GivesBanksBack : {B : Type 0} → (B → Option Log) → (B → Meter) → B → MakeFault × B → Type 0
GivesBanksBack log meter old refused = refused.0 ≡ make.NoMemory → (refused.1 ≡ old) ⊎ WasCalled log meter old refused.1

-- the device failed, so no clone was made
abbrev pub FailsToFound : {B : Type 0} → Result (BankedClone B) (MakeFault × B) → Type 0
FailsToFound (Ok clone) = ⊥
FailsToFound (Err refused) = refused.0 ≡ make.Device
