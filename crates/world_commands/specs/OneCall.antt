-- What one call of one clone makes of the clones and their banks. The private calls behind the commands cite it.
use Rattle.std.specs.Prelude.{◌≡◌, ◌+◌, ◌≤◌, ℕ, List, None, Some, Result, Ok, Err, slice_get, slice_set}
use Rattle.mld_io.specs.Arm.{Meter}
use Rattle.mld_model.specs.declared.CloneState.TheVariants as states
use Rattle.crash_laws.specs.clone_core.Banked.{BankedClone}
use Rattle.world_commands.specs.declared.faults.WorldFault.{WorldFault}
use Rattle.world_commands.specs.declared.faults.WorldFault.TheVariants as faults
use Rattle.world_commands.specs.WorldBanks.{BankedState, MetersGoOn, HadNoFault, HadFault, OthersStay}

-- ---- the banks of the clone of a number

-- why a call of them was refused: the fault names the clone, and the call failed; or memory ran out, and they had no fault
abbrev pub FailsAt : ℕ → Meter → Meter → WorldFault → Type 0
FailsAt number before now (faults.Device clone) = (clone ≡ number) × HadFault before now
FailsAt number before now faults.NoMemory = HadNoFault before now

-- and by how it ended: they had none where it was not refused
abbrev pub HasFaultsAt : {T : Type 0} → ℕ → Meter → Meter → Result T WorldFault → Type 0
HasFaultsAt number before now (Ok value) = HadNoFault before now
HasFaultsAt number before now (Err fault) = FailsAt number before now fault

-- the banks of no other clone than that of this number were used
pub record UsesBanksOf {B : Type 0} (meter : B → Meter) (number : ℕ) (old new : List B) : Type 0 where
  pub meters : MetersGoOn meter old new
  pub others : OthersStay number old new

-- ---- the clone

-- a live clone is open after a call, with its generation or the next one
pub record StaysOpenNext {B : Type 0} (old new : BankedClone B) : Type 0 where
  pub opened : new.closed ≡ None
  pub next : new.generation ≤ old.generation + 1

-- the generation of the live clone of the number after one call: it is a clone's first, or at most the next one
pub data IsNextGeneration {B : Type 0} (old : List (BankedState B)) (number generation : ℕ) : Type 0 where
  is_first : generation ≡ 1 → IsNextGeneration old number generation
  is_next : (was : BankedClone B) → slice_get old number ≡ Some (states.Live was) → generation ≤ was.generation + 1 → IsNextGeneration old number generation

-- a live clone after one call is open, and its generation is at most the next one
pub record IsOpenNext {B : Type 0} (old : List (BankedState B)) (number : ℕ) (clone : BankedClone B) : Type 0 where
  pub opened : clone.closed ≡ None
  pub next : IsNextGeneration old number clone.generation

-- a state that the clone of the number may be in after a call that opens no banks: a live clone is open, and one that is down was just so
abbrev pub IsCarried : {B : Type 0} → List (BankedState B) → ℕ → BankedState B → Type 0
IsCarried old number (states.Absent banks) = Unit {0}
IsCarried old number (states.Asking asking) = Unit {0}
IsCarried old number (states.Down banks) = slice_get old number ≡ Some (states.Down banks)
IsCarried old number (states.Live clone) = IsOpenNext old number clone

-- of the clones the one of the number alone may have changed, into such a state
pub record IsCarriedAt {B : Type 0} (old new : List (BankedState B)) (number : ℕ) : Type 0 where
  pub state : BankedState B
  pub now : new ≡ slice_set old number state
  pub carried : IsCarried old number state
