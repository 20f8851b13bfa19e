-- The look at the banks that a run begins with, and what is made of them: `find_filled`, `blanks_of` and what they call cite these.
use Rattle.std.specs.Prelude.{◌≡◌, ◌<◌, ℕ, List, [], Option, Some, slice_get}
use Rattle.mld_io.specs.Arm.{Meter}
use Rattle.mld_io.specs.Disk.{Log}
use Rattle.net_world.specs.world_commands.WorldBanks.{HadNoFault, HadFault}
use Rattle.mld_replay.specs.BankFaults.{HaveFailed}
use Rattle.mld_replay.specs.Filled.{IsFilled, IsFirstFilled}
use Rattle.mld_replay.specs.declared.run.RunFault.{RunFault}
use Rattle.mld_replay.specs.declared.run.RunFault.TheVariants as faults

-- no banks have bytes
abbrev pub AreEmpty : {B : Type 0} → (B → Option Log) → List B → Type 0
AreEmpty {B = B} log banks = (number : ℕ) (one : B) → slice_get banks number ≡ Some one → ¬ IsFilled (log one)

-- none of the banks before this number have bytes
abbrev pub AreEmptyBefore : {B : Type 0} → (B → Option Log) → List B → ℕ → Type 0
AreEmptyBefore {B = B} log banks number = (place : ℕ) (one : B) → place < number → slice_get banks place ≡ Some one → ¬ IsFilled (log one)

-- why a look at the banks of this number stopped: they have bytes; or a call of them failed, which no other answer hides; or memory ran out
abbrev pub StopsLookingAt : ℕ → Option Log → Meter → Meter → RunFault → Type 0
StopsLookingAt number log before now (faults.NotEmpty clone) = (clone ≡ number) × IsFilled log × HadNoFault before now
StopsLookingAt number log before now (faults.Device clone) = (clone ≡ number) × HadFault before now
StopsLookingAt number log before now faults.NoMemory = HadNoFault before now
StopsLookingAt number log before now fault = ⊥

-- why a look at the banks stopped: those of the number are the first that have bytes; or it had come to them when a call of them failed;
-- or memory ran out
abbrev pub StopsLooking : {B : Type 0} → (B → Option Log) → List B → RunFault → Type 0
StopsLooking log banks (faults.NotEmpty clone) = IsFirstFilled log banks clone
StopsLooking log banks (faults.Device clone) = AreEmptyBefore log banks clone
StopsLooking log banks faults.NoMemory = Unit {0}
StopsLooking log banks fault = ⊥

-- why banks were not made blanks: memory ran out, and none are given back; or a call of those of the number failed, and all are given
-- back, in order
abbrev pub StopsBlanking : {B : Type 0} → (B → Meter) → List B → RunFault → List B → Type 0
StopsBlanking meter banks faults.NoMemory back = back ≡ []
StopsBlanking meter banks (faults.Device clone) back = HaveFailed meter clone banks back
StopsBlanking meter banks fault back = ⊥
