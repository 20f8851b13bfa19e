-- The counts of faults of a device, and how it is armed to crash.
use Rattle.std.specs.Prelude.{◌≡◌, ◌⊎◌, ℕ, ◌+◌, ◌-◌, ◌<◌, ◌≤◌}
use Rattle.mld_io.specs.declared.banks.Leave.{Leave}
use Rattle.mld_io.specs.Faults.{counted}

-- how a device is armed; a device that can't be made to crash is never armed
pub data Arm : Type 0 where
  -- it isn't
  Unarmed : Arm
  -- so many calls that write or sync are still done, and the next one is caught; the crash then leaves this of the unsynced writes
  Armed : ℕ → Leave → Arm
  -- one was caught, and each call since fails, until the device is revived
  Caught : Arm

-- the count of all faults, the count of the real ones, which no arm made, and the arm
pub record Meter : Type 0 where
  pub faults : ℕ
  pub real_faults : ℕ
  pub arm : Arm

-- what so many calls leave of an arm, of which some may not have been done: it is lowered by that number at most, catches
-- only where the number is below it, and says the same leave
abbrev pub LowersAtMost : ℕ → Arm → Arm → Type 0
LowersAtMost calls Unarmed now = now ≡ Unarmed
LowersAtMost calls (Armed number leave) Unarmed = ⊥
LowersAtMost calls (Armed number leave) (Armed left now_leave) = (left ≤ number) × (number ≤ left + calls) × (now_leave ≡ leave)
LowersAtMost calls (Armed number leave) Caught = number < calls
LowersAtMost calls Caught now = now ≡ Caught

-- what so many calls leave of an arm, all of which were done
abbrev pub LowersBy : ℕ → Arm → Arm → Type 0
LowersBy calls Unarmed now = now ≡ Unarmed
LowersBy calls (Armed number leave) now = (calls ≤ number) × (now ≡ Armed (number - calls) leave)
LowersBy calls Caught now = (calls ≡ 0) × (now ≡ Caught)

-- so many calls were done, and none of them failed
pub record AllDone (calls : ℕ) (before now : Meter) : Type 0 where
  pub lowered : LowersBy calls before.arm now.arm
  pub faults_are : now.faults ≡ before.faults
  pub real_faults_are : now.real_faults ≡ before.real_faults

-- What so many calls that write or sync do to a device's meter. `Done` says that all of them were done, and `Failed` that the
-- device was told to have failed. Calls that read count as none.
pub record Metered (calls : ℕ) (before now : Meter) (Done Failed : Type 0) : Type 0 where
  -- the counts never fall
  pub later : before.faults ≤ now.faults
  pub real_later : before.real_faults ≤ now.real_faults
  pub lowered : LowersAtMost calls before.arm now.arm
  pub done : Done → AllDone calls before now
  -- a failure is counted once, so none of these calls was made behind one that failed too; its cause is the arm or one fault of the
  -- device's own
  pub failed : Failed → now.faults ≡ counted before.faults
  pub cause : Failed → (now.arm ≡ Caught) ⊎ (now.real_faults ≡ counted before.real_faults)
  -- where none is told, none was counted
  pub quiet : ¬ Failed → (now.faults ≡ before.faults) × (now.real_faults ≡ before.real_faults)
  -- a caught call, and each one behind it, isn't a fault of the device's own
  pub caught : now.arm ≡ Caught → now.real_faults ≡ before.real_faults

-- the arm that catches a call after so many, and says what the crash leaves; a device that has caught one stays so
abbrev pub arm_after : ℕ → Leave → Arm → Arm
arm_after calls leave Unarmed = Armed calls leave
arm_after calls leave (Armed number before) = Armed calls leave
arm_after calls leave Caught = Caught

-- a meter once its device is armed
abbrev pub armed : ℕ → Leave → Meter → Meter
armed calls leave meter = record meter { arm = arm_after calls leave meter.arm }

-- a meter once its device is revived
abbrev pub revived : Meter → Meter
revived meter = record meter { arm = Unarmed }
