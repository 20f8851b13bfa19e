-- What the device over files tells.
use Rattle.std.specs.Prelude.{◌≡◌, ℕ, Result, Ok, Err}
use Rattle.mld_io.specs.declared.faults.IoFault.{IoFault}
use Rattle.mld_io.specs.declared.faults.IoFault.TheVariants as io
use Rattle.mld_io.specs.declared.file_banks.FileBanks.{FileBanks}
use Rattle.mld_io.specs.Arm.{Meter}
use Rattle.mld_io.specs.Arm.Arm.{Unarmed}
use Rattle.mld_io.specs.Faults.{counted}

-- the meter of a device that can't be made to crash: its faults are all real
abbrev pub unarmed : ℕ → Meter
unarmed count = record { faults = count; real_faults = count; arm = Unarmed }

-- the meter of the device over files
abbrev pub file_meter : {R : Type 0} → FileBanks R → Meter
file_meter banks = unarmed banks.faults

-- the meter of one that has made no call
abbrev pub fresh_meter : Meter
fresh_meter = unarmed 0

-- a value is told as it is, and leaves the count of faults; a failure is told as `Failed`, and counted
abbrev pub TellsAnswer : {T E : Type 0} → Result T E → ℕ → Result T IoFault → ℕ → Type 0
TellsAnswer (Ok value) before told now = (told ≡ Ok value) × (now ≡ before)
TellsAnswer (Err error) before told now = (told ≡ Err io.Failed) × (now ≡ counted before)
