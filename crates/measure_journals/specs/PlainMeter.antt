-- The counts of a device that can't be made to crash, and whose faults are all its own.
use Rattle.std.specs.Prelude.{ℕ}
use Rattle.mld_io.specs.Arm.{Meter, Unarmed}

abbrev pub plain_meter : ℕ → Meter
plain_meter faults = record { faults = faults; real_faults = faults; arm = Unarmed }
