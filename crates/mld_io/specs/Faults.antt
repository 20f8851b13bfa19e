-- Faults, and how they are counted.
use Rattle.std.specs.Prelude.{◌≡◌, ℕ, ◌+◌, ◌-◌, ◌^◌, ◌≤◌, min, Result, OnOk, OnErr, IsErrOf}
use Rattle.mld_io.specs.declared.faults.IoFault.{IoFault}
use Rattle.mld_io.specs.declared.faults.IoFault.TheVariants as io
use Rattle.mld_io.specs.declared.faults.LineFault.{LineFault}
use Rattle.mld_io.specs.declared.faults.LineFault.TheVariants as line
use Rattle.mld_io.specs.declared.faults.WriteFault.{WriteFault}
use Rattle.mld_io.specs.declared.faults.WriteFault.TheVariants as write

-- a count after one more, which stops at its type's end
abbrev pub counted : ℕ → ℕ
counted n = min (n + 1) (2 ^ 64 - 1)

-- the count of faults rose, or stands at its type's end
abbrev pub Rose : ℕ → ℕ → Type 0
Rose before now = counted before ≤ now

-- a count of faults never falls, a call that failed has raised it, and no other has
pub record HasCause {T E : Type 0} (before now : ℕ) (result : Result T E) : Type 0 where
  pub later : before ≤ now
  pub failed : OnErr result (Rose before now)
  pub good : OnOk result (now ≡ before)

-- a count of faults never falls, a failed write has raised it, and want of memory or a good write has not
pub record HasSinkCause {T : Type 0} (before now : ℕ) (result : Result T IoFault) : Type 0 where
  pub later : before ≤ now
  pub failed : IsErrOf result io.Failed → Rose before now
  pub no_memory : IsErrOf result io.NoMemory → now ≡ before
  pub good : OnOk result (now ≡ before)

-- a count of faults never falls, `ReadFault` is told only where it rose, and any other answer only where it didn't
pub record HasLineCause {T : Type 0} (before now : ℕ) (result : Result T LineFault) : Type 0 where
  pub later : before ≤ now
  pub failed : IsErrOf result line.ReadFault → Rose before now
  pub too_large : IsErrOf result line.TooLarge → now ≡ before
  pub no_memory : IsErrOf result line.NoMemory → now ≡ before
  pub good : OnOk result (now ≡ before)

-- a count of faults never falls, `Failed` is told only where it rose, and any other answer only where it didn't
pub record HasWriteCause {T : Type 0} (before now : ℕ) (result : Result T WriteFault) : Type 0 where
  pub later : before ≤ now
  pub failed : IsErrOf result write.Failed → Rose before now
  pub no_memory : IsErrOf result write.NoMemory → now ≡ before
  pub good : OnOk result (now ≡ before)

-- what `write_all` answers where the sink refused a part
abbrev pub write_fault_of : IoFault → WriteFault
write_fault_of io.Failed = write.Failed
write_fault_of io.NoMemory = write.NoMemory
