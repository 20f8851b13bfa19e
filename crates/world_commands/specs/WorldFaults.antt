-- The faults of a world, after those of the banks of its clones. `made_fault` cites it.
use Rattle.std.specs.Prelude.{ℕ}
use Rattle.crash_laws.specs.journal_store.declared.faults.MakeFault.{MakeFault}
use Rattle.crash_laws.specs.journal_store.declared.faults.MakeFault.TheVariants as make
use Rattle.world_commands.specs.declared.faults.WorldFault.{WorldFault}
use Rattle.world_commands.specs.declared.faults.WorldFault.TheVariants as faults

-- the fault of a clone that could not be made
abbrev pub fault_of_made : ℕ → MakeFault → WorldFault
fault_of_made clone make.Device = faults.Device clone
fault_of_made clone make.NoMemory = faults.NoMemory
