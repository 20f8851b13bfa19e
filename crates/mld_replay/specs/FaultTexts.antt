-- The text of a fault, as it stands on standard error: the `output` of the `Display` of `RunFault`.
use Rattle.std.specs.Prelude.{ℕ, List, ◌++◌, codes}
use Rattle.std.specs.Fmt.{decimal}
use Rattle.mld_replay.specs.declared.run.RunFault.{RunFault}
use Rattle.mld_replay.specs.declared.run.RunFault.TheVariants as faults

-- the text of a fault: the program's name, the number of the line or the clone where there is one, and what went wrong
abbrev pub fault_text : RunFault → List ℕ
fault_text faults.Usage = codes "mld: usage"
fault_text faults.ReadFault = codes "mld: read fault"
fault_text faults.WriteFault = codes "mld: write fault"
fault_text (faults.BadLine line) = codes "mld: line " ++ decimal line ++ codes ": bad line"
fault_text (faults.Device clone) = codes "mld: clone " ++ decimal clone ++ codes ": device fault"
fault_text (faults.NotEmpty clone) = codes "mld: bank " ++ decimal clone ++ codes ": not empty"
fault_text faults.NoMemory = codes "mld: no memory"
fault_text (faults.TooLarge line) = codes "mld: line " ++ decimal line ++ codes ": too large"
