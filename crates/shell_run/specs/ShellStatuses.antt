-- How a run of the shell ends, by its fault: its status, which `shell` and the functions below it cite, and what the fault of a part makes of it
-- (`words_fault`, `input_fault`, `line_fault`, `write_fault`).
use Rattle.std.specs.Prelude.{ℕ, Option, None, Some}
use Rattle.mld_io.specs.declared.faults.WriteFault.{WriteFault}
use Rattle.mld_io.specs.declared.faults.WriteFault.TheVariants as writes
use Rattle.input_lines.specs.declared.faults.InputFault.{InputFault}
use Rattle.input_lines.specs.declared.faults.InputFault.TheVariants as inputs
use Rattle.shell_run.specs.declared.run.ShellFault.{ShellFault}
use Rattle.shell_run.specs.declared.run.ShellFault.TheVariants as faults
use Rattle.shell_run.specs.declared.faults.FolderFault.{FolderFault}
use Rattle.shell_run.specs.declared.faults.FolderFault.TheVariants as words
use Rattle.shell_session.specs.declared.faults.SessionFault.{SessionFault}
use Rattle.shell_session.specs.declared.faults.SessionFault.TheVariants as sessions

-- the status of the program
abbrev pub shell_status : Option ShellFault → ℕ
shell_status None = 0
shell_status (Some faults.Usage) = 1
shell_status (Some faults.ReadFault) = 2
shell_status (Some faults.WriteFault) = 3
shell_status (Some faults.NoMemory) = 5
shell_status (Some faults.Device) = 6
shell_status (Some (faults.TooLarge line)) = 7

-- ---- parts of a run

-- why words were not read
abbrev pub fault_of_words : FolderFault → ShellFault
fault_of_words words.Usage = faults.Usage
fault_of_words words.NoMemory = faults.NoMemory

-- why a line was not done
abbrev pub fault_of_line : SessionFault → ShellFault
fault_of_line sessions.Device = faults.Device
fault_of_line sessions.NoMemory = faults.NoMemory

-- why there is no next line
abbrev pub shell_fault_of_input : InputFault → ShellFault
shell_fault_of_input inputs.ReadFault = faults.ReadFault
shell_fault_of_input (inputs.TooLarge line) = faults.TooLarge line
shell_fault_of_input inputs.NoMemory = faults.NoMemory

-- why a reply was not written whole
abbrev pub shell_fault_of_write : WriteFault → ShellFault
shell_fault_of_write writes.Failed = faults.WriteFault
shell_fault_of_write writes.NoMemory = faults.NoMemory
