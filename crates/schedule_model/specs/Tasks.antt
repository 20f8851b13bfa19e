-- The command of a crash line. The laws of `crash_lines` and `Step` are made of it.
use Rattle.std.specs.Prelude.{ℕ}
use Rattle.schedule_model.specs.declared.Command.{Command}
use Rattle.schedule_model.specs.declared.Command.TheVariants.{Add, Remove, Update, Deliver, Compact, Truncate, Open, Crash}
use Rattle.schedule_model.specs.declared.CrashTask.{CrashTask}
use Rattle.schedule_model.specs.declared.CrashTask.TheVariants as tasks

-- the command, as it stands in a line of its own
abbrev pub command_of : CrashTask → Command
command_of (tasks.Add number triple) = Add number triple
command_of (tasks.Remove number triple) = Remove number triple
command_of (tasks.Update number plan) = Update number plan
command_of (tasks.Deliver message number) = Deliver message number
command_of (tasks.Compact number) = Compact number
command_of (tasks.Truncate number keep) = Truncate number keep
command_of (tasks.Open number) = Open number

-- the command that a line does: that of a crash line stands within it
abbrev pub command_done : Command → Command
command_done (Crash call leave task) = command_of task
command_done command = command

-- the number of its clone
abbrev pub number_of_task : CrashTask → ℕ
number_of_task (tasks.Add number triple) = number
number_of_task (tasks.Remove number triple) = number
number_of_task (tasks.Update number plan) = number
number_of_task (tasks.Deliver message number) = number
number_of_task (tasks.Compact number) = number
number_of_task (tasks.Truncate number keep) = number
number_of_task (tasks.Open number) = number

-- it is `open`
abbrev pub IsToOpen : CrashTask → Type 0
IsToOpen (tasks.Open number) = Unit {0}
IsToOpen task = ⊥
