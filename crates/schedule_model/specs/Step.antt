-- One step of the world: a command, its reply, and the world after it. `World::step` cites it, and the law of `one_step` is made of it.
use Rattle.std.specs.Prelude.{ℕ, ◌<◌, List, Bool}
use Rattle.jrql_ast.specs.InForm.{IsQueryInForm, IsPlanInForm}
use Rattle.schedule_model.specs.declared.Command.{Command}
use Rattle.schedule_model.specs.declared.Command.TheVariants.{Add, Remove, Update, Deliver, Show, Query, Compare, Join, Ask, Compact, Truncate, Stop, Open, Crash}
use Rattle.schedule_model.specs.declared.CrashTask.{CrashTask}
use Rattle.schedule_model.specs.declared.CrashTask.TheVariants as tasks
use Rattle.mld_model.specs.World.{World, clone_count}
use Rattle.mld_model.specs.Reply.{Reply}
use Rattle.mld_model.specs.Durable.{DurableStep}
use Rattle.schedule_model.specs.Tasks.{number_of_task}
use Rattle.schedule_model.specs.PlainStep.{PlainStep}
use Rattle.schedule_model.specs.Crashing.{Crashes}

-- the numbers of clones in a command are those of clones that there are
abbrev pub HasCloneNumbers : Command → Type 0
HasCloneNumbers (Add number triple) = number < clone_count
HasCloneNumbers (Remove number triple) = number < clone_count
HasCloneNumbers (Update number plan) = number < clone_count
HasCloneNumbers (Deliver message number) = number < clone_count
HasCloneNumbers (Show number) = number < clone_count
HasCloneNumbers (Query number read) = number < clone_count
HasCloneNumbers (Join number) = number < clone_count
HasCloneNumbers (Ask number) = number < clone_count
HasCloneNumbers (Compact number) = number < clone_count
HasCloneNumbers (Truncate number keep) = number < clone_count
HasCloneNumbers (Stop number) = number < clone_count
HasCloneNumbers (Open number) = number < clone_count
HasCloneNumbers (Compare number other) = (number < clone_count) × (other < clone_count)
HasCloneNumbers (Crash call leave task) = number_of_task task < clone_count

-- the plan of a crash line's command is in form
abbrev pub IsTaskInForm : CrashTask → Type 0
IsTaskInForm (tasks.Update number plan) = IsPlanInForm plan
IsTaskInForm task = Unit {0}

-- the query of a command is in form, and so is its plan
abbrev pub IsCommandInForm : Command → Type 0
IsCommandInForm (Crash call leave task) = IsTaskInForm task
IsCommandInForm (Query number read) = IsQueryInForm read.query
IsCommandInForm (Update number plan) = IsPlanInForm plan
IsCommandInForm command = Unit {0}

-- what a command says of: the clone that it is done at (the first of two)
abbrev pub number_of_clone : Command → ℕ
number_of_clone (Add number triple) = number
number_of_clone (Remove number triple) = number
number_of_clone (Update number plan) = number
number_of_clone (Deliver message number) = number
number_of_clone (Show number) = number
number_of_clone (Query number read) = number
number_of_clone (Join number) = number
number_of_clone (Ask number) = number
number_of_clone (Compact number) = number
number_of_clone (Truncate number keep) = number
number_of_clone (Stop number) = number
number_of_clone (Open number) = number
number_of_clone (Compare number other) = number
number_of_clone (Crash call leave task) = number_of_task task

-- the command is a crash line
abbrev pub IsCrash : Command → Type 0
IsCrash (Crash call leave task) = Unit {0}
IsCrash command = ⊥

-- The step: the world before, the command, the reply, the world after. A plain command makes its step, and a crash line crashes, by one choice.
-- What the crash leaves of writes that aren't synced is not the model's: the choice stands for it.
unfoldable pub Step : World → Command → Reply → World → Type 0
Step world (Crash call leave task) reply next = (choice : Bool) × (steps : List DurableStep) × Crashes choice call world task steps reply next
Step world command reply next = PlainStep world command reply next

-- the step by this choice, which a plain command doesn't heed
unfoldable pub StepBy : Bool → World → Command → Reply → World → Type 0
StepBy choice world (Crash call leave task) reply next = (steps : List DurableStep) × Crashes choice call world task steps reply next
StepBy choice world command reply next = PlainStep world command reply next
