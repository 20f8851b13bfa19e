-- What a plain command does in the model, beside the changes that its clone would make of its banks.
use Rattle.std.specs.Prelude.{ℕ, List}
use Rattle.clone_core.specs.journal_sides.Pairs.{PairReading}
use Rattle.mld_model.specs.Clone.{kept_of}
use Rattle.mld_model.specs.Durable.{DurableStep}
use Rattle.mld_model.specs.Reply.{Reply, Did, Took, Merged, Answer, Joined}
use Rattle.mld_model.specs.World.{World, clone_at}
use Rattle.schedule_model.specs.declared.Command.{Command}
use Rattle.schedule_model.specs.declared.CrashTask.{CrashTask}
use Rattle.schedule_model.specs.declared.CrashTask.TheVariants as tasks
use Rattle.schedule_model.specs.Crashing.{Deed}
use Rattle.schedule_model.specs.PlainDurable.{PlainDurableSteps}
use Rattle.clone_core.specs.clone_parts.KeptSteps.{KeptStep}
use Rattle.crash_laws.specs.CarriedSteps.{Carries, owner_at, WritesOnce}

-- a plain command of the clone of the number does this in the model, and these changes of its banks, which read to this, carry its durable steps
pub record CarriedDeed (world : World) (command : Command) (number : ℕ) (reading : PairReading) (steps : List KeptStep) : Type 0 where
  pub deed : Deed world command
  pub carries : Carries (owner_at world number) world.history reading (kept_of (clone_at world number)) steps deed.steps
  pub once : WritesOnce steps

-- the step that was made with this reply has durable steps that these changes carry
pub record CarriesDone (world : World) (command : Command) (number : ℕ) (reading : PairReading) (steps : List KeptStep) (reply : Reply) (next : World) : Type 0 where
  pub durable : List DurableStep
  pub are : PlainDurableSteps world command reply next durable
  pub carries : Carries (owner_at world number) world.history reading (kept_of (clone_at world number)) steps durable
  pub once : WritesOnce steps

-- the reply tells of nothing that a clone came to keep
abbrev pub TellsOfNone : Reply → Type 0
TellsOfNone (Did dot message) = ⊥
TellsOfNone (Took ranges) = ⊥
TellsOfNone (Merged ranges) = ⊥
TellsOfNone (Answer numbers) = ⊥
TellsOfNone (Joined leaf) = ⊥
TellsOfNone reply = Unit {0}

-- the command of a crash line is none that takes a message
abbrev pub TakesNoMessage : CrashTask → Type 0
TakesNoMessage (tasks.Deliver message number) = ⊥
TakesNoMessage task = Unit {0}
