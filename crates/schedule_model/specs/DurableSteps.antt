-- The durable steps of a command, on the device of its clone: of a crash line those that stand. `durable_steps_lead` cites it.
use Rattle.std.specs.Prelude.{◌≡◌, ◌≢◌, ℕ, List, length, Bool}
use Rattle.schedule_model.specs.declared.Command.{Command}
use Rattle.schedule_model.specs.declared.Command.TheVariants.{Crash}
use Rattle.mld_model.specs.Clone.{kept_of}
use Rattle.mld_model.specs.World.{World, clone_at, clone_count}
use Rattle.mld_model.specs.Reply.{Reply}
use Rattle.mld_model.specs.Durable.{DurableStep, kept_after, history_after}
use Rattle.schedule_model.specs.Crashing.{Crashes}
use Rattle.schedule_model.specs.PlainDurable.{PlainDurableSteps}
use Rattle.schedule_model.specs.Step.{HasCloneNumbers, IsCommandInForm, number_of_clone, Step}

-- the durable steps of a command by this choice: the world before, the command, the reply, the world after, the steps
unfoldable pub DurableStepsBy : Bool → World → Command → Reply → World → List DurableStep → Type 0
DurableStepsBy choice world (Crash call leave task) reply next steps = Crashes choice call world task steps reply next
DurableStepsBy choice world command reply next steps = PlainDurableSteps world command reply next steps

-- the durable steps of a command, by some choice
unfoldable pub DurableSteps : World → Command → Reply → World → List DurableStep → Type 0
DurableSteps world (Crash call leave task) reply next steps = (choice : Bool) × Crashes choice call world task steps reply next
DurableSteps world command reply next steps = PlainDurableSteps world command reply next steps

-- the step of the world has durable steps, and all of them together lead to the next world
pub record LeadsDurably (world : World) (command : Command) (reply : Reply) (next : World) : Type 0 where
  pub steps : List DurableStep
  pub are : DurableSteps world command reply next steps
  -- they give what the clone keeps then, and the history
  pub kept : kept_after (kept_of (clone_at world (number_of_clone command))) steps ≡ kept_of (clone_at next (number_of_clone command))
  pub made : history_after world.history steps ≡ next.history
  -- what the other clones keep stays as it was
  pub others : (other : ℕ) → other ≢ number_of_clone command → kept_of (clone_at next other) ≡ kept_of (clone_at world other)

-- each step of a world by a command whose clones there are has durable steps that lead to the next world
abbrev pub DurableStepsLead : Type 0
DurableStepsLead = (world : World) (command : Command) (reply : Reply) (next : World)
    → HasCloneNumbers command → length world.clones ≡ clone_count → Step world command reply next → LeadsDurably world command reply next

-- by each choice the durable steps of a step are one list
abbrev pub OneDurableList : Type 0
OneDurableList = (choice : Bool) (world : World) (command : Command) (reply : Reply) (next : World) (steps other : List DurableStep) → IsCommandInForm command
    → DurableStepsBy choice world command reply next steps → DurableStepsBy choice world command reply next other → steps ≡ other
