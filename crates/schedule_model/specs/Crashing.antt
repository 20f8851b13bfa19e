-- What a crash line does: the device of its clone is armed to crash at a call, and its command is done.
-- The laws of `crash_lines` and `Step` are made of it.
use Rattle.std.specs.Prelude.{◌≡◌, ℕ, ◌+◌, ◌<◌, ◌≤◌, List, Bool}
use Rattle.schedule_model.specs.declared.Command.{Command}
use Rattle.schedule_model.specs.declared.CrashTask.{CrashTask}
use Rattle.schedule_model.specs.declared.CrashTask.TheVariants as tasks
use Rattle.mld_model.specs.Clone.{Clone, Empty, Down}
use Rattle.mld_model.specs.CloneStep.{ByState}
use Rattle.mld_model.specs.World.{World, clone_at}
use Rattle.mld_model.specs.Reply.{Reply, Crashed, ThenCrashed}
use Rattle.mld_model.specs.Durable.{DurableStep}
use Rattle.mld_model.specs.CrashFronts.{durable_calls, standing_front, with_clone_down, after_crash}
use Rattle.schedule_model.specs.Tasks.{command_of, number_of_task, IsToOpen}
use Rattle.schedule_model.specs.PlainStep.{PlainStep}
use Rattle.schedule_model.specs.PlainDurable.{PlainDurableSteps}

-- the device of a clone is armed where the clone is live or asks, or where it is down and opens
abbrev pub IsArmed : Clone → CrashTask → Type 0
IsArmed clone task = ByState clone ⊥ (Unit {0}) (IsToOpen task) (λ stored held. Unit {0})

-- the clone is live or asks
abbrev pub IsUp : Clone → Type 0
IsUp clone = ByState clone ⊥ (Unit {0}) ⊥ (λ stored held. Unit {0})

-- how many calls an opening makes: both sides of a clone that is down are synced
abbrev pub opening_calls : Clone → CrashTask → ℕ
opening_calls Empty (tasks.Open number) = 2
opening_calls (Down stored) (tasks.Open number) = 2
opening_calls clone task = 0

-- how many calls the command makes that has these durable steps
abbrev pub task_calls : Clone → CrashTask → List DurableStep → ℕ
task_calls clone task steps = opening_calls clone task + durable_calls steps

-- what a plain command does: its reply, the world after it, and its durable steps
pub record Deed (world : World) (command : Command) : Type 0 where
  pub reply : Reply
  pub after : World
  pub does : PlainStep world command reply after
  pub steps : List DurableStep
  pub are : PlainDurableSteps world command reply after steps

-- A crash line at this call, by this choice: the durable steps that stand, the reply, and the world after it.
pub data Crashes (choice : Bool) (call : ℕ) (world : World) (task : CrashTask) (steps : List DurableStep) (reply : Reply) (next : World) : Type 0 where
  -- the device isn't armed, and the command is done
  isnt_armed : ¬ IsArmed (clone_at world (number_of_task task)) task → PlainStep world (command_of task) reply next
      → PlainDurableSteps world (command_of task) reply next steps → Crashes choice call world task steps reply next
  -- the call is one of those that the command makes: it is caught, and a front of the durable steps stands
  is_caught : IsArmed (clone_at world (number_of_task task)) task → (deed : Deed world (command_of task))
      → call < task_calls (clone_at world (number_of_task task)) task deed.steps → steps ≡ standing_front choice call deed.steps → reply ≡ Crashed
      → next ≡ after_crash world (number_of_task task) steps → Crashes choice call world task steps reply next
  -- it makes no such call: it is done, and then its clone crashes
  isnt_caught : IsArmed (clone_at world (number_of_task task)) task → (deed : Deed world (command_of task))
      → task_calls (clone_at world (number_of_task task)) task deed.steps ≤ call → steps ≡ deed.steps → reply ≡ ThenCrashed deed.reply
      → next ≡ with_clone_down deed.after (number_of_task task) → Crashes choice call world task steps reply next
