-- What a step of a running world has to do with the model. `World::step` cites it.
use Rattle.std.specs.Prelude.{◌≡◌, ℕ, ◌+◌, List, [], ◌∷◌, ◌++◌, Option, slice_set}
use Rattle.mld_ops.specs.Entry.{EntryValue}
use Rattle.mld_ops.specs.Messages.{MessageValue, CarriesEntry}
use Rattle.jrql_ast.specs.declared.plans.UpdatePlan.{UpdatePlan}
use Rattle.jrql_ast.specs.Templates.{insertion_of, deletion_of}
use Rattle.schedule_model.specs.declared.Command.{Command}
use Rattle.schedule_model.specs.declared.Command.TheVariants.{Add, Remove, Update}
use Rattle.mld_model.specs.Comparing.{ClocksCompare}
use Rattle.mld_model.specs.World.{World, numbered}
use Rattle.mld_model.specs.Reply.{Reply, IsAbsent, IsAsking, IsDown, IsLive}
use Rattle.schedule_model.specs.Step.{Step}
use Rattle.mld_model.specs.Sound.{IsSound}
use Rattle.mld_model.specs.declared.CloneState.TheVariants as states
use Rattle.mld_model.specs.Local.{LocalClone}
use Rattle.mld_model.specs.StandsFor.{RunningClone, RunningWorld, StandsFor}

-- how many steps a running world may make: no tick is above the number of steps, so a clone has a tick left for each of them
abbrev pub step_limit : ℕ
step_limit = 4294967295

-- a running world after one more step
abbrev pub stepped : RunningWorld → RunningWorld
stepped running = record running { steps = running.steps + 1 }

-- with another clone
abbrev pub stepped_with : RunningWorld → ℕ → LocalClone → RunningWorld
stepped_with running number clone = record running { clones = slice_set running.clones number (states.Live clone); steps = running.steps + 1 }

-- with another state of a clone
abbrev pub stepped_into : RunningWorld → ℕ → RunningClone → RunningWorld
stepped_into running number state = record running { clones = slice_set running.clones number state; steps = running.steps + 1 }

-- with another state of a clone and one more message
abbrev pub stepped_telling : RunningWorld → ℕ → RunningClone → MessageValue → RunningWorld
stepped_telling running number state message =
    record running { clones = slice_set running.clones number state; messages = running.messages ++ message ∷ []; steps = running.steps + 1 }

-- with another clone and the message of one more entry
abbrev pub stepped_sending : RunningWorld → ℕ → LocalClone → EntryValue → RunningWorld
stepped_sending running number clone entry = stepped_telling running number (states.Live clone) (CarriesEntry entry)

-- with more messages
abbrev pub stepped_saying : RunningWorld → List MessageValue → RunningWorld
stepped_saying running messages = record running { messages = running.messages ++ messages; steps = running.steps + 1 }

-- the message of a number, as it runs
abbrev pub sent_message : RunningWorld → ℕ → Option MessageValue
sent_message running number = numbered running.messages number

-- there is a sound world that the model's step makes of the world with this reply, and the running world stands for it
pub record Follows (world : World) (command : Command) (reply : Reply) (running : RunningWorld) : Type 0 where
  pub next : World
  pub steps : Step world command reply next
  pub sound : IsSound next
  pub stands : StandsFor running next

-- the command tells the clone of the number to make the update of a plan
abbrev pub IsUpdateOf : Command → ℕ → UpdatePlan → Type 0
IsUpdateOf (Add at triple) number plan = (at ≡ number) × (plan ≡ insertion_of triple)
IsUpdateOf (Remove at triple) number plan = (at ≡ number) × (plan ≡ deletion_of triple)
IsUpdateOf (Update at own) number plan = (at ≡ number) × (plan ≡ own)
IsUpdateOf command number plan = ⊥

-- the reply of a clone that isn't live, which is its state
abbrev pub IsMissingReply : RunningClone → Reply → Type 0
IsMissingReply (states.Absent blank) reply = reply ≡ IsAbsent
IsMissingReply (states.Asking asker) reply = reply ≡ IsAsking
IsMissingReply (states.Down device) reply = reply ≡ IsDown
IsMissingReply (states.Live live) reply = ⊥

-- the reply of a clone that is asked to open and isn't down, which is its state
abbrev pub IsStandingReply : RunningClone → Reply → Type 0
IsStandingReply (states.Absent blank) reply = reply ≡ IsAbsent
IsStandingReply (states.Asking asker) reply = reply ≡ IsAsking
IsStandingReply (states.Down device) reply = ⊥
IsStandingReply (states.Live live) reply = reply ≡ IsLive

-- the reply of a clone that takes no message at all, which is its state: it is absent or down
abbrev pub IsAwayReply : RunningClone → Reply → Type 0
IsAwayReply (states.Absent blank) reply = reply ≡ IsAbsent
IsAwayReply (states.Down device) reply = reply ≡ IsDown
IsAwayReply state reply = ⊥

-- how the dots of two clones alone compare
abbrev pub LocallyCompares : LocalClone → LocalClone → Reply → Type 0
LocallyCompares live other reply = ClocksCompare live.ticks other.ticks reply
