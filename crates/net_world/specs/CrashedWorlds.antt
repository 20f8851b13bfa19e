-- A crash line on a running world: its clone's device is armed, its command is done, and the power is cut. `World::step` cites it.
use Rattle.std.specs.Prelude.{◌≡◌, ◌↔◌, ◌⊎◌, ℕ, ◌+◌, List, Option, Some, Result, Ok, Err, slice_get}
use Rattle.mld_io.specs.Arm.{Meter, Unarmed, Caught, armed, revived}
use Rattle.mld_io.specs.Disk.{Log, Revives}
use Rattle.mld_io.specs.declared.banks.Leave.{Leave}
use Rattle.mld_ops.specs.declared.messages.Message.{Message}
use Rattle.jrql_ast.specs.Templates.{insertion_of, deletion_of}
use Rattle.mld_model.specs.Reply as model
use Rattle.mld_model.specs.declared.CloneState.TheVariants as states
use Rattle.schedule_text.specs.schedule_model.declared.Command.TheVariants as commands
use Rattle.schedule_text.specs.schedule_model.declared.CrashTask.{CrashTask}
use Rattle.schedule_text.specs.schedule_model.declared.CrashTask.TheVariants as tasks
use Rattle.schedule_text.specs.schedule_model.Tasks.{IsToOpen}
use Rattle.world_commands.specs.schedule_replies.declared.replies.Reply.{Reply}
use Rattle.world_commands.specs.schedule_replies.Replies.{reply_value}
use Rattle.world_commands.specs.declared.faults.WorldFault.{WorldFault}
use Rattle.world_commands.specs.declared.faults.WorldFault.TheVariants as faults
use Rattle.world_commands.specs.declared.keeping.Keeping.TheVariants as keepings
use Rattle.world_commands.specs.declared.parts.Parts.{Parts}
use Rattle.world_commands.specs.Doings.{doing_open, doing_update, doing_deliver, doing_keep}
use Rattle.world_commands.specs.LeftBanks.{WorkOnBanks}
use Rattle.world_commands.specs.States.{Becomes}
use Rattle.world_commands.specs.WorldBanks.{BankedState, banks_of_state}
use Rattle.world_commands.specs.WorldEnds.{KeepsState}
use Rattle.world_commands.specs.WorldParts.{running_of}
use Rattle.world_commands.specs.Worlds.{MovesOnBanks}
use Rattle.net_world.specs.declared.crash.Crashed.{Crashed}
use Rattle.net_world.specs.declared.crash.Crashed.TheVariants as crashed

-- ---- arms

-- none of these banks is armed, and none has caught a call
abbrev pub AreUnarmed : {B : Type 0} → (B → Meter) → List B → Type 0
AreUnarmed {B = B} meter banks = (number : ℕ) (one : B) → slice_get banks number ≡ Some one → (meter one).arm ≡ Unarmed

-- the device of a clone in this state is armed: it is live or asks, or it is down and told to open
abbrev pub IsArmedIn : {B : Type 0} → BankedState B → CrashTask → Type 0
IsArmedIn (states.Absent banks) task = ⊥
IsArmedIn (states.Asking asking) task = Unit {0}
IsArmedIn (states.Down banks) task = IsToOpen task
IsArmedIn (states.Live clone) task = Unit {0}

-- a state of a clone, on other banks
abbrev pub with_banks : {B : Type 0} → BankedState B → B → BankedState B
with_banks (states.Absent old) banks = states.Absent banks
with_banks (states.Asking asking) banks = states.Asking (record asking { banks = banks })
with_banks (states.Down old) banks = states.Down banks
with_banks (states.Live clone) banks = states.Live (record clone { banks = banks })

-- a state of a clone is the same but for the arm of its banks
pub record IsArmedAs {B : Type 0} (log : B → Option Log) (meter : B → Meter) (call : ℕ) (leave : Leave) (old new : BankedState B) : Type 0 where
  pub banks : B
  pub same : new ≡ with_banks old banks
  pub log_is : log banks ≡ log (banks_of_state old)
  pub meter_is : meter banks ≡ armed call leave (meter (banks_of_state old))

-- the device of the clone of the number was armed, and nothing else changed
pub record ArmsAt {B : Type 0} (log : B → Option Log) (meter : B → Meter) (call : ℕ) (leave : Leave) (number : ℕ) (old new : List (BankedState B)) : Type 0 where
  pub was : BankedState B
  pub now : BankedState B
  pub becomes : Becomes old new number was now
  pub is : IsArmedAs log meter call leave was now

-- the clone of the number is down on banks that were revived; `Told` says that they had caught a call
pub record CutsPower {B : Type 0} (log : B → Option Log) (meter : B → Meter) (number : ℕ) (old new : List (BankedState B)) (Told : Type 0) : Type 0 where
  pub was : BankedState B
  pub now : B
  pub becomes : Becomes old new number was (states.Down now)
  pub kept : KeepsState log was
  pub revives : (l : Log) → log (banks_of_state was) ≡ Some l → Revives l (log now)
  pub meter_is : meter now ≡ revived (meter (banks_of_state was))
  pub told : Told ↔ ((meter (banks_of_state was)).arm ≡ Caught)

-- ---- the command

-- what a clone may do on its banks for the command of a crash line
abbrev pub doing_task : List Message → CrashTask → WorkOnBanks
doing_task messages (tasks.Add number triple) = doing_update (insertion_of triple)
doing_task messages (tasks.Remove number triple) = doing_update (deletion_of triple)
doing_task messages (tasks.Update number plan) = doing_update plan
doing_task messages (tasks.Deliver message number) = doing_deliver messages message
doing_task messages (tasks.Compact number) = doing_keep keepings.Compacted
doing_task messages (tasks.Truncate number count) = doing_keep (keepings.Last count)
doing_task messages (tasks.Open number) = doing_open

-- ---- how it ended

-- the reply of the model
abbrev pub crashed_reply : Crashed → model.Reply
crashed_reply (crashed.Unarmed reply) = reply_value reply
crashed_reply crashed.Caught = model.Crashed
crashed_reply (crashed.Behind reply) = model.ThenCrashed (reply_value reply)

-- how a crash line ended whose command, for which its device was armed, ended so: a fault of the device that the arm made is none
abbrev pub IsEndedAs : Result Reply WorldFault → Type 0 → Result Crashed WorldFault → Type 0
IsEndedAs (Ok reply) Told result = result ≡ Ok (crashed.Behind reply)
IsEndedAs (Err faults.NoMemory) Told result = result ≡ Err faults.NoMemory
IsEndedAs (Err (faults.Device clone)) Told result = (Told × (result ≡ Ok crashed.Caught)) ⊎ ((¬ Told) × (result ≡ Err (faults.Device clone)))

-- and one that isn't armed, which ends as its command
abbrev pub IsUnarmedAs : Result Reply WorldFault → Result Crashed WorldFault → Type 0
IsUnarmedAs (Ok reply) result = result ≡ Ok (crashed.Unarmed reply)
IsUnarmedAs (Err fault) result = result ≡ Err fault

-- the crash line was done, and this is how it ended: it is the model's step with that reply, after any number of steps
pub record CrashesAs {B : Type 0} (log : B → Option Log) (old : Parts B) (call : ℕ) (leave : Leave) (task : CrashTask) (new : Parts B) (ended : Crashed) : Type 0 where
  pub moves : (steps : ℕ) → MovesOnBanks log (running_of old steps) (commands.Crash call leave task) (crashed_reply ended) (running_of new (steps + 1))
