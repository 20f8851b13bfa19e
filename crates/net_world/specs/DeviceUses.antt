-- What a step does with the device of its clone: where it calls it, and how a crash line arms it. `World::step` cites it.
use Rattle.std.specs.Prelude.{◌≡◌, ◌≢◌, ◌⊎◌, ℕ, List, [], Option, Some, slice_get, map}
use Rattle.mld_io.specs.Arm.{Arm, Unarmed, Armed, Caught, Meter, armed, revived}
use Rattle.mld_io.specs.Disk.{Log, Revives}
use Rattle.mld_io.specs.declared.banks.Leave.{Leave}
use Rattle.mld_model.specs.Clone.{Clone}
use Rattle.mld_model.specs.CloneStep.{ByState}
use Rattle.mld_model.specs.Sound.{IsSound}
use Rattle.mld_model.specs.World.{World, clone_at}
use Rattle.schedule_text.specs.schedule_model.Crashing.{Deed, IsArmed}
use Rattle.schedule_text.specs.schedule_model.Step.{number_of_clone}
use Rattle.schedule_text.specs.schedule_model.Tasks.{command_of, number_of_task}
use Rattle.schedule_text.specs.schedule_model.declared.Command.{Command}
use Rattle.schedule_text.specs.schedule_model.declared.Command.TheVariants.{Open, Crash}
use Rattle.schedule_text.specs.schedule_model.declared.CrashTask.{CrashTask}
use Rattle.world_commands.specs.declared.faults.WorldFault.{WorldFault}
use Rattle.world_commands.specs.declared.faults.WorldFault.TheVariants as faults
use Rattle.world_commands.specs.declared.parts.Parts.{Parts}
use Rattle.world_commands.specs.WorldBanks.{BankedWorld, banks_of, banks_of_state, StandsOnBanks}
use Rattle.world_commands.specs.WorldParts.{running_of}

-- ---- whether the device is called

-- the clone is down, with something stored or nothing
abbrev pub IsDownClone : Clone → Type 0
IsDownClone clone = ByState clone ⊥ ⊥ (Unit {0}) (λ stored held. ⊥)

-- a command needs the device of its clone: it has durable steps there, or it opens the clone, which is down
pub data NeedsDevice (world : World) (command : Command) : Type 0 where
  has_durable_steps : (deed : Deed world command) → deed.steps ≢ [] → NeedsDevice world command
  opens_banks : (number : ℕ) → command ≡ Open number → IsDownClone (clone_at world number) → NeedsDevice world command

-- no call was made of these banks, which are the same, and no device failed
pub record CallsNone {B : Type 0} (was now : B) (ended : Option WorldFault) : Type 0 where
  pub same : now ≡ was
  pub unfailed : (clone : ℕ) → ended ≢ Some (faults.Device clone)

-- ---- how it is armed

-- a device armed so leaves this much of what isn't synced, or it has caught a call
abbrev pub StillLeaves : Leave → Arm → Type 0
StillLeaves leave Unarmed = ⊥
StillLeaves leave (Armed calls now) = now ≡ leave
StillLeaves leave Caught = Unit {0}

-- A device that wasn't armed was, to catch this call and to leave this much, and nothing else was done to it (`ready`); it stayed so until its power
-- went (`behind`), and has power again now.
pub record CrashesArmed {B : Type 0} (log : B → Option Log) (meter : B → Meter) (call : ℕ) (leave : Leave) (was now : B) : Type 0 where
  pub ready : B
  pub behind : B
  pub arms : meter ready ≡ armed call leave (meter was)
  pub nothing_else : log ready ≡ log was
  pub leaves : StillLeaves leave (meter behind).arm
  pub revives : (l : Log) → log behind ≡ Some l → Revives l (log now)
  pub unarmed : meter now ≡ revived (meter behind)

-- a crash line whose device is armed: by its own call, and to leave what it names; and the device fails only where the command needs it
pub record UsesArmed {B : Type 0} (log : B → Option Log) (meter : B → Meter) (call : ℕ) (leave : Leave) (world : World) (task : CrashTask) (was now : B) (ended : Option WorldFault) : Type 0 where
  pub is_armed : IsArmed (clone_at world (number_of_task task)) task
  pub crashes : CrashesArmed log meter call leave was now
  pub needs : (clone : ℕ) → ended ≡ Some (faults.Device clone) → NeedsDevice world (command_of task)

-- ---- a step

-- what a step did with the banks of its clone, by the fault that it ended with, if any: the command needs the device, or made no call; a crash line armed
-- it, or made no call where it isn't to be armed
abbrev pub UsesDevice : {B : Type 0} → (B → Option Log) → (B → Meter) → World → Command → B → B → Option WorldFault → Type 0
UsesDevice log meter world (Crash call leave task) was now ended =
    UsesArmed log meter call leave world task was now ended ⊎ ((¬ IsArmed (clone_at world (number_of_task task)) task) × CallsNone was now ended)
UsesDevice log meter world command was now ended = NeedsDevice world command ⊎ CallsNone was now ended

-- so it is for each sound world that the running one stood for
abbrev pub UsesDeviceOf : {B : Type 0} → (B → Option Log) → (B → Meter) → BankedWorld B → Command → List B → Option WorldFault → Type 0
UsesDeviceOf {B = B} log meter old command new ended = (world : World) → StandsOnBanks log old world → IsSound world → (was now : B)
    → slice_get (banks_of old) (number_of_clone command) ≡ Some was → slice_get new (number_of_clone command) ≡ Some now
    → UsesDevice log meter world command was now ended

-- after any number of steps
abbrev pub UsesDeviceAfter : {B : Type 0} → (B → Option Log) → (B → Meter) → Parts B → Command → Parts B → Option WorldFault → Type 0
UsesDeviceAfter log meter old command new ended = (steps : ℕ) → UsesDeviceOf log meter (running_of old steps) command (map banks_of_state new.clones.items) ended
