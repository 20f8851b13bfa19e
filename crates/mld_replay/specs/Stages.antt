-- What the state of a schedule has to do with the stage of the model, and what a line and the end of the lines make of it. `act`, `finish` and the
-- functions that they call cite these, and so do `do_line` and `end_lines`.
use Rattle.std.specs.Prelude.{◌≡◌, ℕ, List, Option, Some, length}
use Rattle.mld_io.specs.Disk.{Log}
use Rattle.mld_model.specs.World.{World, clone_count}
use Rattle.mld_model.specs.Sound.{IsSound}
use Rattle.schedule_text.specs.schedule_model.declared.Command.{Command}
use Rattle.schedule_text.specs.schedule_model.Runs.{Stage, Waiting, SetUp, Running, IsWorldOf, Acts, IsBad}
use Rattle.schedule_text.specs.schedule_model.Schedule.{IsSetup, SetsProperty, SpellsCommand}
use Rattle.schedule_text.specs.ReadLines.{setup_of, SetupIs}
use Rattle.schedule_text.specs.declared.setups.SetupLine.TheVariants as lines
use Rattle.net_world.specs.SettledWorlds.{AllImagesStand, AreBlank}
use Rattle.net_world.specs.DeviceUses.{NeedsDevice}
use Rattle.net_world.specs.LeftBehind.{LeavesBanks}
use Rattle.schedule_text.specs.schedule_model.Step.{number_of_clone}
use Rattle.schedule_text.specs.schedule_model.Tasks.{command_done}
use Rattle.net_world.specs.world_commands.WorldBanks.{BankedWorld, StandsOnBanks, OthersStay, banks_of}
use Rattle.mld_replay.specs.declared.stages.Stage.{Stage as RunningStage}
use Rattle.mld_replay.specs.declared.stages.Stage.TheVariants as stages
use Rattle.mld_replay.specs.declared.stops.LineStop.{LineStop}
use Rattle.mld_replay.specs.declared.stops.LineStop.TheVariants as stops

-- what a schedule's state stands for: nothing while no domain line has come; then what is set up, by which clones may be founded; and
-- from the first command on a sound world, for which whatever a crash may leave of the banks stands. There are as many banks as clones, and
-- they are blank before
abbrev pub StageStands : {B : Type 0} → (B → Option Log) → RunningStage B → Stage → Type 0
StageStands log (stages.Waiting blanks) Waiting = (length blanks.items ≡ clone_count) × AreBlank log blanks.items
StageStands log (stages.SetUp setup blanks) (SetUp model) = (setup_of setup ≡ model) × IsSetup model × (length blanks.items ≡ clone_count) × AreBlank log blanks.items
StageStands log (stages.Running running) (Running world) = StandsOnBanks log running world × IsSound world × AllImagesStand log world (banks_of running)
StageStands log running stage = ⊥

-- the line spells the command in the domain of a stage
abbrev pub SpellsAt : Stage → List ℕ → Command → Type 0
SpellsAt Waiting line command = ⊥
SpellsAt (SetUp setup) line command = SpellsCommand setup.domain line command
SpellsAt (Running world) line command = SpellsCommand world.domain line command

-- the steps made so far
abbrev pub steps_of_stage : {B : Type 0} → RunningStage B → ℕ
steps_of_stage (stages.Waiting blanks) = 0
steps_of_stage (stages.SetUp setup blanks) = 0
steps_of_stage (stages.Running running) = running.steps
steps_of_stage (stages.Over banks) = 0

-- a command that was refused: of the banks of its clone a crash leaves what it might have left before, or a front of the command's durable steps,
-- and those of the others are as they were; a device that failed is that of its clone, and the command needs it
pub record LeavesRefusedCommand {B : Type 0} (log : B → Option Log) (old : BankedWorld B) (command : Command) (new : List B) (stop : LineStop) : Type 0 where
  pub left : LeavesBanks log old command new
  pub others : OthersStay (number_of_clone command) (banks_of old) new
  pub names : (clone : ℕ) → stop ≡ stops.Device clone → clone ≡ number_of_clone command
  pub needs : (clone : ℕ) → stop ≡ stops.Device clone → (world : World) → StandsOnBanks log old world → IsSound world → NeedsDevice world (command_done command)

-- the banks, by number
abbrev pub banks_of_stage : {B : Type 0} → RunningStage B → List B
banks_of_stage (stages.Waiting blanks) = blanks.items
banks_of_stage (stages.SetUp setup blanks) = blanks.items
banks_of_stage (stages.Running running) = banks_of running
banks_of_stage (stages.Over banks) = banks.items

-- the domain is set up, and no clone is founded
abbrev pub IsSetUpState : {B : Type 0} → RunningStage B → Type 0
IsSetUpState (stages.SetUp setup blanks) = Unit {0}
IsSetUpState state = ⊥

-- the line sets one more property of a domain that is set up, on the same banks
abbrev pub GetsProperty : {B : Type 0} → List ℕ → RunningStage B → RunningStage B → Type 0
GetsProperty line (stages.SetUp setup blanks) (stages.SetUp next others) = SetupIs line (Some setup) (lines.Setup next) × (others ≡ blanks)
GetsProperty line old new = ⊥

-- the domain is set up, and the line sets none
abbrev pub GetsNone : {B : Type 0} → List ℕ → RunningStage B → Type 0
GetsNone line (stages.SetUp setup blanks) = (property : List ℕ) → ¬ SetsProperty (setup_of setup) line property
GetsNone line state = ⊥

-- why a world isn't founded, or a command of it not done: a device failed, or there was want of memory
abbrev pub IsWorldStop : LineStop → Type 0
IsWorldStop (stops.Device clone) = Unit {0}
IsWorldStop stops.NoMemory = Unit {0}
IsWorldStop stop = ⊥

-- there is a stage that the state stands for
pub record IsStandingStage {B : Type 0} (log : B → Option Log) (running : RunningStage B) : Type 0 where
  pub stage : Stage
  pub stands : StageStands log running stage

-- the line was done: the text is what the model adds, and the new state stands for the next stage
pub record ActsWell {B : Type 0} (log : B → Option Log) (stage : Stage) (line text : List ℕ) (running : RunningStage B) : Type 0 where
  pub next : Stage
  pub acts : Acts stage line text next
  pub stands : StageStands log running next

-- the lines ended: the new state stands for the world that the clones of the stage are founded in
pub record EndsWell {B : Type 0} (log : B → Option Log) (stage : Stage) (running : RunningStage B) : Type 0 where
  pub world : World
  pub founds : IsWorldOf stage world
  pub stands : StageStands log running (Running world)

-- ---- whatever stage of the model the state stands for

-- the line was done
abbrev pub ActsFrom : {B : Type 0} → (B → Option Log) → RunningStage B → List ℕ → List ℕ → RunningStage B → Type 0
ActsFrom log old line text new = (stage : Stage) → StageStands log old stage → ActsWell log stage line text new

-- the lines ended
abbrev pub EndsFrom : {B : Type 0} → (B → Option Log) → RunningStage B → RunningStage B → Type 0
EndsFrom log old new = (stage : Stage) → StageStands log old stage → EndsWell log stage new

-- the line is bad
abbrev pub IsBadFrom : {B : Type 0} → (B → Option Log) → RunningStage B → List ℕ → Type 0
IsBadFrom log old line = (stage : Stage) → StageStands log old stage → IsBad stage line

-- no domain line has come
abbrev pub OnlyWaits : {B : Type 0} → (B → Option Log) → RunningStage B → Type 0
OnlyWaits log old = (stage : Stage) → StageStands log old stage → stage ≡ Waiting
