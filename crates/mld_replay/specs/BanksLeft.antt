-- What a crash may leave of the banks of a run that stopped in the middle: in a line, at the end of the lines, or before the first line.
-- `says_of` and the words of `Stops.antt` say it for `run`, `act` and `finish`, with the clone whose device failed; `blanks_of` cites `LeaveNoMore`.
use Rattle.std.specs.Prelude.{◌≡◌, ◌⊎◌, ℕ, List, [], ◌∷◌, Option, Some, slice_get}
use Rattle.mld_io.specs.Disk.{Log, Sides, MayLeave, LeavesOnly}
use Rattle.clone_core.specs.journal_sides.Pairs.{KeepsNone, read_banks}
use Rattle.mld_model.specs.Clone.{kept_of}
use Rattle.mld_model.specs.World.{World, clone_at}
use Rattle.schedule_text.specs.schedule_model.declared.Command.{Command}
use Rattle.schedule_text.specs.schedule_model.Crashing.{Deed}
use Rattle.schedule_text.specs.schedule_model.Runs.{Stage, Waiting, SetUp, Running, IsWorldOf}
use Rattle.schedule_text.specs.schedule_model.Schedule.{Setup, SpellsCommand}
use Rattle.schedule_text.specs.schedule_model.Step.{number_of_clone}
use Rattle.schedule_text.specs.schedule_model.Tasks.{command_done}
use Rattle.net_world.specs.crash_laws.CarriedSteps.{owner_at, StandsSome}
use Rattle.net_world.specs.crash_laws.CrashLines.{ImageStands}
use Rattle.net_world.specs.DeviceUses.{NeedsDevice}
use Rattle.net_world.specs.FoundingLeft.{LeavesFounding}
use Rattle.net_world.specs.SettledWorlds.{AllImagesStand}

-- whatever a crash may leave of banks is what it might have left of them before
abbrev pub LeavesLess : {B : Type 0} → (B → Option Log) → B → B → Type 0
LeavesLess log was now = (before behind : Log) → log was ≡ Some before → log now ≡ Some behind → LeavesOnly behind (MayLeave before)

-- so it is of each of these banks, by number
abbrev pub LeaveNoMore : {B : Type 0} → (B → Option Log) → List B → List B → Type 0
LeaveNoMore {B = B} log old new = (number : ℕ) (was now : B) → slice_get old number ≡ Some was → slice_get new number ≡ Some now → LeavesLess log was now

-- it reads to nothing
abbrev pub AllReadNone : {B : Type 0} → (B → Option Log) → List B → Type 0
AllReadNone {B = B} log banks = (number : ℕ) (one : B) (l : Log) → slice_get banks number ≡ Some one → log one ≡ Some l → LeavesOnly l (λ image. read_banks image ≡ KeepsNone)

-- no clone is founded at the stage
abbrev pub IsUnfounded : Stage → Type 0
IsUnfounded Waiting = Unit {0}
IsUnfounded (SetUp setup) = Unit {0}
IsUnfounded (Running world) = ⊥

-- founding is due: the next of the lines to come is a command, or there are none
abbrev pub IsFoundingDue : Setup → List (List ℕ) → Type 0
IsFoundingDue setup [] = Unit {0}
IsFoundingDue setup (line ∷ rest) = (command : Command) × SpellsCommand setup.domain line command

-- so it is, if the stage founds any
abbrev pub IsFoundingDueAt : Stage → List (List ℕ) → Type 0
IsFoundingDueAt Waiting lines = Unit {0}
IsFoundingDueAt (SetUp setup) lines = IsFoundingDue setup lines
IsFoundingDueAt (Running world) lines = Unit {0}

-- sides stand for what the clone of the number keeps in the world, or, where the command is done at that clone, for what it keeps after some
-- front of the durable steps of the command
abbrev pub StandsInCommand : World → Command → ℕ → Sides → Type 0
StandsInCommand world command number image =
    ImageStands world number image
    ⊎ ((number ≡ number_of_clone command) × (deed : Deed world (command_done command))
    × StandsSome (owner_at world number) world.history (kept_of (clone_at world number)) deed.steps image)

-- so do those that a crash may leave of all banks
abbrev pub AllStandInCommand : {B : Type 0} → (B → Option Log) → World → Command → List B → Type 0
AllStandInCommand {B = B} log world command banks = (number : ℕ) (one : B) (l : Log) → slice_get banks number ≡ Some one → log one ≡ Some l
    → LeavesOnly l (StandsInCommand world command number)

-- What a crash may leave of the banks where memory ran out and they came back, by the stage that the lines done led to, and the lines still to come: all
-- that the lines done made durable, and of the next line a front of its durable steps.
pub data AreLeftAmid {B : Type 0} (log : B → Option Log) (banks : List B) : Stage → List (List ℕ) → Type 0 where
  -- no clone was founded, and founding hadn't begun
  left_blank : {stage : Stage} {rest : List (List ℕ)} → IsUnfounded stage → AllReadNone log banks → AreLeftAmid log banks stage rest
  -- the clones are founded, and nothing of the next line was done
  left_between : {world : World} {rest : List (List ℕ)} → AllImagesStand log world banks → AreLeftAmid log banks (Running world) rest
  -- the next line is a command, of which a part was done; where no clone was founded before it, all were
  left_in_command : {stage : Stage} {line : List ℕ} {rest : List (List ℕ)} (world : World) (command : Command) → IsWorldOf stage world → SpellsCommand world.domain line command
      → AllStandInCommand log world command banks → AreLeftAmid log banks stage (line ∷ rest)

-- And where the device of the clone of this number failed: clones were being founded, in a step of that clone, and so much of that stands; or the next line
-- is a command of that clone which needs its device, and of which a part was done.
pub data FailsAmid {B : Type 0} (log : B → Option Log) (banks : List B) (clone : ℕ) : Stage → List (List ℕ) → Type 0 where
  fails_founding : {setup : Setup} {rest : List (List ℕ)} → IsFoundingDue setup rest → LeavesFounding log setup clone banks → FailsAmid log banks clone (SetUp setup) rest
  fails_in_command : {stage : Stage} {line : List ℕ} {rest : List (List ℕ)} (world : World) (command : Command) → IsWorldOf stage world → SpellsCommand world.domain line command
      → clone ≡ number_of_clone command → NeedsDevice world (command_done command) → AllStandInCommand log world command banks → FailsAmid log banks clone stage (line ∷ rest)
