-- A crash line of the model, beside what the sides of its clone's device read to behind the crash.
use Rattle.std.specs.Prelude.{ℕ, ◌+◌, List, Bool}
use Rattle.mld_io.specs.Disk.{Sides}
use Rattle.mld_io.specs.declared.banks.Leave.{Leave}
use Rattle.clone_core.specs.journal_sides.Pairs.{read_banks}
use Rattle.mld_model.specs.Clone.{kept_of}
use Rattle.mld_model.specs.Durable.{DurableStep}
use Rattle.mld_model.specs.Reply.{Reply, Crashed}
use Rattle.mld_model.specs.Sound.{IsSound}
use Rattle.mld_model.specs.StandsFor.{RunningWorld, StandsFor}
use Rattle.mld_model.specs.World.{World, clone_at}
use Rattle.schedule_model.specs.declared.Command.TheVariants.{Crash}
use Rattle.schedule_model.specs.declared.CrashTask.{CrashTask}
use Rattle.schedule_model.specs.Crashing.{Crashes}
use Rattle.schedule_model.specs.Step.{Step}
use Rattle.schedule_model.specs.Tasks.{number_of_task}
use Rattle.crash_laws.specs.CarriedSteps.{owner_at, StandsRead, IsUpTo}

-- what the sides read to stands for what the clone of the number keeps in a world
abbrev pub ImageStands : World → ℕ → Sides → Type 0
ImageStands world number image = StandsRead (owner_at world number) world.history (read_banks image) (kept_of (clone_at world number))

-- a crash line at this call leads by some choice, with this reply, to a world for which the sides stand
pub record CrashesTo (call : ℕ) (world : World) (task : CrashTask) (reply : Reply) (image : Sides) : Type 0 where
  pub choice : Bool
  pub steps : List DurableStep
  pub next : World
  pub crashes : Crashes choice call world task steps reply next
  pub stands : ImageStands next (number_of_task task) image

-- a crash line of the model by a caught call, and the generation of what its sides read to is at most one more
pub record CrashesUpTo (call : ℕ) (world : World) (task : CrashTask) (limit : ℕ) (image : Sides) : Type 0 where
  pub crash : CrashesTo call world task Crashed image
  pub generation : IsUpTo (limit + 1) (read_banks image)

-- the same, with a running world that stands for the world after it
pub record FollowsCrash (call : ℕ) (leave : Leave) (world : World) (task : CrashTask) (reply : Reply) (running : RunningWorld) (image : Sides) : Type 0 where
  pub next : World
  pub steps : Step world (Crash call leave task) reply next
  pub sound : IsSound next
  pub memory : StandsFor running next
  pub stands : ImageStands next (number_of_task task) image
