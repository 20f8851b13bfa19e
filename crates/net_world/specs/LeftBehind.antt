-- What a step leaves of the banks of its clone, whatever it answers. `World::step` cites it.
use Rattle.std.specs.Prelude.{◌≡◌, ◌⊎◌, ℕ, List, Option, Some, slice_get, map}
use Rattle.mld_io.specs.Disk.{Log, Sides, MayLeave, LeavesOnly}
use Rattle.mld_model.specs.Clone.{kept_of}
use Rattle.mld_model.specs.Sound.{IsSound}
use Rattle.mld_model.specs.World.{World, clone_at}
use Rattle.schedule_text.specs.schedule_model.Crashing.{Deed}
use Rattle.schedule_text.specs.schedule_model.Step.{number_of_clone}
use Rattle.schedule_text.specs.schedule_model.Tasks.{command_done}
use Rattle.schedule_text.specs.schedule_model.declared.Command.{Command}
use Rattle.world_commands.specs.crash_laws.CarriedSteps.{owner_at, StandsSome}
use Rattle.world_commands.specs.declared.parts.Parts.{Parts}
use Rattle.world_commands.specs.WorldBanks.{BankedWorld, banks_of, banks_of_state, StandsOnBanks}
use Rattle.world_commands.specs.WorldParts.{running_of}

-- what a crash may leave of a clone's banks: what it might have left before the command, or what stands for what the clone of the number keeps
-- after some front of the durable steps of the command
abbrev pub LeftBy : World → Command → ℕ → Log → Sides → Type 0
LeftBy world command number before image =
    MayLeave before image ⊎ ((deed : Deed world command) × StandsSome (owner_at world number) world.history (kept_of (clone_at world number)) deed.steps image)

-- so it is of the banks of the clone of the number, for each sound world that the running one stood for
abbrev pub LeavesBanksAt : {B : Type 0} → (B → Option Log) → BankedWorld B → Command → ℕ → List B → Type 0
LeavesBanksAt {B = B} log old command number new = (world : World) → StandsOnBanks log old world → IsSound world → (was now : B) (before behind : Log)
    → slice_get (banks_of old) number ≡ Some was → slice_get new number ≡ Some now → log was ≡ Some before → log now ≡ Some behind
    → LeavesOnly behind (LeftBy world command number before)

-- and of the command's clone
abbrev pub LeavesBanks : {B : Type 0} → (B → Option Log) → BankedWorld B → Command → List B → Type 0
LeavesBanks log old command new = LeavesBanksAt log old (command_done command) (number_of_clone command) new

-- after any number of steps
abbrev pub LeavesBanksOf : {B : Type 0} → (B → Option Log) → Parts B → Command → ℕ → Parts B → Type 0
LeavesBanksOf log old command number new = (steps : ℕ) → LeavesBanksAt log (running_of old steps) command number (map banks_of_state new.clones.items)
