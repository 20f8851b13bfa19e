-- Banks between two commands: whatever a crash leaves of them stands for what their clones keep. `World::found` and `World::step` cite it.
use Rattle.std.specs.Prelude.{◌≡◌, ℕ, List, Option, Some, slice_get}
use Rattle.mld_io.specs.Disk.{Log, LeavesOnly}
use Rattle.clone_core.specs.journal_store.Standing.{IsBlankLog}
use Rattle.mld_model.specs.Reply.{Reply}
use Rattle.mld_model.specs.Sound.{IsSound}
use Rattle.mld_model.specs.World.{World}
use Rattle.mld_model.specs.declared.CloneState.TheVariants as states
use Rattle.schedule_text.specs.schedule_model.Step.{Step}
use Rattle.schedule_text.specs.schedule_model.declared.Command.{Command}
use Rattle.clone_core.specs.Banked.{BankedClone}
use Rattle.world_commands.specs.crash_laws.CrashLines.{ImageStands}
use Rattle.world_commands.specs.States.{HasState}
use Rattle.world_commands.specs.WorldBanks.{BankedState, BankedWorld, banks_of, StandsOnBanks}
use Rattle.world_commands.specs.WorldEnds.{KeepsState}

-- each pair of sides that a crash may leave of the banks of a number stands for what the clone of that number keeps
abbrev pub AllImagesStand : {B : Type 0} → (B → Option Log) → World → List B → Type 0
AllImagesStand {B = B} log world banks = (number : ℕ) (one : B) (l : Log) → slice_get banks number ≡ Some one → log one ≡ Some l → LeavesOnly l (ImageStands world number)

-- banks that keep nothing, which a crash leaves as they are
abbrev pub AreBlank : {B : Type 0} → (B → Option Log) → List B → Type 0
AreBlank {B = B} log banks = (number : ℕ) (one : B) → slice_get banks number ≡ Some one → IsBlankLog (log one)

-- where all banks stood so for the world before a command, they stand so for the world behind it
abbrev pub SettlesWorld : {B : Type 0} → (B → Option Log) → BankedWorld B → Command → BankedWorld B → Type 0
SettlesWorld log old command new = (world : World) → StandsOnBanks log old world → IsSound world → AllImagesStand log world (banks_of old)
    → (reply : Reply) (next : World) → Step world command reply next → IsSound next → StandsOnBanks log new next → AllImagesStand log next (banks_of new)

-- they stand so for a world that was founded, where the banks were blank
abbrev pub SettlesFounded : {B : Type 0} → (B → Option Log) → List B → BankedWorld B → Type 0
SettlesFounded log blanks running = AreBlank log blanks → (world : World) → StandsOnBanks log running world → AllImagesStand log world (banks_of running)

-- the banks of the clone of the number keep it, if it is live and open
abbrev pub LiveKept : {B : Type 0} → (B → Option Log) → ℕ → List (BankedState B) → Type 0
LiveKept {B = B} log number clones = (clone : BankedClone B) → HasState clones number (states.Live clone) → KeepsState log (states.Live clone)
