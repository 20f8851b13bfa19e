-- Why a run ends at a line that was not done, and what that leaves of the banks. `act`, `finish` and the functions that they call cite these, and so do
-- `do_line`, `end_lines` and the `From`s of `LineStop`.
use Rattle.std.specs.Prelude.{◌≡◌, ◌⊎◌, ℕ, List, [], ◌∷◌, Option}
use Rattle.mld_io.specs.Arm.{Meter}
use Rattle.mld_io.specs.Disk.{Log}
use Rattle.schedule_text.specs.schedule_model.Runs.{Stage}
use Rattle.schedule_text.specs.declared.refusals.LineRefusal.{LineRefusal}
use Rattle.schedule_text.specs.declared.refusals.LineRefusal.TheVariants as refusals
use Rattle.net_world.specs.world_commands.declared.faults.WorldFault.{WorldFault}
use Rattle.net_world.specs.world_commands.declared.faults.WorldFault.TheVariants as worlds
use Rattle.mld_replay.specs.declared.stops.LineStop.{LineStop}
use Rattle.mld_replay.specs.declared.stops.LineStop.TheVariants as stops
use Rattle.mld_replay.specs.declared.run.RunFault.{RunFault}
use Rattle.mld_replay.specs.declared.run.RunFault.TheVariants as faults
use Rattle.mld_replay.specs.BankFaults.{ComeBackWell, HaveFailed, AreLeft}
use Rattle.mld_replay.specs.BanksLeft.{AreLeftAmid, FailsAmid}
use Rattle.mld_replay.specs.Stages.{StageStands}
use Rattle.mld_replay.specs.declared.stages.Stage.{Stage as RunningStage}

-- a line that isn't read isn't done
abbrev pub stop_of : LineRefusal → LineStop
stop_of refusals.BadLine = stops.BadLine
stop_of refusals.NoMemory = stops.NoMemory

-- nor is one that a world refuses
abbrev pub stop_of_world : WorldFault → LineStop
stop_of_world (worlds.Device clone) = stops.Device clone
stop_of_world worlds.NoMemory = stops.NoMemory

-- the run ends at the line of the number
abbrev pub fault_at_line : LineStop → ℕ → RunFault
fault_at_line stops.BadLine number = faults.BadLine number
fault_at_line (stops.Device clone) number = faults.Device clone
fault_at_line stops.NoMemory number = faults.NoMemory

-- what a crash may leave of the banks behind a line that was not done, by why it wasn't: where memory ran out there may be none, and a bad line
-- leaves them as they were
abbrev pub LeavesAtStop : {B : Type 0} → (B → Option Log) → List B → Stage → List (List ℕ) → LineStop → Type 0
LeavesAtStop log banks stage lines stops.BadLine = Unit {0}
LeavesAtStop log banks stage lines (stops.Device clone) = FailsAmid log banks clone stage lines
LeavesAtStop log banks stage lines stops.NoMemory = (banks ≡ []) ⊎ AreLeftAmid log banks stage lines

-- so it is for each stage that the state stood for, where these lines were still to come
abbrev pub StopLeaves : {B : Type 0} → (B → Option Log) → RunningStage B → List B → List (List ℕ) → LineStop → Type 0
StopLeaves log old banks lines stop = (stage : Stage) → StageStands log old stage → LeavesAtStop log banks stage lines stop

-- so it is where a line was to come, whatever lines were to follow it
abbrev pub StopLeavesAtLine : {B : Type 0} → (B → Option Log) → RunningStage B → List B → List ℕ → LineStop → Type 0
StopLeavesAtLine log old banks line stop = (rest : List (List ℕ)) → StopLeaves log old banks (line ∷ rest) stop

-- and by the fault by which the run ends
abbrev pub LeavesAtFault : {B : Type 0} → (B → Option Log) → List B → Stage → List (List ℕ) → RunFault → Type 0
LeavesAtFault log banks stage lines (faults.Device clone) = FailsAmid log banks clone stage lines
LeavesAtFault log banks stage lines faults.NoMemory = (banks ≡ []) ⊎ AreLeftAmid log banks stage lines
LeavesAtFault log banks stage lines fault = Unit {0}

abbrev pub FaultLeaves : {B : Type 0} → (B → Option Log) → RunningStage B → List B → List (List ℕ) → RunFault → Type 0
FaultLeaves log old banks lines fault = (stage : Stage) → StageStands log old stage → LeavesAtFault log banks stage lines fault

abbrev pub FaultLeavesAtLine : {B : Type 0} → (B → Option Log) → RunningStage B → List B → List ℕ → RunFault → Type 0
FaultLeavesAtLine log old banks line fault = (rest : List (List ℕ)) → FaultLeaves log old banks (line ∷ rest) fault

-- what a line that was not done leaves of the banks, as a run does that ends by it
abbrev pub StopBringsBack : {B : Type 0} → (B → Meter) → List B → List B → LineStop → Type 0
StopBringsBack meter old new (stops.Device clone) = HaveFailed meter clone old new
StopBringsBack meter old new stops.NoMemory = AreLeft meter old new
StopBringsBack meter old new stop = ComeBackWell meter old new
