-- The parts of a replay: why one of them fails (`replay`, `do_line`, `end_lines`, the `From`s of `RunFault`), and what is said of its end (`replay`,
-- `end_at_stage`).
use Rattle.std.specs.Prelude.{◌≡◌, ◌⊎◌, [], IsTrue, Option, None, Some}
use Rattle.mld_io.specs.Disk.{Log}
use Rattle.mld_io.specs.declared.faults.WriteFault.{WriteFault}
use Rattle.mld_io.specs.declared.faults.WriteFault.TheVariants as writes
use Rattle.input_lines.specs.declared.faults.InputFault.{InputFault}
use Rattle.input_lines.specs.declared.faults.InputFault.TheVariants as inputs
use Rattle.schedule_text.specs.schedule_model.Runs.{Stage}
use Rattle.mld_replay.specs.KeptBanks.{BanksKeep}
use Rattle.mld_replay.specs.Ran.{Saying, tells}
use Rattle.mld_replay.specs.BanksLeft.{AreLeftAmid, FailsAmid}
use Rattle.mld_replay.specs.RunSummaries.{TellsOf}
use Rattle.mld_replay.specs.Stages.{StageStands, banks_of_stage}
use Rattle.mld_replay.specs.declared.stages.Stage.{Stage as RunningStage}
use Rattle.mld_replay.specs.declared.run.Ran.{Ran}
use Rattle.mld_replay.specs.declared.run.RunFault.{RunFault}
use Rattle.mld_replay.specs.declared.run.RunFault.TheVariants as faults

-- ---- why a run ends where a part of it failed

-- where there is no next line
abbrev pub run_fault_of_input : InputFault → RunFault
run_fault_of_input inputs.ReadFault = faults.ReadFault
run_fault_of_input (inputs.TooLarge line) = faults.TooLarge line
run_fault_of_input inputs.NoMemory = faults.NoMemory

-- where a piece was not written whole
abbrev pub run_fault_of_write : WriteFault → RunFault
run_fault_of_write writes.Failed = faults.WriteFault
run_fault_of_write writes.NoMemory = faults.NoMemory

-- the faults of a replay: its words are known, and its banks are empty
abbrev pub IsReplayFault : RunFault → Type 0
IsReplayFault faults.Usage = ⊥
IsReplayFault (faults.NotEmpty clone) = ⊥
IsReplayFault fault = Unit {0}

-- the faults of a line and of the end of the lines: it is bad, or no domain line came, a device failed, or there was want of memory
abbrev pub IsLineFault : RunFault → Type 0
IsLineFault (faults.Device clone) = Unit {0}
IsLineFault (faults.BadLine line) = Unit {0}
IsLineFault faults.NoMemory = Unit {0}
IsLineFault fault = ⊥

-- ---- the end of a run

-- what the state of a replay says at its end
abbrev pub says_by : {B : Type 0} → (B → Option Log) → RunningStage B → Saying
says_by log running = record {
  told = StageStands log running;
  kept = StageStands log running;
  left = AreLeftAmid log (banks_of_stage running);
  failed = FailsAmid log (banks_of_stage running);
  same = ⊥;
  none = banks_of_stage running ≡ [];
}

-- the run ended by this fault: it tells of the stage that it ended at where it has to, and gives back its banks
pub record EndsWhole {B : Type 0} (log : B → Option Log) (fault : Option RunFault) (running : RunningStage B) (ran : Ran B) : Type 0 where
  pub fault_is : ran.fault ≡ fault
  pub told : IsTrue (tells fault) → (stage : Stage) → StageStands log running stage → TellsOf ran.world stage
  pub silent : ¬ IsTrue (tells fault) → ran.world ≡ None
  pub banks_are : ran.banks.items ≡ banks_of_stage running
  pub kept : (stage : Stage) → StageStands log running stage → BanksKeep log ran.banks.items stage

-- memory ran out at the end of the run, and no banks are given back
pub record EndsShort {B : Type 0} (ran : Ran B) : Type 0 where
  pub fault_is : ran.fault ≡ Some faults.NoMemory
  pub silent : ran.world ≡ None
  pub banks_are : ran.banks.items ≡ []

-- the run ended by this fault, or memory ran out over that
abbrev pub EndsByFault : {B : Type 0} → (B → Option Log) → Option RunFault → RunningStage B → Ran B → Type 0
EndsByFault log fault running ran = EndsWhole log fault running ran ⊎ EndsShort ran
