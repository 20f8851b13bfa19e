-- A replay that is under way: the lines done so far, what they wrote, and the model that the state stands for. The loop of `replay` keeps it.
use Rattle.std.specs.Prelude.{◌≡◌, ℕ, ◌≤◌, List, Option, Some, length}
use Rattle.std.specs.Io.KnownBytes.{Appends}
use Rattle.mld_io.specs.Disk.{Log}
use Rattle.input_lines.specs.Taken.{IsLeft}
use Rattle.schedule_text.specs.schedule_model.Runs.{Stage, Waiting, Runs}
use Rattle.mld_replay.specs.Stages.{StageStands, steps_of_stage}
use Rattle.mld_replay.specs.declared.stages.Stage.{Stage as RunningStage}

-- so many lines of so many bytes are done: they are a run of the model that wrote this text, and the state stands for where it led
pub record IsReplayUnderWay {B : Type 0} (log : B → Option Log) (given left before now : Option (List ℕ)) (size : ℕ) (running : RunningStage B) (done : ℕ) : Type 0 where
  pub lines : List (List ℕ)
  pub text : List ℕ
  pub stage : Stage
  pub counted : done ≡ length lines
  pub runs : Runs Waiting lines text stage
  pub stands : StageStands log running stage
  pub steps : steps_of_stage running ≤ done
  pub left_of : (bytes : List ℕ) → given ≡ Some bytes → IsLeft bytes left size done lines
  pub written : Appends before now text
