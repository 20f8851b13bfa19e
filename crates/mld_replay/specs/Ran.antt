-- How a run ends, and what it has written then: its status, text, counts and banks, by its fault. `run` and `run_replay` cite `replay_status`,
-- `IsReplay`, `ReplayEnds` with `says_of`, `LeavesAlone`, `tells`, `CountsFaults` and `Agrees`; `replay` cites them too, and `run_generated` some.
use Rattle.std.specs.Prelude.{◌≡◌, ◌⊎◌, ℕ, ◌+◌, List, [], ◌∷◌, ◌++◌, length, Bool, true, false, Option, None, Some, codes}
use Rattle.std.specs.Io.KnownBytes.{Appends}
use Rattle.mld_io.specs.Faults.{Rose}
use Rattle.mld_io.specs.Lines.{lines_of}
use Rattle.input_lines.specs.TooLarge.{IsTooLargeLine}
use Rattle.input_lines.specs.HowFar.{ReadsJust, ReadsInto, ReadsToNext, MeetsTooLarge}
use Rattle.input_lines.specs.Untouched.{HasNotBegun}
use Rattle.mld_model.specs.World.{World}
use Rattle.schedule_text.specs.schedule_model.Runs.{Stage, Waiting, Running, Acts, Runs, RunsBefore, Outcome, Finished, BadLine, Verdict}
use Rattle.schedule_text.specs.schedule_model.Promises.{KeepsPromises}
use Rattle.mld_io.specs.Disk.{Log}
use Rattle.mld_replay.specs.RunSummaries.{TellsOf}
use Rattle.mld_replay.specs.KeptBanks.{BanksKeep}
use Rattle.mld_replay.specs.BanksLeft.{AreLeftAmid, FailsAmid, LeaveNoMore}
use Rattle.mld_replay.specs.declared.run.Ran.{Ran}
use Rattle.mld_replay.specs.declared.run.RunFault.{RunFault}
use Rattle.mld_replay.specs.declared.run.RunFault.TheVariants as faults

-- the status of the program
abbrev pub replay_status : Option RunFault → ℕ
replay_status None = 0
replay_status (Some faults.Usage) = 1
replay_status (Some faults.ReadFault) = 2
replay_status (Some faults.WriteFault) = 3
replay_status (Some (faults.BadLine line)) = 4
replay_status (Some faults.NoMemory) = 5
replay_status (Some (faults.Device clone)) = 6
replay_status (Some (faults.TooLarge line)) = 7
replay_status (Some (faults.NotEmpty clone)) = 8

-- the one word is `replay`
abbrev pub IsReplay : List (List ℕ) → Type 0
IsReplay words = words ≡ codes "replay" ∷ []

-- the source is at its end, none of its lines is too large, and the text of a run over them was written; the world that they
-- lead to keeps what is promised, and this holds of it
pub record Finishes (P : Stage → Type 0) (bytes : List ℕ) (left before after : Option (List ℕ)) : Type 0 where
  pub text : List ℕ
  pub world : World
  pub verdict : Verdict (lines_of bytes) (Finished text world)
  pub keeps : KeepsPromises (lines_of bytes) world
  pub all : left ≡ Some []
  pub fits : (lines : ℕ) → ¬ IsTooLargeLine bytes lines
  pub written : Appends before after text
  pub holds : P (Running world)

-- the line of the number is the first bad one, no line up to it is too large, and the text of the lines before it was written; what is
-- behind it is left; and this holds of the stage that they led to
pub record StopsAtBad (P : Stage → Type 0) (bytes : List ℕ) (number : ℕ) (left before after : Option (List ℕ)) : Type 0 where
  pub text : List ℕ
  pub stage : Stage
  pub verdict : Verdict (lines_of bytes) (BadLine number text stage)
  pub read : ReadsJust bytes left number
  pub written : Appends before after text
  pub holds : P stage

-- the line of the number is the first that is too large, the lines before it are a run, and their text was written; nothing was read
-- behind the byte that makes it too large; and this holds of the stage that they led to
pub record StopsAtLarge (P : Stage → Type 0) (bytes : List ℕ) (number : ℕ) (left before after : Option (List ℕ)) : Type 0 where
  pub text : List ℕ
  pub stage : Stage
  pub done : RunsBefore (lines_of bytes) number text stage
  pub meets : (lines : ℕ) → number ≡ lines + 1 → MeetsTooLarge bytes left lines
  pub written : Appends before after text
  pub holds : P stage

-- the lines done are those whose LF was read, none of them is too large, and their text was written; of the bytes behind them
-- a part of one line was read, which isn't too large so far; and this holds of the stage that they led to
pub record BreaksOff (P : Stage → Type 0) (bytes : List ℕ) (left before after : Option (List ℕ)) : Type 0 where
  pub lines : ℕ
  pub read : ReadsInto bytes left lines
  pub text : List ℕ
  pub stage : Stage
  pub done : RunsBefore (lines_of bytes) (lines + 1) text stage
  pub written : Appends before after text
  pub holds : P stage

-- the reply to a line could not be written: the text of the lines before it was, and a front of its own reply; what is behind the line is left; and
-- this holds of the stage that it led to
pub record WritesFront (P : Stage → Type 0) (bytes : List ℕ) (left before after : Option (List ℕ)) : Type 0 where
  pub lines : List (List ℕ)
  pub line : List ℕ
  pub rest : List (List ℕ)
  pub whole : lines_of bytes ≡ lines ++ line ∷ rest
  pub text : List ℕ
  pub stage : Stage
  pub runs : Runs Waiting lines text stage
  pub reply : List ℕ
  pub next : Stage
  pub acts : Acts stage line reply next
  pub front : List ℕ
  pub behind : List ℕ
  pub of_reply : front ++ behind ≡ reply
  pub read : ReadsJust bytes left (length lines + 1)
  pub written : Appends before after (text ++ front)
  pub holds : P next

-- what was written is the whole text of a run over the first lines of these bytes, and this holds of the stage that they led to, and of the lines
-- still to come; and by how many they are, the source was read so far
pub record WritesWhole (P : Stage → List (List ℕ) → Type 0) (Read : ℕ → Type 0) (bytes : List ℕ) (before after : Option (List ℕ)) : Type 0 where
  pub lines : List (List ℕ)
  pub rest : List (List ℕ)
  pub whole : lines_of bytes ≡ lines ++ rest
  pub text : List ℕ
  pub stage : Stage
  pub runs : Runs Waiting lines text stage
  pub read : Read (length lines)
  pub written : Appends before after text
  pub holds : P stage rest

-- one or the other, whatever holds; of the line behind those done no more was read than all of it, also where it is too large
abbrev pub WritesSome : List ℕ → Option (List ℕ) → Option (List ℕ) → Option (List ℕ) → Type 0
WritesSome bytes left before after =
    WritesWhole (λ stage rest. Unit {0}) (λ lines. ReadsToNext bytes left lines ⊎ MeetsTooLarge bytes left lines) bytes before after
    ⊎ WritesFront (λ stage. Unit {0}) bytes left before after

-- what is said of the world and the banks at the end of a run, by how far it came
pub record Saying : Type 1 where
  -- of the stage that it came to, where it tells of its world
  pub told : Stage → Type 0
  -- of that stage, where only its banks tell of it
  pub kept : Stage → Type 0
  -- of the stage that the lines done led to, and the lines still to come, where memory ran out in the middle of the next line
  pub left : Stage → List (List ℕ) → Type 0
  -- and where the device of the clone of this number failed there
  pub failed : ℕ → Stage → List (List ℕ) → Type 0
  -- where no line was begun
  pub same : Type 0
  -- where no banks come back
  pub none : Type 0

-- the device of the clone of this number failed: before the first line, or in the middle of a line, behind which nothing was read, or of the end; and that
-- concerns the clone
pub data FailsSo (says : Saying) (clone : ℕ) (bytes : List ℕ) (left before after : Option (List ℕ)) : Type 0 where
  fails_before : HasNotBegun (Some bytes) left before after → says.same → FailsSo says clone bytes left before after
  fails_amid : WritesWhole (says.failed clone) (λ lines. ReadsJust bytes left (lines + 1)) bytes before after → FailsSo says clone bytes left before after

-- memory ran out: so too, or while a line was read, or while a reply was written; or no banks come back
pub data RunsShort (says : Saying) (bytes : List ℕ) (left before after : Option (List ℕ)) : Type 0 where
  short_before : HasNotBegun (Some bytes) left before after → says.same → RunsShort says bytes left before after
  short_amid : WritesWhole says.left (ReadsToNext bytes left) bytes before after → RunsShort says bytes left before after
  short_writing : WritesFront says.kept bytes left before after → RunsShort says bytes left before after
  short_of_banks : says.none → WritesSome bytes left before after → RunsShort says bytes left before after

-- How a run over these bytes ended, by its fault: what it did, what it left of them, what it wrote, and what is said then.
abbrev pub ReplayEnds : Saying → Option RunFault → List ℕ → Option (List ℕ) → Option (List ℕ) → Option (List ℕ) → Type 0
ReplayEnds says None bytes left before after = Finishes says.told bytes left before after
ReplayEnds says (Some faults.Usage) bytes left before after = HasNotBegun (Some bytes) left before after
ReplayEnds says (Some faults.ReadFault) bytes left before after = BreaksOff says.told bytes left before after
ReplayEnds says (Some faults.WriteFault) bytes left before after = WritesFront says.kept bytes left before after
ReplayEnds says (Some (faults.BadLine line)) bytes left before after = StopsAtBad says.told bytes line left before after
ReplayEnds says (Some faults.NoMemory) bytes left before after = RunsShort says bytes left before after
ReplayEnds says (Some (faults.Device clone)) bytes left before after = FailsSo says clone bytes left before after
ReplayEnds says (Some (faults.TooLarge line)) bytes left before after = StopsAtLarge says.told bytes line left before after
ReplayEnds says (Some (faults.NotEmpty clone)) bytes left before after = HasNotBegun (Some bytes) left before after

-- what a run leaves as it was, by its fault: source, sink and banks where its words are none that it knows, and source and sink where
-- banks are not empty
abbrev pub LeavesAlone : Option RunFault → (Untouched SameBanks : Type 0) → Type 0
LeavesAlone (Some faults.Usage) Untouched SameBanks = Untouched × SameBanks
LeavesAlone (Some (faults.NotEmpty clone)) Untouched SameBanks = Untouched
LeavesAlone fault Untouched SameBanks = Unit {0}

-- the count of the source's faults, by how a run ended: it rose where that is told, and else it is what it was, unless memory ran out
abbrev pub CountsReads : ℕ → ℕ → Option RunFault → Type 0
CountsReads before now (Some faults.ReadFault) = Rose before now
CountsReads before now (Some faults.NoMemory) = Unit {0}
CountsReads before now fault = now ≡ before

-- so it is of the count of the sink's faults
abbrev pub CountsWrites : ℕ → ℕ → Option RunFault → Type 0
CountsWrites before now (Some faults.WriteFault) = Rose before now
CountsWrites before now (Some faults.NoMemory) = Unit {0}
CountsWrites before now fault = now ≡ before

-- the counts of the faults of source and sink, by how a run ended
pub record CountsFaults (fault : Option RunFault) (source source_now sink sink_now : ℕ) : Type 0 where
  pub read : CountsReads source source_now fault
  pub write : CountsWrites sink sink_now fault

-- the run ended as the verdict says, at its end or by the first bad line, or by a fault of reading, of writing or of a device, want of memory, a line that is too large, or
-- banks that are not empty
abbrev pub Agrees : Option RunFault → Outcome → Type 0
Agrees None (Finished text world) = Unit {0}
Agrees (Some (faults.BadLine line)) (BadLine number text stage) = line ≡ number
Agrees (Some faults.ReadFault) outcome = Unit {0}
Agrees (Some faults.WriteFault) outcome = Unit {0}
Agrees (Some faults.NoMemory) outcome = Unit {0}
Agrees (Some (faults.Device clone)) outcome = Unit {0}
Agrees (Some (faults.NotEmpty clone)) outcome = Unit {0}
Agrees (Some (faults.TooLarge line)) outcome = Unit {0}
Agrees fault outcome = ⊥

-- a run that ends so tells of its world: at the end of the input, where the source failed, at a bad line, and at a line that is
-- too large
abbrev pub tells : Option RunFault → Bool
tells None = true
tells (Some faults.ReadFault) = true
tells (Some (faults.BadLine line)) = true
tells (Some (faults.TooLarge line)) = true
tells (Some fault) = false

-- what a run tells of the stage that it ended at, and what its banks keep of it
pub record EndsAs {B : Type 0} (log : B → Option Log) (ran : Ran B) (stage : Stage) : Type 0 where
  pub told : TellsOf ran.world stage
  pub kept : BanksKeep log ran.banks.items stage

-- what a run says at its end, which was handed these banks
abbrev pub says_of : {B : Type 0} → (B → Option Log) → List B → Ran B → Saying
says_of log banks ran = record {
  told = EndsAs log ran;
  kept = BanksKeep log ran.banks.items;
  left = AreLeftAmid log ran.banks.items;
  failed = FailsAmid log ran.banks.items;
  same = LeaveNoMore log banks ran.banks.items;
  none = ran.banks.items ≡ [];
}
