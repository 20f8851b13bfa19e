-- Runs that nothing stops, and how much a run reads: what follows from the contract of `run`. `complete_runs` cites `ReplaysComplete` and
-- `SeedsComplete`, `few_bytes_are_read` cites `ReplaysReadFew`, and `run_completely` cites `RunsCompletely`.
use Rattle.std.specs.Prelude.{◌≡◌, ◌↔◌, ℕ, List, Option, None, Some, Vec, slice_get, IsTrue}
use Rattle.std.specs.declared.alloc.Global.{Global}
use Rattle.mld_io.specs.Arm.{Meter}
use Rattle.mld_io.specs.Disk.{Log}
use Rattle.mld_io.specs.Faults.{Rose}
use Rattle.mld_io.specs.Lines.{lines_of}
use Rattle.input_lines.specs.TooLarge.{IsTooLargeLine}
use Rattle.input_lines.specs.Taken.{WhereTold}
use Rattle.input_lines.specs.HowFar.{IsReadWithin}
use Rattle.input_lines.specs.Untouched.{AreUntouched}
use Rattle.schedule_generator.specs.Generated.{generated}
use Rattle.schedule_text.specs.schedule_model.Runs.{Stage, Outcome, BadLine, Verdict}
use Rattle.mld_replay.specs.BankFaults.{ReturnsBanks}
use Rattle.mld_replay.specs.Filled.{RefusesFilledBanks}
use Rattle.mld_replay.specs.GeneratedRuns.{AreGivenLines, WritesCounts, EndsGenerated}
use Rattle.mld_replay.specs.Looking.{AreEmpty}
use Rattle.mld_replay.specs.Ran.{replay_status, tells, IsReplay, Finishes, ReplayEnds, EndsAs, says_of, Agrees, LeavesAlone, CountsFaults}
use Rattle.mld_replay.specs.ReplayWords.{IsGenerate, AreUnknown}
use Rattle.mld_replay.specs.declared.run.Ran.{Ran}
use Rattle.mld_replay.specs.declared.run.RunFault.TheVariants as faults

-- what a source, a sink and banks tell
pub record Telling (S K B : Type 0) : Type 0 where
  pub left : S → Option (List ℕ)
  pub read_faults : S → ℕ
  pub held : K → Option (List ℕ)
  pub write_faults : K → ℕ
  pub log : B → Option Log
  pub meter : B → Meter

-- a run: the words, source and sink before and after it, the banks that it was handed, and how it ended
pub record RunValue (S K B : Type 0) : Type 0 where
  pub words : List (List ℕ)
  pub source : S
  pub source_now : S
  pub sink : K
  pub sink_now : K
  pub banks : Vec B Global
  pub ran : Ran B

-- what the clauses of `run` say of it, each by its name and word for word
pub record RunClauses {S K B : Type 0} (of : Telling S K B) (run : RunValue S K B) : Type 0 where
  pub status : run.ran.status ≡ replay_status run.ran.fault
  pub usage : (run.ran.fault ≡ Some faults.Usage) ↔ AreUnknown run.words
  pub untouched : LeavesAlone run.ran.fault (AreUntouched run.source run.source_now run.sink run.sink_now) (run.ran.banks ≡ run.banks)
  pub ends : IsReplay run.words → WhereTold (of.left run.source) (λ bytes.
      ReplayEnds (says_of of.log run.banks.items run.ran) run.ran.fault bytes (of.left run.source_now) (of.held run.sink) (of.held run.sink_now))
  pub filled : RefusesFilledBanks of.log run.banks.items run.ran.banks.items run.ran.fault (AreUntouched run.source run.source_now run.sink run.sink_now)
  pub back : ReturnsBanks of.meter run.banks.items run.ran.banks.items run.ran.fault
  pub silent : ¬ IsTrue (tells run.ran.fault) → run.ran.world ≡ None
  pub counts : CountsFaults run.ran.fault (of.read_faults run.source) (of.read_faults run.source_now) (of.write_faults run.sink) (of.write_faults run.sink_now)
  pub exact : (lines : List (List ℕ)) → AreGivenLines run.words (of.left run.source) lines → (outcome : Outcome) → Verdict lines outcome → Agrees run.ran.fault outcome
  pub generated : (seed count : ℕ) → IsGenerate run.words seed count → (run.source_now ≡ run.source)
      × EndsGenerated (says_of of.log run.banks.items run.ran) run.ran.fault (generated seed count) (of.held run.sink) (of.held run.sink_now)

-- the count of no bank's real faults rose
abbrev pub NoneFailed : {B : Type 0} → (B → Meter) → List B → List B → Type 0
NoneFailed {B = B} meter old new = (number : ℕ) (was now : B) → slice_get old number ≡ Some was → slice_get new number ≡ Some now → ¬ Rose (meter was).real_faults (meter now).real_faults

-- the banks were empty, and no fault of theirs or of the sink was counted
pub record NothingFailed {S K B : Type 0} (of : Telling S K B) (run : RunValue S K B) : Type 0 where
  pub empty : AreEmpty of.log run.banks.items
  pub of_banks : NoneFailed of.meter run.banks.items run.ran.banks.items
  pub of_sink : ¬ Rose (of.write_faults run.sink) (of.write_faults run.sink_now)

-- a replay whose source tells these bytes, and had no fault; no line of theirs is bad, and none is too large
pub record ReadsGoodLines {S K B : Type 0} (of : Telling S K B) (run : RunValue S K B) (bytes : List ℕ) : Type 0 where
  pub words : IsReplay run.words
  pub told : of.left run.source ≡ Some bytes
  pub of_source : ¬ Rose (of.read_faults run.source) (of.read_faults run.source_now)
  pub none_bad : (number : ℕ) (text : List ℕ) (stage : Stage) → ¬ Verdict (lines_of bytes) (BadLine number text stage)
  pub none_large : (lines : ℕ) → ¬ IsTooLargeLine bytes lines

-- a run ended by 0, and this holds; or memory ran out, and it ended by 5
pub data Completes {B : Type 0} (ran : Ran B) (Whole : Type 0) : Type 0 where
  completes : ran.status ≡ 0 → ran.fault ≡ None → Whole → Completes ran Whole
  lacks_memory : ran.status ≡ 5 → ran.fault ≡ Some faults.NoMemory → Completes ran Whole

-- a replay did all: the source is at its end, and the whole text was written
abbrev pub CompletesReplay : {S K B : Type 0} → Telling S K B → RunValue S K B → List ℕ → Type 0
CompletesReplay of run bytes = Completes run.ran (Finishes (EndsAs of.log run.ran) bytes (of.left run.source_now) (of.held run.sink) (of.held run.sink_now))

-- a run of the lines of a seed did all: their counts were written
abbrev pub CompletesSeed : {S K B : Type 0} → Telling S K B → RunValue S K B → ℕ → ℕ → Type 0
CompletesSeed of run seed count = Completes run.ran (WritesCounts (EndsAs of.log run.ran) (generated seed count) (of.held run.sink) (of.held run.sink_now))

-- a replay of good lines over empty banks, in which nothing failed, did all, unless memory ran out
abbrev pub ReplaysComplete : (S K B : Type 0) → Type 0
ReplaysComplete S K B = (of : Telling S K B) (run : RunValue S K B) (bytes : List ℕ)
    → RunClauses of run → NothingFailed of run → ReadsGoodLines of run bytes → CompletesReplay of run bytes

-- so did a run of the lines of a seed
abbrev pub SeedsComplete : (S K B : Type 0) → Type 0
SeedsComplete S K B = (of : Telling S K B) (run : RunValue S K B) (seed count : ℕ)
    → RunClauses of run → NothingFailed of run → IsGenerate run.words seed count → CompletesSeed of run seed count

-- whatever its end, a replay reads no more of its source than an input may have, and one byte
abbrev pub ReplaysReadFew : (S K B : Type 0) → Type 0
ReplaysReadFew S K B = (of : Telling S K B) (run : RunValue S K B)
    → RunClauses of run → IsReplay run.words → WhereTold (of.left run.source) (λ bytes. IsReadWithin bytes (of.left run.source_now))

-- all that is said of a run: the clauses of `run`, and what follows from them
pub record RunsCompletely {S K B : Type 0} (of : Telling S K B) (run : RunValue S K B) : Type 0 where
  pub clauses : RunClauses of run
  pub replay : (bytes : List ℕ) → NothingFailed of run → ReadsGoodLines of run bytes → CompletesReplay of run bytes
  pub seed : (seed count : ℕ) → NothingFailed of run → IsGenerate run.words seed count → CompletesSeed of run seed count
  pub few : IsReplay run.words → WhereTold (of.left run.source) (λ bytes. IsReadWithin bytes (of.left run.source_now))
