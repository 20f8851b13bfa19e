-- How a run of the schedule of a seed ends, and what it has written then: counts alone. `run` cites `AreGivenLines` and `EndsGenerated`, as does
-- `run_generated`; its parts (`run_text`, `report`, `write_counts`) the others.
use Rattle.std.specs.Prelude.{◌≡◌, ℕ, List, Option, None, Some, length, take}
use Rattle.std.specs.Io.KnownBytes.{Appends}
use Rattle.mld_io.specs.Faults.{Rose}
use Rattle.mld_io.specs.Lines.{lines_of}
use Rattle.mld_model.specs.World.{World}
use Rattle.schedule_text.specs.schedule_model.Runs.{Stage, Running, Finished, Verdict}
use Rattle.schedule_text.specs.schedule_model.Promises.{KeepsPromises}
use Rattle.schedule_generator.specs.Generated.{generated, text_of}
use Rattle.net_world.specs.declared.summaries.Summary.{Summary}
use Rattle.mld_replay.specs.Counts.{counts_text}
use Rattle.mld_replay.specs.Ran.{IsReplay, Saying, ReplayEnds}
use Rattle.mld_replay.specs.RunSummaries.{TellsOf}
use Rattle.mld_replay.specs.ReplayWords.{IsGenerate}
use Rattle.mld_replay.specs.declared.run.Ran.{Ran}
use Rattle.mld_replay.specs.declared.run.RunFault.{RunFault}
use Rattle.mld_replay.specs.declared.run.RunFault.TheVariants as faults

-- the lines that words and a source give: by `replay` those of the bytes that the source tells, and by `gen` those of the seed
pub data AreGivenLines (words : List (List ℕ)) (left : Option (List ℕ)) (lines : List (List ℕ)) : Type 0 where
  of_source : (bytes : List ℕ) → IsReplay words → left ≡ Some bytes → lines ≡ lines_of bytes → AreGivenLines words left lines
  of_seed : (seed count : ℕ) → IsGenerate words seed count → lines ≡ generated seed count → AreGivenLines words left lines

-- the lines are done, the world that they lead to keeps what is promised, and this holds of it; these are its counts, by what is told of it
pub record HasCounts (P : Stage → Type 0) (lines : List (List ℕ)) (counts : List ℕ) : Type 0 where
  pub text : List ℕ
  pub world : World
  pub verdict : Verdict lines (Finished text world)
  pub keeps : KeepsPromises lines world
  pub holds : P (Running world)
  pub summary : Summary
  pub told : TellsOf (Some summary) (Running world)
  pub counts_are : counts ≡ counts_text (length lines) summary.clones.items

-- the counts were written
pub record WritesCounts (P : Stage → Type 0) (lines : List (List ℕ)) (before after : Option (List ℕ)) : Type 0 where
  pub counts : List ℕ
  pub has : HasCounts P lines counts
  pub written : Appends before after counts

-- a front of them was written
pub record WritesSomeCounts (P : Stage → Type 0) (lines : List (List ℕ)) (before after : Option (List ℕ)) : Type 0 where
  pub counts : List ℕ
  pub has : HasCounts P lines counts
  pub size : ℕ
  pub written : Appends before after (take size counts)

-- nothing was written, and the run ended by this fault as a replay of the text of the lines does, whose sink tells nothing
pub record EndsAsReplay (says : Saying) (fault : RunFault) (lines : List (List ℕ)) (before after : Option (List ℕ)) : Type 0 where
  pub none_written : after ≡ before
  pub left : Option (List ℕ)
  pub ends : ReplayEnds says (Some fault) (text_of lines) left None None

-- where memory ran out: so for want of memory; or the counts were due, and a front of them was written
pub data RunsOut (says : Saying) (lines : List (List ℕ)) (before after : Option (List ℕ)) : Type 0 where
  as_replay : EndsAsReplay says faults.NoMemory lines before after → RunsOut says lines before after
  at_counts : WritesSomeCounts says.kept lines before after → RunsOut says lines before after

-- How a run over the lines of a seed ended, by its fault: what it wrote, and what is said then.
abbrev pub EndsGenerated : Saying → Option RunFault → List (List ℕ) → Option (List ℕ) → Option (List ℕ) → Type 0
EndsGenerated says None lines before after = WritesCounts says.told lines before after
EndsGenerated says (Some faults.Usage) lines before after = ⊥
EndsGenerated says (Some faults.ReadFault) lines before after = ⊥
EndsGenerated says (Some faults.WriteFault) lines before after = WritesSomeCounts says.kept lines before after
EndsGenerated says (Some (faults.BadLine line)) lines before after = ⊥
EndsGenerated says (Some faults.NoMemory) lines before after = RunsOut says lines before after
EndsGenerated says (Some (faults.Device clone)) lines before after = EndsAsReplay says (faults.Device clone) lines before after
EndsGenerated says (Some (faults.TooLarge line)) lines before after = ⊥
EndsGenerated says (Some (faults.NotEmpty clone)) lines before after = after ≡ before

-- ---- the parts of such a run

-- the faults of a run whose lines are in memory and whose replies nobody gets: neither can fail, and its words are known
abbrev pub IsFaultWithin : RunFault → Type 0
IsFaultWithin faults.Usage = ⊥
IsFaultWithin faults.ReadFault = ⊥
IsFaultWithin faults.WriteFault = ⊥
IsFaultWithin fault = Unit {0}

-- the run is one that ended well, and tells this of its world
pub record EndedWell {B : Type 0} (ran : Ran B) (summary : Summary) : Type 0 where
  pub no_fault : ran.fault ≡ None
  pub told : ran.world ≡ Some summary

-- why counts were not written: the sink failed, or memory ran out
pub data IsCountFault (before now : ℕ) (fault : RunFault) : Type 0 where
  failed : fault ≡ faults.WriteFault → Rose before now → IsCountFault before now fault
  no_memory : fault ≡ faults.NoMemory → IsCountFault before now fault

-- what becomes of a run once its counts are due, which they are where it ended well: it stands as it was, and they are written; or they
-- aren't, and it ended by that fault with the same banks
pub data ReportsCounts {B : Type 0} (ran next : Ran B) (lines : ℕ) (Untouched : Type 0) (before after : Option (List ℕ)) (faults_before faults_now : ℕ) : Type 0 where
  not_due : ((summary : Summary) → ¬ EndedWell ran summary) → next ≡ ran → Untouched → ReportsCounts ran next lines Untouched before after faults_before faults_now
  reported : (summary : Summary) → EndedWell ran summary → next ≡ ran → Appends before after (counts_text lines summary.clones.items) → faults_now ≡ faults_before
      → ReportsCounts ran next lines Untouched before after faults_before faults_now
  refused : (summary : Summary) → EndedWell ran summary → (fault : RunFault) → IsCountFault faults_before faults_now fault → next.fault ≡ Some fault → next.banks ≡ ran.banks
      → next.world ≡ None → (size : ℕ) → Appends before after (take size (counts_text lines summary.clones.items))
      → ReportsCounts ran next lines Untouched before after faults_before faults_now
