-- A run of the shell does all lines where nothing failed, unless memory is wanting: what the clauses of `shell` say together. `all_lines_are_done` cites
-- `ShellIsComplete` and `EndsWithoutFault`, and `few_bytes_are_read` `ShellReadsFew`.
use Rattle.std.specs.Prelude.{◌≡◌, ◌⊎◌, ℕ, List, [], Option, Some}
use Rattle.std.specs.Io.KnownBytes.{Appends}
use Rattle.mld_io.specs.Arm.{Meter}
use Rattle.mld_io.specs.Disk.{Log}
use Rattle.mld_io.specs.Faults.{Rose}
use Rattle.mld_io.specs.Lines.{lines_of}
use Rattle.input_lines.specs.InputFaults.{RoseJustWhere}
use Rattle.input_lines.specs.Taken.{WhereTold}
use Rattle.input_lines.specs.HowFar.{IsReadWithin}
use Rattle.input_lines.specs.TooLarge.{IsTooLargeLine}
use Rattle.input_lines.specs.Untouched.{AreUntouched}
use Rattle.shell_session.specs.clone_parts.KeptSteps.{KeptStep}
use Rattle.shell_session.specs.LineCompleteness.{IsFaultless}
use Rattle.shell_session.specs.RunEnds.{TellsUsage, IfFound}
use Rattle.shell_session.specs.SessionLines.{Meters}
use Rattle.shell_session.specs.Sessions.{HasFound}
use Rattle.shell_session.specs.ShellRuns.{ShellRuns}
use Rattle.shell_session.specs.Shells.{FoundOnBanks, Shell, Shut, found_of}
use Rattle.shell_run.specs.declared.run.ShellFault.TheVariants as faults
use Rattle.shell_run.specs.declared.run.ShellRan.{ShellRan}
use Rattle.shell_run.specs.FolderWords.{AreRefusedWords}
use Rattle.shell_run.specs.Inputs.{IsReadSo}
use Rattle.shell_run.specs.ShellEnds.{ShellEnds}
use Rattle.shell_run.specs.ShellStatuses.{shell_status}

-- what sources, sinks and banks tell: the bytes left and held, the logs, and the counts of faults
pub record Tellers (S K B : Type 0) : Type 0 where
  pub left : S → Option (List ℕ)
  pub reads : S → ℕ
  pub held : K → Option (List ℕ)
  pub writes : K → ℕ
  pub log : B → Option Log
  pub meter : B → Meter

-- a call of `shell`: the texts of its words, its source and its sink before and after, its banks, and how the run ended
pub record ShellCall (S K B : Type 0) : Type 0 where
  pub texts : List (List ℕ)
  pub source : S
  pub source_after : S
  pub sink : K
  pub sink_after : K
  pub banks : B
  pub ran : ShellRan B

-- what the clauses of `shell` say of a call
pub record ShellClauses {S K B : Type 0} (tell : Tellers S K B) (call : ShellCall S K B) : Type 0 where
  pub status : call.ran.status ≡ shell_status call.ran.fault
  pub usage : TellsUsage faults.Usage faults.NoMemory call.ran.fault (AreRefusedWords call.texts)
  pub untouched : call.ran.fault ≡ Some faults.Usage → AreUntouched call.source call.source_after call.sink call.sink_after
  pub same_banks : call.ran.fault ≡ Some faults.Usage → call.ran.banks ≡ call.banks
  pub input : WhereTold (tell.left call.source) (IsReadSo call.ran.fault (tell.left call.source_after))
  pub ends : IfFound (tell.log call.banks) (λ found. ShellEnds call.ran.fault found (tell.left call.source_after) (record {
    given = tell.left call.source;
    before = tell.held call.sink;
    after = tell.held call.sink_after;
    old = tell.log call.banks;
    now = tell.log call.ran.banks;
  }))
  pub meter : Meters (tell.meter call.banks) (tell.meter call.ran.banks) (call.ran.fault ≡ Some faults.Device)
  pub reads : RoseJustWhere (call.ran.fault ≡ Some faults.ReadFault) (tell.reads call.source) (tell.reads call.source_after)
  pub writes : RoseJustWhere (call.ran.fault ≡ Some faults.WriteFault) (tell.writes call.sink) (tell.writes call.sink_after)

-- nothing failed: the words name a folder, and source, sink and banks had no fault
pub record HasNoFault {S K B : Type 0} (tell : Tellers S K B) (call : ShellCall S K B) : Type 0 where
  pub words : ¬ AreRefusedWords call.texts
  pub reads : ¬ Rose (tell.reads call.source) (tell.reads call.source_after)
  pub writes : ¬ Rose (tell.writes call.sink) (tell.writes call.sink_after)
  pub banks : IsFaultless (tell.meter call.banks) (tell.meter call.ran.banks)

-- a source has these bytes, and none of their lines is too large
pub record GivesLines (given : Option (List ℕ)) (bytes : List ℕ) : Type 0 where
  pub has : given ≡ Some bytes
  pub fits : (before : ℕ) → ¬ IsTooLargeLine bytes before

-- the sink has, behind what it held, the whole text of a run of the model's shell over all lines, from what was found on the banks at first, and the
-- banks keep what that led to
pub record DoesAllLines {S K B : Type 0} (tell : Tellers S K B) (call : ShellCall S K B) (bytes : List ℕ) (found : FoundOnBanks) : Type 0 where
  pub text : List ℕ
  pub steps : List KeptStep
  pub shell : Shell
  pub runs : ShellRuns (Shut found) (lines_of bytes) text steps shell
  pub written : Appends (tell.held call.sink) (tell.held call.sink_after) text
  pub keeps : HasFound (found_of shell) (tell.log call.ran.banks)

-- the run ended by 0: the source is at its end, and where the banks tell their log all lines were done
pub record ShellEndsWell {S K B : Type 0} (tell : Tellers S K B) (call : ShellCall S K B) (bytes : List ℕ) : Type 0 where
  pub well : call.ran.status ≡ 0
  pub read : tell.left call.source_after ≡ Some []
  pub does : IfFound (tell.log call.banks) (DoesAllLines tell call bytes)

-- where nothing failed a run over lines that aren't too large ends so, or by 5
abbrev pub ShellIsComplete : {S K B : Type 0} → Tellers S K B → Type 0
ShellIsComplete {S} {K} {B} tell = (call : ShellCall S K B) → ShellClauses tell call → HasNoFault tell call
    → (bytes : List ℕ) → GivesLines (tell.left call.source) bytes → ShellEndsWell tell call bytes ⊎ (call.ran.status ≡ 5)

-- whatever the source tells, it ends by 0, 5 or 7
abbrev pub EndsWithoutFault : {S K B : Type 0} → Tellers S K B → Type 0
EndsWithoutFault {S} {K} {B} tell = (call : ShellCall S K B) → ShellClauses tell call → HasNoFault tell call
    → (call.ran.status ≡ 0) ⊎ ((call.ran.status ≡ 5) ⊎ (call.ran.status ≡ 7))

-- whatever its end, it reads no more of a source than an input may have, and one byte
abbrev pub ShellReadsFew : {S K B : Type 0} → Tellers S K B → Type 0
ShellReadsFew {S} {K} {B} tell = (call : ShellCall S K B) → ShellClauses tell call → WhereTold (tell.left call.source) (λ bytes. IsReadWithin bytes (tell.left call.source_after))
