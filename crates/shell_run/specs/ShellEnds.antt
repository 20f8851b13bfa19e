-- How a run of the shell ends over banks that tell their log: which lines it did, what it wrote, and what its banks keep. `shell` and `do_lines` cite
-- `ShellEnds`.
use Rattle.std.specs.Prelude.{◌≡◌, ◌⊎◌, ℕ, List, [], ◌++◌, take, Option, None, Some}
use Rattle.std.specs.Io.KnownBytes.{Appends}
use Rattle.mld_io.specs.Disk.{Log}
use Rattle.input_lines.specs.Untouched.{HasNotBegun}
use Rattle.shell_session.specs.clone_parts.KeptSteps.{KeptStep}
use Rattle.shell_session.specs.Shells.{Shell, Shut, FoundOnBanks, found_of}
use Rattle.shell_session.specs.ShellRuns.{ShellLine, ShellRuns, IsDueByLine}
use Rattle.shell_session.specs.Sessions.{HasFound}
use Rattle.shell_session.specs.RunEnds.{LeavesDone}
use Rattle.shell_run.specs.Inputs.{AreAllLines, AreReadLines, AreLinesBefore, AreLinesUpTo, IfTold}
use Rattle.shell_run.specs.declared.run.ShellFault.{ShellFault}
use Rattle.shell_run.specs.declared.run.ShellFault.TheVariants as faults

-- what a shell did over banks on which this was found: the lines, the text of their replies, their durable steps, and the shell that they led to
pub record LinesDone (found : FoundOnBanks) : Type 0 where
  pub lines : List (List ℕ)
  pub text : List ℕ
  pub steps : List KeptStep
  pub shell : Shell
  pub runs : ShellRuns (Shut found) lines text steps shell

-- what a run had and left: the bytes of its source, those of its sink before and after, and the logs of its banks
pub record ShellEdges : Type 0 where
  pub given : Option (List ℕ)
  pub before : Option (List ℕ)
  pub after : Option (List ℕ)
  pub old : Option Log
  pub now : Option Log

-- it ended between two lines: the text of those done was written, which are these where the source tells its bytes, and the banks keep what
-- they led to
pub record StopsBetweenLines (Lines : List ℕ → List (List ℕ) → Type 0) (found : FoundOnBanks) (ends : ShellEdges) : Type 0 where
  pub done : LinesDone found
  pub lines_are : IfTold ends.given Lines done.lines
  pub written : Appends ends.before ends.after done.text
  pub keeps : HasFound (found_of done.shell) ends.now
  pub leaves : LeavesDone found done.steps [] ends.old ends.now

-- it ended in the middle of a line: the text of the lines before was written, and of the durable steps that the line had to make a front may
-- be done
pub record StopsWithinLine (found : FoundOnBanks) (left : Option (List ℕ)) (ends : ShellEdges) : Type 0 where
  pub done : LinesDone found
  pub line : List ℕ
  pub lines_are : IfTold ends.given (AreLinesUpTo line left) done.lines
  pub written : Appends ends.before ends.after done.text
  pub due : List KeptStep
  pub is_due : (due ≡ []) ⊎ IsDueByLine done.shell line due
  pub leaves : LeavesDone found done.steps due ends.old ends.now

-- it ended behind a line that was done, and of the line's reply a front was written
pub record StopsWriting (found : FoundOnBanks) (left : Option (List ℕ)) (ends : ShellEdges) : Type 0 where
  pub done : LinesDone found
  pub line : List ℕ
  pub lines_are : IfTold ends.given (AreLinesUpTo line left) done.lines
  pub reply : List ℕ
  pub steps : List KeptStep
  pub next : Shell
  pub does : ShellLine done.shell line reply steps next
  pub size : ℕ
  pub written : Appends ends.before ends.after (done.text ++ take size reply)
  pub keeps : HasFound (found_of next) ends.now
  pub leaves : LeavesDone found (done.steps ++ steps) [] ends.old ends.now

-- it ended at any of these
pub data ShellStopsAnywhere (found : FoundOnBanks) (left : Option (List ℕ)) (ends : ShellEdges) : Type 0 where
  between : StopsBetweenLines (AreReadLines left) found ends → ShellStopsAnywhere found left ends
  within : StopsWithinLine found left ends → ShellStopsAnywhere found left ends
  writing : StopsWriting found left ends → ShellStopsAnywhere found left ends

-- it did not begin: nothing was read or written, and no bank was called
pub record ShellHasNotBegun (left : Option (List ℕ)) (ends : ShellEdges) : Type 0 where
  pub nothing : HasNotBegun ends.given left ends.before ends.after
  pub same_banks : ends.now ≡ ends.old

-- how a run ended, by its fault, where this was found on its banks and this is left of the source's bytes
abbrev pub ShellEnds : Option ShellFault → FoundOnBanks → Option (List ℕ) → ShellEdges → Type 0
ShellEnds None found left ends = StopsBetweenLines (AreAllLines left) found ends
ShellEnds (Some faults.Usage) found left ends = ShellHasNotBegun left ends
ShellEnds (Some faults.ReadFault) found left ends = StopsBetweenLines (AreReadLines left) found ends
ShellEnds (Some faults.WriteFault) found left ends = StopsWriting found left ends
ShellEnds (Some faults.NoMemory) found left ends = ShellStopsAnywhere found left ends
ShellEnds (Some faults.Device) found left ends = StopsWithinLine found left ends
ShellEnds (Some (faults.TooLarge line)) found left ends = StopsBetweenLines (AreLinesBefore line) found ends
