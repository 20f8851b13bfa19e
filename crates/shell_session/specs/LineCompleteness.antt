-- A line is answered where its device had no fault, unless memory is wanting: what the clauses of `Session::line` say together. `lines_are_answered`
-- cites `LinesAreAnswered`.
use Rattle.std.specs.Prelude.{◌≡◌, ℕ, List, Option, Result, Ok, Err, IfOk, IfErr, OnErr}
use Rattle.mld_io.specs.Arm.{Meter}
use Rattle.mld_io.specs.Disk.{Log}
use Rattle.mld_io.specs.Faults.{Rose}
use Rattle.crash_laws.specs.journal_store.Closing.{StaysTold}
use Rattle.shell_session.specs.declared.commands.ShellCommand.{ShellCommand}
use Rattle.shell_session.specs.declared.faults.SessionFault.{SessionFault}
use Rattle.shell_session.specs.declared.faults.SessionFault.TheVariants.{NoMemory}
use Rattle.shell_session.specs.declared.sessions.Session.{Session}
use Rattle.shell_session.specs.ShellLines.{SpellsShell}
use Rattle.shell_session.specs.Shells.{Shell, domain_of}
use Rattle.shell_session.specs.Sessions.{session_banks, MayDoLine, SessionStands}
use Rattle.shell_session.specs.SessionLines.{DoesLine, DoesShellCommand, StopsLine, banks_after, FailsOnDevice, Meters}

-- a device had no fault, be it its own or its arm's: the count of them neither rose nor stands at its end
abbrev pub IsFaultless : Meter → Meter → Type 0
IsFaultless before now = ¬ Rose before.faults now.faults

-- what the clauses of `Session::line` say of a session, a line, the output before and after, and the answer
pub record LineClauses {B : Type 0} (log : B → Option Log) (meter : B → Meter) (session : Session B) (line before after : List ℕ) (answer : Result (Session B) (SessionFault × B)) : Type 0 where
  pub done : IfOk answer (λ next. (shell : Shell) → SessionStands log session shell → DoesLine log shell line (session_banks session) before next after)
  pub standing : IfOk answer MayDoLine
  pub stopped : IfErr answer (λ refused. (shell : Shell) → SessionStands log session shell → StopsLine log shell line (session_banks session) refused.1)
  pub told : StaysTold (log (session_banks session)) (log (banks_after answer))
  pub fault : Meters (meter (session_banks session)) (meter (banks_after answer)) (FailsOnDevice answer)
  pub out : OnErr answer (after ≡ before)

-- a line was done on banks as the model's shell does it; and where it spells a command, by the step of this command, with the text of that reply
pub record IsAnsweredIn {B : Type 0} (log : B → Option Log) (shell : Shell) (line : List ℕ) (old : B) (before : List ℕ) (next : Session B) (after : List ℕ) : Type 0 where
  pub does : DoesLine log shell line old before next after
  pub by_command : (command : ShellCommand) → SpellsShell (domain_of shell) line command → DoesShellCommand log shell command old before next after

-- the answer was this; or memory was wanting, and nothing was added to the output
abbrev pub AnswersOrLacksMemory : {B : Type 0} → (Session B → Type 0) → (before after : List ℕ) → Result (Session B) (SessionFault × B) → Type 0
AnswersOrLacksMemory Answers before after (Ok next) = Answers next
AnswersOrLacksMemory Answers before after (Err refused) = (refused.0 ≡ NoMemory) × (after ≡ before)

-- where a session's device had no fault, a line is answered in the shell that the session stands for, or memory was wanting
abbrev pub LinesAreAnswered : {B : Type 0} → (B → Option Log) → (B → Meter) → Type 0
LinesAreAnswered {B} log meter = (session : Session B) (line before after : List ℕ) (answer : Result (Session B) (SessionFault × B))
    → LineClauses log meter session line before after answer → IsFaultless (meter (session_banks session)) (meter (banks_after answer))
    → AnswersOrLacksMemory (λ next. (shell : Shell) → SessionStands log session shell
    → IsAnsweredIn log shell line (session_banks session) before next after) before after answer
