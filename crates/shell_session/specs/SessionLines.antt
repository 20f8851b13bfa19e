-- What becomes of a session that does a line, and of its banks. `Session::line` and `do_live` cite it, and the calls of a node.
use Rattle.std.specs.Prelude.{◌≡◌, ◌≢◌, ◌⊎◌, ℕ, ◌≤◌, List, [], ◌++◌, Option, Some, Result, Ok, Err, IsTrue}
use Rattle.mld_io.specs.Arm.{Meter, Unarmed}
use Rattle.mld_io.specs.Disk.{Log, Sides, LeavesOnly, LeavesMeanwhile}
use Rattle.mld_io.specs.Faults.{counted}
use Rattle.text_rules.specs.Domain.{is_domain}
use Rattle.crash_laws.specs.journal_sides.Pairs.{read_banks}
use Rattle.crash_laws.specs.clone_parts.KeptSteps.{KeptStep}
use Rattle.shell_session.specs.declared.commands.ShellCommand.{ShellCommand}
use Rattle.shell_session.specs.declared.commands.ShellCommand.TheVariants as shell
use Rattle.shell_session.specs.ReadShell.{IsShellInForm}
use Rattle.shell_session.specs.Shells.{FoundOnBanks, found_in, found_after, Shell, found_of}
use Rattle.shell_session.specs.ShellReply.{ShellReply, shell_text}
use Rattle.shell_session.specs.ShellStep.{ShellStep, IsDue}
use Rattle.shell_session.specs.ShellRuns.{ShellLine, IsDueByLine}
use Rattle.shell_session.specs.declared.faults.SessionFault.{SessionFault}
use Rattle.shell_session.specs.declared.faults.SessionFault.TheVariants.{Device}
use Rattle.shell_session.specs.declared.sessions.Session.{Session}
use Rattle.shell_session.specs.declared.sessions.Session.TheVariants as sessions
use Rattle.shell_session.specs.Sessions.{session_banks, SessionStands}

-- ---- what a crash leaves

-- this is found on whatever a crash now leaves of banks that tell their log
abbrev pub ImagesFind : FoundOnBanks → Option Log → Type 0
ImagesFind found now = (log : Log) → now ≡ Some log → LeavesOnly log (λ image. found_in (read_banks image) ≡ found)

-- what is found there is what a front of durable steps makes of what was found before
pub record FindsFront (found : FoundOnBanks) (steps : List KeptStep) (image : Sides) : Type 0 where
  pub front : List KeptStep
  pub rest : List KeptStep
  pub whole : front ++ rest ≡ steps
  pub finds : found_in (read_banks image) ≡ found_after front found

-- where the same was found on all that a crash might have left before, at each moment since a crash leaves only what a front of the steps makes of that
abbrev pub LeavesFront : FoundOnBanks → List KeptStep → Option Log → Option Log → Type 0
LeavesFront found steps old now =
    (log : Log) → old ≡ Some log → ImagesFind found old → LeavesMeanwhile log now (λ calls image. FindsFront found steps image)

-- ---- a line that was done

-- A session goes on by a rule of the model, which gives text, durable steps and a shell: the text was added to the output, the new session stands for
-- the shell, and where the same was found on all that a crash might have left before, so it is now.
pub record DoesBy {B : Type 0} (Rule : List ℕ → List KeptStep → Shell → Type 0) (log : B → Option Log) (found : FoundOnBanks) (old : B) (before : List ℕ) (next : Session B) (after : List ℕ) : Type 0 where
  pub text : List ℕ
  pub steps : List KeptStep
  pub shell : Shell
  pub does : Rule text steps shell
  pub written : after ≡ before ++ text
  pub stands : SessionStands log next shell
  pub moments : LeavesFront found steps (log old) (log (session_banks next))
  pub settled : ImagesFind found (log old) → ImagesFind (found_of shell) (log (session_banks next))

-- a line of the model's shell was done
abbrev pub DoesLine : {B : Type 0} → (B → Option Log) → Shell → List ℕ → B → List ℕ → Session B → List ℕ → Type 0
DoesLine log shell line old before next after = DoesBy (ShellLine shell line) log (found_of shell) old before next after

-- the model's shell does a command, with the text of its reply
pub record DoesAndReplies (shell : Shell) (command : ShellCommand) (text : List ℕ) (steps : List KeptStep) (next : Shell) : Type 0 where
  pub reply : ShellReply
  pub does : ShellStep shell command reply steps next
  pub replies : text ≡ shell_text reply

-- a command of the model's shell was done
abbrev pub DoesShellCommand : {B : Type 0} → (B → Option Log) → Shell → ShellCommand → B → List ℕ → Session B → List ℕ → Type 0
DoesShellCommand log shell command old before next after = DoesBy (DoesAndReplies shell command) log (found_of shell) old before next after

-- ---- a line that was not

-- a session ends in the middle of durable steps that are due, or of none
pub record LeavesFrontOfDue {B : Type 0} (Due : List KeptStep → Type 0) (log : B → Option Log) (found : FoundOnBanks) (old now : B) : Type 0 where
  pub steps : List KeptStep
  pub due : (steps ≡ []) ⊎ Due steps
  pub moments : LeavesFront found steps (log old) (log now)

-- those of a line, and of a command
abbrev pub StopsLine : {B : Type 0} → (B → Option Log) → Shell → List ℕ → B → B → Type 0
StopsLine log shell line old now = LeavesFrontOfDue (IsDueByLine shell line) log (found_of shell) old now

abbrev pub StopsShellCommand : {B : Type 0} → (B → Option Log) → Shell → ShellCommand → B → B → Type 0
StopsShellCommand log shell command old now = LeavesFrontOfDue (IsDue shell command) log (found_of shell) old now

-- the banks, whatever a line answered
abbrev pub banks_after : {B : Type 0} → Result (Session B) (SessionFault × B) → B
banks_after (Ok next) = session_banks next
banks_after (Err refused) = refused.1

-- the device failed
abbrev pub FailsOnDevice : {B : Type 0} → Result (Session B) (SessionFault × B) → Type 0
FailsOnDevice (Ok next) = ⊥
FailsOnDevice (Err refused) = refused.0 ≡ Device

-- What a line does to the counts of faults: a fault of the device is told just where one was counted, whether it is armed or not, and where it
-- isn't that is one of its own. A device that isn't armed stays so.
pub record Meters (before now : Meter) (Failed : Type 0) : Type 0 where
  pub later : before.faults ≤ now.faults
  pub real_later : before.real_faults ≤ now.real_faults
  pub unarmed : before.arm ≡ Unarmed → now.arm ≡ Unarmed
  pub failed : Failed → now.faults ≡ counted before.faults
  pub cause : Failed → before.arm ≡ Unarmed → now.real_faults ≡ counted before.real_faults
  pub quiet : ¬ Failed → (now.faults ≡ before.faults) × (now.real_faults ≡ before.real_faults)

-- ---- commands that may be done

-- a command that was read: what it has is in form, and the domain of a clone that is to be made has a name
abbrev pub IsUsable : ShellCommand → Type 0
IsUsable (shell.Create id domain properties) = IsTrue (is_domain domain)
IsUsable command = IsShellInForm command

-- where a clone is live, the command isn't one that was skipped
abbrev pub IsLiveCommand : {B : Type 0} → Session B → ShellCommand → Type 0
IsLiveCommand (sessions.Shut banks) command = Unit {0}
IsLiveCommand (sessions.Live clone) command = command ≢ shell.Skipped

-- a live clone does the command, and stays live
pub record KeepsLive (command : ShellCommand) : Type 0 where
  pub stays : command ≢ shell.Stop
  pub live : command ≢ shell.Skipped
