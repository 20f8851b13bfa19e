-- What the clauses of a line say together.
use Rattle.std.proofs.Common.{◌≡◌, ◌≢◌, ℕ, ◌≤◌, List, Option, Ok, Err, refl, sym, arith, subst}
use Rattle.mld_io.specs.Arm.{Meter}
use Rattle.mld_io.specs.Disk.{Log}
use Rattle.mld_io.specs.Faults.{counted}
use Rattle.crash_laws.specs.clone_parts.KeptSteps.{KeptStep}
use Rattle.shell_session.specs.declared.commands.ShellCommand.{ShellCommand}
use Rattle.shell_session.specs.declared.commands.ShellCommand.TheVariants.{Create}
use Rattle.shell_session.specs.declared.faults.SessionFault.{SessionFault}
use Rattle.shell_session.specs.declared.faults.SessionFault.TheVariants.{Device, NoMemory}
use Rattle.shell_session.specs.declared.sessions.Session.{Session}
use Rattle.shell_session.specs.LineCompleteness.{IsFaultless, LinesAreAnswered}
use Rattle.shell_session.specs.ShellLaws.{IsSameShell}
use Rattle.shell_session.specs.ShellLines.{SpellsShell}
use Rattle.shell_session.specs.ShellReply.{ShellReply}
use Rattle.shell_session.specs.ShellRuns.{ShellLine, says_nothing, is_bad, commands}
use Rattle.shell_session.specs.ShellStep.{FoundsShut, ShellStep}
use Rattle.shell_session.specs.Shells.{Shell, Shut, Live, domain_of}
use Rattle.shell_session.specs.SessionLines.{DoesAndReplies, DoesLine, DoesShellCommand, Meters}
use Rattle.shell_session.proofs.OneShell.{nothing_is_no_command, one_shell_command}

-- ---- the cause

rises : (least now : ℕ) → now ≡ least → least ≤ now
rises least now same = omega (arith, same)

-- a device that had no fault didn't fail
pub had_none : {Failed : Type 0} (before now : Meter) → Meters before now Failed → IsFaultless before now → ¬ Failed
had_none before now meters fine failed = fine (rises (counted before.faults) now.faults (meters.failed failed))

only_memory : (fault : SessionFault) → fault ≢ Device → fault ≡ NoMemory
only_memory Device other = absurd (other refl)
only_memory NoMemory other = refl

-- ---- the command

-- the same command has the same step
same_step : (shell : Shell) (command other : ShellCommand) (reply : ShellReply) (steps : List KeptStep) (next : Shell) → IsSameShell command other
    → ShellStep shell other reply steps next → ShellStep shell command reply steps next
same_step (Shut found) (Create id domain properties) (Create one name iris) reply steps next same does =
    subst (λ (i : List ℕ). FoundsShut i domain properties.items found reply steps next) (sym same.0)
    (subst (λ (d : List ℕ). FoundsShut one d properties.items found reply steps next) (sym same.1)
    (subst (λ (p : List (List ℕ)). FoundsShut one name p found reply steps next) (sym same.2) does))
same_step (Live generation clone) (Create id domain properties) (Create one name iris) reply steps next same does =
    record { new = does.new; does = does.does; becomes = does.becomes }
same_step shell command other reply steps next same does = subst (λ (c : ShellCommand). ShellStep shell c reply steps next) (sym same) does

-- a line that spells a command is done by the step of that
by_step : (shell : Shell) (line text : List ℕ) (command : ShellCommand) (steps : List KeptStep) (next : Shell) → SpellsShell (domain_of shell) line command
    → ShellLine shell line text steps next → DoesAndReplies shell command text steps next
by_step shell line text command steps next spells (says_nothing nothing _ _ _) = absurd (nothing_is_no_command (domain_of shell) line command nothing spells)
by_step shell line text command steps next spells (is_bad bad _ _ _) = absurd (bad.1 command spells)
by_step shell line text command steps next spells (commands it) = record {
  reply = it.reply;
  does = same_step shell command it.command it.reply steps next (one_shell_command (domain_of shell) line command it.command spells it.spells) it.does;
  replies = it.replies;
}

answered_by : {B : Type 0} (log : B → Option Log) (shell : Shell) (line : List ℕ) (command : ShellCommand) (old : B) (before : List ℕ) (next : Session B) (after : List ℕ)
    → SpellsShell (domain_of shell) line command → DoesLine log shell line old before next after → DoesShellCommand log shell command old before next after
answered_by log shell line command old before next after spells does = record {
  text = does.text;
  steps = does.steps;
  shell = does.shell;
  does = by_step shell line does.text command does.steps does.shell spells does.does;
  written = does.written;
  stands = does.stands;
  moments = does.moments;
  settled = does.settled;
}

-- ---- the law

pub lines_answered : {B : Type 0} (log : B → Option Log) (meter : B → Meter) → LinesAreAnswered log meter
lines_answered log meter session line before after (Ok next) clauses fine = λ shell stands. record {
  does = clauses.done shell stands;
  by_command = λ command spells. answered_by log shell line command _ before next after spells (clauses.done shell stands);
}
lines_answered log meter session line before after (Err refused) clauses fine =
    (only_memory refused.0 (had_none _ _ clauses.fault fine), clauses.out)
