-- A line of a session is one of the shell's model.
use Rattle.std.proofs.Common.{◌≡◌, ◌≢◌, ◌⊎◌, ℕ, List, [], ◌++◌, Option, None, Some, inl, inr, refl, sym, ◌∙◌, ap, subst, append-nil}
use Rattle.mld_io.specs.Arm.{Meter}
use Rattle.mld_io.specs.Disk.{Log}
use Rattle.crash_laws.specs.journal_store.Closing.{StaysTold}
use Rattle.mld_model.specs.Local.{LocalClone}
use Rattle.mld_model.specs.Reply.{Stopped}
use Rattle.schedule_text.specs.schedule_model.Schedule.{IsNothing}
use Rattle.crash_laws.specs.clone_parts.KeptSteps.{KeptStep}
use Rattle.crash_laws.specs.clone_core.Banked.{BankedClone, KeepsClone}
use Rattle.shell_session.specs.declared.commands.ShellCommand.{ShellCommand}
use Rattle.shell_session.specs.declared.commands.ShellCommand.TheVariants as shell
use Rattle.shell_session.specs.ReadShell.{IsBadShell, IsShellInForm}
use Rattle.shell_session.specs.ShellLines.{SpellsShell}
use Rattle.shell_session.specs.Shells.{FoundOnBanks, Shell, Shut, Live, domain_of, found_of, generation_after}
use Rattle.shell_session.specs.ShellRuns.{ShellLine, says_nothing, is_bad, commands, IsDueByLine}
use Rattle.shell_session.specs.ShellReply.{ShellReply, Says, BadLine, shell_text}
use Rattle.shell_session.specs.ShellStep.{LiveStep, StaysLive, ShellStep, IsDue, IsDueLive}
use Rattle.shell_session.specs.declared.sessions.Session.{Session}
use Rattle.shell_session.specs.declared.sessions.Session.TheVariants as sessions
use Rattle.shell_session.specs.SessionLines.{ImagesFind, DoesBy, DoesLine, DoesShellCommand, LeavesFrontOfDue, StopsLine, StopsShellCommand, IsUsable, IsLiveCommand}
use Rattle.shell_session.specs.LiveCalls.{CloneAnswers, CloneLeavesFrontOfDue}
use Rattle.shell_session.specs.Sessions.{session_banks, domain_in, HasKept, SessionStands}
use Rattle.shell_session.proofs.Moments.{found_with, same_front, fronts, kept_images, kept_found}

-- ---- a live clone

-- a command that stops no clone is done by a clone that stays live
stays_step : (generation : ℕ) (clone : LocalClone) (command : ShellCommand) (reply : ShellReply) (steps : List KeptStep) (next : Shell) → command ≢ shell.Stop
    → StaysLive generation clone command reply steps next → ShellStep (Live generation clone) command reply steps next
stays_step generation clone shell.Stop reply steps next other does = absurd (other refl)
stays_step generation clone command reply steps next other does = does

module _ {B : Type 0} (log : B → Option Log) (meter : B → Meter) (old : BankedClone B) where
  -- what the model's shell stands for while a clone is live
  pub live_shell : (P : Shell → Type 0) → (HasKept old.local old.generation (log old.banks) → P (Live old.generation old.local))
      → (it : Shell) → SessionStands log (sessions.Live old) it → P it
  live_shell P all (Shut found) stands = absurd stands
  live_shell P all (Live generation local) stands =
      subst (λ (c : LocalClone). P (Live generation c)) stands.same
      (subst (λ (n : ℕ). P (Live n old.local)) stands.counts
      (all (subst (λ (n : ℕ). HasKept old.local n (log old.banks)) (sym stands.counts)
      (subst (λ (c : LocalClone). HasKept c generation (log old.banks)) (sym stands.same) stands.kept))))

  -- it does a command and stays live
  pub live_does : (new : BankedClone B) (command : ShellCommand) (before after : List ℕ) → command ≢ shell.Stop
      → CloneAnswers log meter (LiveStep old.generation old.local command) old before new after → StaysTold (log old.banks) (log new.banks)
      → (new.closed ≡ None → (l : Log) → log new.banks ≡ Some l → KeepsClone new.local new.generation l)
      → (it : Shell) → SessionStands log (sessions.Live old) it → DoesShellCommand log it command old.banks before (sessions.Live new) after
  live_does new command before after other answers told keeps =
      live_shell (λ (it : Shell). DoesShellCommand log it command old.banks before (sessions.Live new) after) (λ has.
      let goes = answers.goes_on in
      let counts : ℕ = generation_after goes.steps old.generation in
      let next : Shell = Live counts new.local in
      let later = told.told has.log has.now_is in
      let kept : HasKept new.local counts (log new.banks) =
      subst (λ (n : ℕ). HasKept new.local n (log new.banks)) goes.counts (record { log = _; now_is = later.1; keeps = keeps goes.opened _ later.1 }) in
      record {
        text = shell_text answers.reply;
        steps = goes.steps;
        shell = next;
        does = record {
          reply = answers.reply;
          does = stays_step old.generation old.local command answers.reply goes.steps next other (record { new = new.local; does = goes.does; becomes = refl });
          replies = refl;
        };
        written = answers.written;
        stands = record { opened = goes.opened; same = refl; counts = goes.counts; kept = kept };
        moments = fronts log meter goes.steps old new.banks goes.moments;
        settled = λ alike. kept_images new.local counts (log new.banks) kept;
      })

  -- or it ends in the middle
  pub live_stops : (now : B) (command : ShellCommand) → CloneLeavesFrontOfDue log meter (IsDueLive old.generation old.local command) old now
      → (it : Shell) → SessionStands log (sessions.Live old) it → StopsShellCommand log it command old.banks now
  live_stops now command stops =
      live_shell (λ (it : Shell). StopsShellCommand log it command old.banks now) (λ has.
      record { steps = stops.steps; due = stops.due; moments = fronts log meter stops.steps old now stops.moments })

  -- it stops
  pub stop_does : (banks : B) (before after : List ℕ) → banks ≡ old.banks → old.closed ≡ None
      → (old.closed ≡ None → (l : Log) → log banks ≡ Some l → KeepsClone old.local old.generation l)
      → after ≡ before ++ shell_text (Says Stopped) → (it : Shell) → SessionStands log (sessions.Live old) it
      → DoesShellCommand log it shell.Stop old.banks before (sessions.Shut banks) after
  stop_does banks before after same is_open keeps written =
      live_shell (λ (it : Shell). DoesShellCommand log it shell.Stop old.banks before (sessions.Shut banks) after) (λ has.
      let found : FoundOnBanks = found_with old.generation old.local in
      let told : log banks ≡ Some has.log = ap log same ∙ has.now_is in
      record {
        text = shell_text (Says Stopped);
        steps = [];
        shell = Shut found;
        does = record { reply = Says Stopped; does = record { replies = refl; none = refl; becomes = refl }; replies = refl };
        written = written;
        stands = record { log = has.log; now_is = told; finds = kept_found old.local old.generation has.log (keeps is_open has.log told) };
        moments = same_front found [] (log old.banks) (log banks) (ap log same);
        settled = λ alike. subst (λ (now : Option Log). ImagesFind found now) (sym (ap log same)) alike;
      })

-- ---- a session that stays as it is

module _ {B : Type 0} (log : B → Option Log) (session : Session B) where
  -- a reply alone
  pub only_replies : (Rule : List ℕ → List KeptStep → Shell → Type 0) (text before after : List ℕ) (it : Shell) → SessionStands log session it
      → Rule text [] it → after ≡ before ++ text → DoesBy Rule log (found_of it) (session_banks session) before session after
  only_replies Rule text before after it stands does written = record {
    text = text;
    steps = [];
    shell = it;
    does = does;
    written = written;
    stands = stands;
    moments = same_front (found_of it) [] (log (session_banks session)) (log (session_banks session)) refl;
    settled = λ alike. alike;
  }

  -- nothing was done
  pub nothing_stops : (Due : List KeptStep → Type 0) (found : FoundOnBanks) (now : B) → now ≡ session_banks session → LeavesFrontOfDue Due log found (session_banks session) now
  nothing_stops Due found now same = record { steps = []; due = inl refl; moments = same_front found [] (log (session_banks session)) (log now) (ap log same) }

-- ---- lines

-- the domain is that of the model's shell
pub domain_is : {B : Type 0} (log : B → Option Log) (session : Session B) (it : Shell) → SessionStands log session it → domain_in session ≡ domain_of it
domain_is log (sessions.Shut banks) (Shut found) stands = refl
domain_is log (sessions.Shut banks) (Live generation local) stands = absurd stands
domain_is log (sessions.Live clone) (Shut found) stands = absurd stands
domain_is log (sessions.Live clone) (Live generation local) stands = ap (λ (c : LocalClone). Some c.domain) stands.same

module _ {B : Type 0} (log : B → Option Log) (session : Session B) (line : List ℕ) (domain : Option (List ℕ)) (same : domain ≡ domain_in session)
    (it : Shell) (stands : SessionStands log session it) where
  in_domain : domain ≡ domain_of it
  in_domain = same ∙ domain_is log session it stands

  pub nothing_line : (before : List ℕ) → IsNothing line → DoesLine log it line (session_banks session) before session before
  nothing_line before nothing =
      only_replies log session (ShellLine it line) [] before before it stands (says_nothing nothing refl refl refl) (sym (append-nil before))

  pub bad_line : (before after : List ℕ) → IsBadShell domain line → after ≡ before ++ shell_text BadLine → DoesLine log it line (session_banks session) before session after
  bad_line before after bad written =
      only_replies log session (ShellLine it line) (shell_text BadLine) before after it stands
      (is_bad (subst (λ (d : Option (List ℕ)). IsBadShell d line) in_domain bad) refl refl refl) written

  pub command_line : (command : ShellCommand) (before after : List ℕ) (next : Session B) → SpellsShell domain line command
      → DoesShellCommand log it command (session_banks session) before next after → DoesLine log it line (session_banks session) before next after
  command_line command before after next spells does = record {
    text = does.text;
    steps = does.steps;
    shell = does.shell;
    does = commands (record {
      command = command;
      spells = subst (λ (d : Option (List ℕ)). SpellsShell d line command) in_domain spells;
      reply = does.does.reply;
      does = does.does.does;
      replies = does.does.replies;
    });
    written = does.written;
    stands = does.stands;
    moments = does.moments;
    settled = does.settled;
  }

  due_line : (command : ShellCommand) (steps : List KeptStep) → SpellsShell domain line command → (steps ≡ []) ⊎ IsDue it command steps
      → (steps ≡ []) ⊎ IsDueByLine it line steps
  due_line command steps spells (inl none) = inl none
  due_line command steps spells (inr due) = inr (command, subst (λ (d : Option (List ℕ)). SpellsShell d line command) in_domain spells, due)

  pub command_stops : (command : ShellCommand) (now : B) → SpellsShell domain line command → StopsShellCommand log it command (session_banks session) now
      → StopsLine log it line (session_banks session) now
  command_stops command now spells stops = record { steps = stops.steps; due = due_line command stops.steps spells stops.due; moments = stops.moments }

-- ---- commands that were read

-- a command that was read may be done
pub usable : (domain : Option (List ℕ)) (line : List ℕ) (command : ShellCommand) → SpellsShell domain line command → IsShellInForm command → IsUsable command
usable None line (shell.Create id name properties) spells form = spells.2.name
usable (Some domain) line (shell.Create id name properties) spells form = spells.2.name
usable domain line command spells form = form

-- while a clone is live none is skipped
pub never_skipped : {B : Type 0} (session : Session B) (domain : Option (List ℕ)) (line : List ℕ) (command : ShellCommand) → domain ≡ domain_in session
    → SpellsShell domain line command → IsLiveCommand session command
never_skipped (sessions.Shut banks) domain line command same spells = tt
never_skipped (sessions.Live clone) domain line command same spells = λ skipped.
    subst (λ (c : ShellCommand). SpellsShell (Some clone.local.domain) line c) skipped
    (subst (λ (d : Option (List ℕ)). SpellsShell d line command) same spells)
