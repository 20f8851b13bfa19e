-- What is handed on: an answer that was told, and one that was refused.
use Rattle.std.proofs.Common.{◌≡◌, ◌≢◌, ℕ, Vec, Global, List, [], ◌++◌, Option, Some, Result, Ok, Err, IfOk, IfErr, refl, sym, ap, subst}
use Rattle.uuid.specs.declared.Uuid.{Uuid}
use Rattle.mld_io.specs.Arm.{Meter}
use Rattle.mld_io.specs.Disk.{Log, seen}
use Rattle.text_rules.specs.declared.texts.Text.{Text}
use Rattle.rdf_terms.specs.declared.terms.Iri.{Iri}
use Rattle.mld_io.specs.declared.banks.Side.{Side}
use Rattle.rdf_terms.specs.Order.{iri_cmp}
use Rattle.mld_ops.specs.Properties.{AreKept}
use Rattle.mld_ops.proofs.AscendingLaws.{same_ascending}
use Rattle.mld_ops.proofs.PropertiesLaws.{iri_total, iri_exact}
use Rattle.crash_laws.specs.journal_sides.Pairs.{KeepsNone, read_banks}
use Rattle.crash_laws.specs.journal_store.Closing.{StaysTold}
use Rattle.crash_laws.proofs.of_journal_store.ClosingLaws.{told_same}
use Rattle.crash_laws.specs.journal_store.Crashes.{LeavesNothingNew}
use Rattle.crash_laws.specs.journal_store.Mounting.{IsSynced}
use Rattle.crash_laws.specs.journal_store.declared.faults.MountFault.{MountFault}
use Rattle.crash_laws.specs.clone_core.Opening.{TellsClone, SyncsBoth}
use Rattle.crash_laws.specs.clone_core.declared.mounts.Mounted.TheVariants.{Refused}
use Rattle.shell_session.specs.declared.commands.ShellCommand.{ShellCommand}
use Rattle.shell_session.specs.declared.commands.ShellCommand.TheVariants as shell
use Rattle.shell_session.specs.Shells.{FoundOnBanks, Nothing, Damage, found_of, Shell, Shut}
use Rattle.shell_session.specs.ShellReply.{FoundDamage, IsClosed, shell_text}
use Rattle.shell_session.specs.ShellStep.{ShutStep, IsDue}
use Rattle.shell_session.specs.declared.faults.SessionFault.{SessionFault}
use Rattle.shell_session.specs.declared.faults.SessionFault.TheVariants as faults
use Rattle.shell_session.specs.declared.sessions.Session.{Session}
use Rattle.shell_session.specs.declared.sessions.Session.TheVariants as sessions
use Rattle.shell_session.specs.SessionLines.{DoesAndReplies, DoesShellCommand, StopsShellCommand, banks_after, FailsOnDevice, Meters}
use Rattle.shell_session.specs.Sessions.{session_banks, SessionStands}
use Rattle.shell_session.specs.ShutCalls.{TellsDamage, GivesBackUnmounted}
use Rattle.shell_session.proofs.LineLaws.{only_replies, nothing_stops}
use Rattle.shell_session.proofs.MeterLaws.{meters_none}
use Rattle.shell_session.proofs.ShutLaws.{shut_shell, mount_stops, mount_then, mount_then_stops, create_damaged, nothing_found, synced_found}

-- properties are kept in one way
pub one_kept : (given one other : List (List ℕ)) → AreKept given one → AreKept given other → one ≡ other
one_kept given one other p q =
    same_ascending iri_cmp iri_total iri_exact one other p.ascending q.ascending
    (λ property h. (q.members property).1 ((p.members property).0 h)) (λ property h. (p.members property).1 ((q.members property).0 h))

-- a session was handed on once its text was added
pub handed_on : {S E W : Type 0} (P : S → Type 0) (result : Result S E) (session : S) → IfOk result (λ next. next ≡ session) → IfOk result (λ next. W)
    → (W → P session) → IfOk result P
handed_on P (Ok next) session same written holds = subst P (sym same) (holds written)
handed_on P (Err refused) session same written holds = tt

-- or its banks were given back
pub given_back : {S B : Type 0} (P : B → Type 0) (result : Result S (SessionFault × B)) (banks : B)
    → IfErr result (λ refused. (refused.0 ≡ faults.NoMemory) × (refused.1 ≡ banks)) → P banks → IfErr result (λ refused. P refused.1)
given_back P (Ok next) banks back holds = tt
given_back P (Err refused) banks back holds = subst P (sym back.1) holds

-- either way it is the session's banks that are there behind it
pub answered_banks : {B : Type 0} (result : Result (Session B) (SessionFault × B)) (session : Session B) → IfOk result (λ next. next ≡ session)
    → IfErr result (λ refused. (refused.0 ≡ faults.NoMemory) × (refused.1 ≡ session_banks session)) → banks_after result ≡ session_banks session
answered_banks (Ok next) session same back = ap session_banks same
answered_banks (Err refused) session same back = back.1

module _ {B : Type 0} (log : B → Option Log) (banks : B) where
  -- what holds while no clone is live, after a mount that was stopped
  pub mount_refuses : (mid : B) (command : ShellCommand) → ((l : Log) → log banks ≡ Some l → LeavesNothingNew l (log mid))
      → (it : Shell) → SessionStands log (sessions.Shut banks) it → StopsShellCommand log it command banks mid
  mount_refuses mid command mounts it stands = mount_stops log banks mid it (found_of it) command mounts

  module _ (fault : MountFault) (mid : B) (mounts : (l : Log) → log banks ≡ Some l → LeavesNothingNew l (log mid)) where
    -- banks that were not mounted were given back
    pub refused_stops : {S : Type 0} (command : ShellCommand) (result : Result S (SessionFault × B)) → IfErr result (GivesBackUnmounted fault mid)
        → IfErr result (λ refused. (it : Shell) → SessionStands log (sessions.Shut banks) it → StopsShellCommand log it command banks refused.1)
    refused_stops command (Ok next) back = tt
    refused_stops command (Err refused) back =
        subst (λ (b : B). (it : Shell) → SessionStands log (sessions.Shut banks) it → StopsShellCommand log it command banks b) (sym back.same) (mount_refuses mid command mounts)

    -- or they were damaged, and that was told
    pub refused_does : {E : Type 0} (command : ShellCommand) (before after : List ℕ) (result : Result (Session B) E)
        → IfOk result (λ next. TellsDamage fault mid before next after)
        → ((l : Log) → log banks ≡ Some l → TellsClone (Refused fault mid) (read_banks (seen l)))
        → ((l : Log) → log banks ≡ Some l → IsSynced (SyncsBoth (Refused fault mid)) l (log mid))
        → ((side : Side) (place : ℕ) → ShutStep (Damage side place) command (FoundDamage side place) [] (Shut (Damage side place)))
        → IfOk result (λ next. (it : Shell) → SessionStands log (sessions.Shut banks) it → DoesShellCommand log it command banks before next after)
    refused_does command before after (Err refused) damage tells synced does = tt
    refused_does command before after (Ok next) damage tells synced does =
        subst (λ (s : Session B). (it : Shell) → SessionStands log (sessions.Shut banks) it → DoesShellCommand log it command banks before s after) (sym damage.same)
        (create_damaged log banks mid mounts
        (λ l is. subst (λ (f : MountFault). IsSynced (SyncsBoth (Refused f mid)) l (log mid)) damage.damaged (synced l is))
        before after command damage.side damage.place
        (λ l is. subst (λ (f : MountFault). TellsClone (Refused f mid) (read_banks (seen l))) damage.damaged (tells l is))
        (does damage.side damage.place) damage.written)

  -- a clone was made behind a mount that found nothing
  module _ (blank : B) (mounts : (l : Log) → log banks ≡ Some l → LeavesNothingNew l (log blank)) (synced : (l : Log) → log banks ≡ Some l → IsSynced (Unit {0}) l (log blank))
      (tells : (l : Log) → log banks ≡ Some l → read_banks (seen l) ≡ KeepsNone) (command : ShellCommand) where
    pub created_does : {E : Type 0} (before after : List ℕ) (result : Result (Session B) E)
        → IfOk result (λ next. SessionStands log (sessions.Shut blank) (Shut Nothing) → DoesShellCommand log (Shut Nothing) command blank before next after)
        → IfOk result (λ next. (it : Shell) → SessionStands log (sessions.Shut banks) it → DoesShellCommand log it command banks before next after)
    created_does before after (Err refused) does = tt
    created_does before after (Ok next) does =
        shut_shell log banks (λ (it : Shell). DoesShellCommand log it command banks before next after)
        (nothing_found log banks tells (λ (found : FoundOnBanks). DoesShellCommand log (Shut found) command banks before next after)
        (λ has. mount_then log banks blank _ Nothing before after next has mounts (does (synced_found log banks blank Nothing has synced))))

    pub created_stops : {S : Type 0} (result : Result S (SessionFault × B))
        → IfErr result (λ refused. SessionStands log (sessions.Shut blank) (Shut Nothing) → StopsShellCommand log (Shut Nothing) command blank refused.1)
        → IfErr result (λ refused. (it : Shell) → SessionStands log (sessions.Shut banks) it → StopsShellCommand log it command banks refused.1)
    created_stops (Ok next) stops = tt
    created_stops (Err refused) stops =
        shut_shell log banks (λ (it : Shell). StopsShellCommand log it command banks refused.1)
        (nothing_found log banks tells (λ (found : FoundOnBanks). StopsShellCommand log (Shut found) command banks refused.1)
        (λ has. mount_then_stops log banks blank _ Nothing refused.1 has mounts (stops (synced_found log banks blank Nothing has synced))))

-- what holds of an answer, or of the banks that were given back, by a weaker rule
pub weaken_ok : {S E : Type 0} (result : Result S E) (P Q : S → Type 0) → ((next : S) → P next → Q next) → IfOk result P → IfOk result Q
weaken_ok (Ok next) P Q weaker holds = weaker next holds
weaken_ok (Err refused) P Q weaker holds = tt

pub weaken_err : {S F B : Type 0} (result : Result S (F × B)) (P Q : B → Type 0) → ((banks : B) → P banks → Q banks)
    → IfErr result (λ refused. P refused.1) → IfErr result (λ refused. Q refused.1)
weaken_err (Ok next) P Q weaker holds = tt
weaken_err (Err refused) P Q weaker holds = weaker refused.1 holds

-- ---- a command that is refused while no clone is live

-- its reply says so
closed_step : (found : FoundOnBanks) (command : ShellCommand) → (command ≢ shell.Open)
    → ((id : Uuid) (domain : Text) (properties : Vec Iri Global) → command ≢ shell.Create id domain properties) → ShutStep found command IsClosed [] (Shut found)
closed_step found shell.Open not_open not_create = absurd (not_open refl)
closed_step found (shell.Create id domain properties) not_open not_create = absurd (not_create id domain properties refl)
closed_step found command not_open not_create = (refl, refl, refl)

module _ {B : Type 0} (log : B → Option Log) (meter : B → Meter) (banks : B) (command : ShellCommand) (not_open : command ≢ shell.Open)
    (not_create : (id : Uuid) (domain : Text) (properties : Vec Iri Global) → command ≢ shell.Create id domain properties) (before after : List ℕ)
    (result : Result (Session B) (SessionFault × B)) where
  closed_banks : IfOk result (λ next. next ≡ sessions.Shut banks) → IfErr result (λ refused. (refused.0 ≡ faults.NoMemory) × (refused.1 ≡ banks))
      → banks_after result ≡ banks
  closed_banks same back = answered_banks result (sessions.Shut banks) same back

  closed_fine : IfErr result (λ refused. (refused.0 ≡ faults.NoMemory) × (refused.1 ≡ banks)) → ¬ FailsOnDevice result
  closed_fine back = by result back where
    by : (r : Result (Session B) (SessionFault × B)) → IfErr r (λ refused. (refused.0 ≡ faults.NoMemory) × (refused.1 ≡ banks)) → ¬ FailsOnDevice r
    by (Ok next) back' = λ fails. fails
    by (Err refused) back' = λ fails. absurd (cc (fails, back'.0))

  pub closed_told : IfOk result (λ next. next ≡ sessions.Shut banks) → IfErr result (λ refused. (refused.0 ≡ faults.NoMemory) × (refused.1 ≡ banks))
      → StaysTold (log banks) (log (banks_after result))
  closed_told same back = told_same (log banks) (log (banks_after result)) (ap log (closed_banks same back))

  pub closed_meters : IfOk result (λ next. next ≡ sessions.Shut banks) → IfErr result (λ refused. (refused.0 ≡ faults.NoMemory) × (refused.1 ≡ banks))
      → Meters (meter banks) (meter (banks_after result)) (FailsOnDevice result)
  closed_meters same back = meters_none (meter banks) (meter (banks_after result)) (ap meter (closed_banks same back)) (closed_fine back)

  pub closed_does : IfOk result (λ next. next ≡ sessions.Shut banks) → IfOk result (λ next. after ≡ before ++ shell_text IsClosed)
      → IfOk result (λ next. (it : Shell) → SessionStands log (sessions.Shut banks) it → DoesShellCommand log it command banks before next after)
  closed_does same written =
      handed_on (λ (next : Session B). (it : Shell) → SessionStands log (sessions.Shut banks) it → DoesShellCommand log it command banks before next after)
      result (sessions.Shut banks) same written (λ text.
      shut_shell log banks (λ (it : Shell). DoesShellCommand log it command banks before (sessions.Shut banks) after) (λ found has.
      only_replies log (sessions.Shut banks) (DoesAndReplies (Shut found) command) (shell_text IsClosed) before after (Shut found) has
      (record { reply = IsClosed; does = closed_step found command not_open not_create; replies = refl }) text))

  pub closed_stops : IfErr result (λ refused. (refused.0 ≡ faults.NoMemory) × (refused.1 ≡ banks))
      → IfErr result (λ refused. (it : Shell) → SessionStands log (sessions.Shut banks) it → StopsShellCommand log it command banks refused.1)
  closed_stops back =
      given_back (λ (b : B). (it : Shell) → SessionStands log (sessions.Shut banks) it → StopsShellCommand log it command banks b) result banks back
      (λ it stands. nothing_stops log (sessions.Shut banks) (IsDue it command) (found_of it) banks refl)
