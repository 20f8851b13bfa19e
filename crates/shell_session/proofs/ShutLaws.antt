-- What mounts and makings of clones tell are steps of the shell's model.
use Rattle.std.proofs.Common.{◌≡◌, ℕ, List, [], ◌∷◌, ◌++◌, Option, None, Some, inl, inr, refl, sym, ◌∙◌, ap, subst}
use Rattle.mld_io.specs.Arm.{Meter}
use Rattle.mld_io.specs.Disk.{Log, Sides, seen}
use Rattle.mld_io.specs.declared.banks.Side.{Side}
use Rattle.crash_laws.specs.journal_sides.Pairs.{PairReading, KeepsNone, Keeps, Damages, read_banks}
use Rattle.crash_laws.specs.journal_store.Crashes.{LeavesNothingNew}
use Rattle.crash_laws.specs.journal_store.Mounting.{IsSynced}
use Rattle.mld_model.specs.Local.{LocalClone}
use Rattle.mld_model.specs.Reply.{Opened}
use Rattle.crash_laws.specs.clone_parts.KeptSteps.{KeptStep, Created}
use Rattle.crash_laws.specs.clone_core.Banked.{BankedClone, KeepsClone, head_of, kept_as}
use Rattle.crash_laws.specs.clone_core.DurableCalls.{Creates}
use Rattle.crash_laws.specs.clone_core.Opening.{IsFoundAs, RunsAgain}
use Rattle.shell_session.specs.declared.commands.ShellCommand.{ShellCommand}
use Rattle.shell_session.specs.declared.commands.ShellCommand.TheVariants as shell
use Rattle.shell_session.specs.Shells.{FoundOnBanks, Nothing, Damage, found_in, Shell, Shut, Live}
use Rattle.shell_session.specs.ShellReply.{ShellReply, Says, FoundNothing, FoundDamage, NotEmpty, MadeClone, shell_text}
use Rattle.shell_session.specs.ShellStep.{ShutStep, IsDue, first_clone}
use Rattle.shell_session.specs.declared.sessions.Session.{Session}
use Rattle.shell_session.specs.declared.sessions.Session.TheVariants as sessions
use Rattle.shell_session.specs.SessionLines.{ImagesFind, DoesBy, DoesShellCommand, LeavesFrontOfDue}
use Rattle.shell_session.specs.Sessions.{session_banks, HasFound, HasKept, SessionStands}
use Rattle.shell_session.proofs.Moments.{found_with, no_more_front, later_front, images_later, made_front, kept_images}

-- what the model's shell stands for while no clone is live
pub shut_shell : {B : Type 0} (log : B → Option Log) (banks : B) (P : Shell → Type 0) → ((found : FoundOnBanks) → HasFound found (log banks) → P (Shut found))
    → (it : Shell) → SessionStands log (sessions.Shut banks) it → P it
shut_shell log banks P all (Shut found) stands = all found stands
shut_shell log banks P all (Live generation local) stands = absurd stands

module _ {B : Type 0} (log : B → Option Log) (banks mid : B) where
  -- what a mount tells of what a crash leaves
  abbrev pub Mounts : Type 0
  Mounts = (l : Log) → log banks ≡ Some l → LeavesNothingNew l (log mid)

  -- and of what reads give
  abbrev Synced : Type 0
  Synced = (l : Log) → log banks ≡ Some l → IsSynced (Unit {0}) l (log mid)

  -- the same is found then
  pub synced_found : (found : FoundOnBanks) → HasFound found (log banks) → Synced → HasFound found (log mid)
  synced_found found has synced =
      let then : IsSynced (Unit {0}) has.log (log mid) = synced has.log has.now_is in
      record { log = then.log; now_is = then.now_is; finds = ap (λ (sides : Sides). found_in (read_banks sides)) then.same ∙ has.finds }

  -- a mount ends with a reply alone
  pub mount_replies : (found : FoundOnBanks) (command : ShellCommand) (reply : ShellReply) (before after : List ℕ) → HasFound found (log banks) → Mounts → Synced
      → ShutStep found command reply [] (Shut found) → after ≡ before ++ shell_text reply
      → DoesShellCommand log (Shut found) command banks before (sessions.Shut mid) after
  mount_replies found command reply before after has mounts synced does written = record {
    text = shell_text reply;
    steps = [];
    shell = Shut found;
    does = record { reply = reply; does = does; replies = refl };
    written = written;
    stands = synced_found found has synced;
    moments = no_more_front found [] (log banks) (log mid) mounts;
    settled = images_later found (log banks) (log mid) has.log has.now_is (mounts has.log has.now_is);
  }

  -- or it was stopped, whatever the command has to do then
  pub mount_stops : (it : Shell) (found : FoundOnBanks) (command : ShellCommand) → Mounts → LeavesFrontOfDue (IsDue it command) log found banks mid
  mount_stops it found command mounts = record { steps = []; due = inl refl; moments = no_more_front found [] (log banks) (log mid) mounts }

  -- and the command goes on behind it
  pub mount_then : (Rule : List ℕ → List KeptStep → Shell → Type 0) (found : FoundOnBanks) (before after : List ℕ) (next : Session B) → HasFound found (log banks) → Mounts
      → DoesBy Rule log found mid before next after → DoesBy Rule log found banks before next after
  mount_then Rule found before after next has mounts does =
      let later : ImagesFind found (log banks) → ImagesFind found (log mid) = images_later found (log banks) (log mid) has.log has.now_is (mounts has.log has.now_is) in
      record {
        text = does.text;
        steps = does.steps;
        shell = does.shell;
        does = does.does;
        written = does.written;
        stands = does.stands;
        moments = later_front found does.steps (log banks) (log mid) (log (session_banks next)) mounts later does.moments;
        settled = λ alike. does.settled (later alike);
      }

  pub mount_then_stops : (Due : List KeptStep → Type 0) (found : FoundOnBanks) (now : B) → HasFound found (log banks) → Mounts
      → LeavesFrontOfDue Due log found mid now → LeavesFrontOfDue Due log found banks now
  mount_then_stops Due found now has mounts stops = record {
    steps = stops.steps;
    due = stops.due;
    moments = later_front found stops.steps (log banks) (log mid) (log now) mounts
        (images_later found (log banks) (log mid) has.log has.now_is (mounts has.log has.now_is)) stops.moments;
  }

-- what was found is what the banks read to
found_is : (found : FoundOnBanks) (reading : PairReading) (now : Option Log) (has : HasFound found now) → read_banks (seen has.log) ≡ reading → found_in reading ≡ found
found_is found reading now has reads = ap found_in (sym reads) ∙ has.finds

-- where the banks read to nothing, nothing was found
pub nothing_found : {B : Type 0} (log : B → Option Log) (banks : B) → ((l : Log) → log banks ≡ Some l → read_banks (seen l) ≡ KeepsNone) → (P : FoundOnBanks → Type 0)
    → (HasFound Nothing (log banks) → P Nothing) → (found : FoundOnBanks) → HasFound found (log banks) → P found
nothing_found log banks tells P all found has =
    let same : Nothing ≡ found = found_is found KeepsNone (log banks) has (tells has.log has.now_is) in
    subst (λ (f : FoundOnBanks). HasFound f (log banks) → P f) same all has

module _ {B : Type 0} (log : B → Option Log) (banks : B) where
  -- the banks keep a clone, which runs again
  reopened : (clone : BankedClone B) (before after : List ℕ) → ((l : Log) → log banks ≡ Some l → IsFoundAs clone (read_banks (seen l))) → RunsAgain clone
      → ((l : Log) → log banks ≡ Some l → IsSynced (Unit {0}) l (log clone.banks)) → ((l : Log) → log banks ≡ Some l → LeavesNothingNew l (log clone.banks))
      → after ≡ before ++ shell_text (Says Opened)
      → HasFound (found_with clone.generation clone.local) (log banks)
      → DoesShellCommand log (Shut (found_with clone.generation clone.local)) shell.Open banks before (sessions.Live clone) after
  reopened clone before after tells runs synced mounts written has =
      let found : FoundOnBanks = found_with clone.generation clone.local in
      let at : IsFoundAs clone (read_banks (seen has.log)) = tells has.log has.now_is in
      let then : IsSynced (Unit {0}) has.log (log clone.banks) = synced has.log has.now_is in
      let kept : HasKept clone.local clone.generation (log clone.banks) = record {
        log = then.log;
        now_is = then.now_is;
        keeps = (at.side, record { reads = ap read_banks then.same ∙ at.reads; settled = then.settled tt });
      } in
      record {
        text = shell_text (Says Opened);
        steps = [];
        shell = Live clone.generation clone.local;
        does = record {
          reply = Says Opened;
          does = record {
            clone = clone.local;
            runs = record { head_is = refl; entries_are = refl; held = runs.held; local = runs.local };
            replies = refl;
            none = refl;
            becomes = refl;
          };
          replies = refl;
        };
        written = written;
        stands = record { opened = runs.opened; same = refl; counts = refl; kept = kept };
        moments = no_more_front found [] (log banks) (log clone.banks) mounts;
        settled = λ alike. kept_images clone.local clone.generation (log clone.banks) kept;
      }

  -- whatever was found then
  pub open_live : (clone : BankedClone B) (before after : List ℕ) → ((l : Log) → log banks ≡ Some l → IsFoundAs clone (read_banks (seen l))) → RunsAgain clone
      → ((l : Log) → log banks ≡ Some l → IsSynced (Unit {0}) l (log clone.banks)) → ((l : Log) → log banks ≡ Some l → LeavesNothingNew l (log clone.banks))
      → after ≡ before ++ shell_text (Says Opened) → (it : Shell) → SessionStands log (sessions.Shut banks) it
      → DoesShellCommand log it shell.Open banks before (sessions.Live clone) after
  open_live clone before after tells runs synced mounts written =
      shut_shell log banks (λ (it : Shell). DoesShellCommand log it shell.Open banks before (sessions.Live clone) after) (λ found has.
      let at : IsFoundAs clone (read_banks (seen has.log)) = tells has.log has.now_is in
      let same : found_with clone.generation clone.local ≡ found =
      found_is found (Keeps (kept_as at.side clone.generation clone.local)) (log banks) has at.reads in
      subst (λ (f : FoundOnBanks). HasFound f (log banks) → DoesShellCommand log (Shut f) shell.Open banks before (sessions.Live clone) after) same
      (reopened clone before after tells runs synced mounts written) has)

  module _ (mid : B) (mounts : (l : Log) → log banks ≡ Some l → LeavesNothingNew l (log mid)) (synced : (l : Log) → log banks ≡ Some l → IsSynced (Unit {0}) l (log mid))
      (before after : List ℕ) where
    -- a mount that finds this ends with a reply alone
    finds_so : (reading : PairReading) (command : ShellCommand) (reply : ShellReply) → ((l : Log) → log banks ≡ Some l → read_banks (seen l) ≡ reading)
        → ShutStep (found_in reading) command reply [] (Shut (found_in reading)) → after ≡ before ++ shell_text reply
        → (it : Shell) → SessionStands log (sessions.Shut banks) it → DoesShellCommand log it command banks before (sessions.Shut mid) after
    finds_so reading command reply tells does written =
        shut_shell log banks (λ (it : Shell). DoesShellCommand log it command banks before (sessions.Shut mid) after) (λ found has.
        let same : found_in reading ≡ found = found_is found reading (log banks) has (tells has.log has.now_is) in
        subst (λ (f : FoundOnBanks). HasFound f (log banks) → DoesShellCommand log (Shut f) command banks before (sessions.Shut mid) after) same
        (λ it. mount_replies log banks mid (found_in reading) command reply before after it mounts synced does written) has)

    pub open_empty : ((l : Log) → log banks ≡ Some l → read_banks (seen l) ≡ KeepsNone) → after ≡ before ++ shell_text FoundNothing
        → (it : Shell) → SessionStands log (sessions.Shut banks) it → DoesShellCommand log it shell.Open banks before (sessions.Shut mid) after
    open_empty tells written = finds_so KeepsNone shell.Open FoundNothing tells (refl, refl, refl) written

    pub open_damaged : (side : Side) (place : ℕ) → ((l : Log) → log banks ≡ Some l → read_banks (seen l) ≡ Damages side place)
        → after ≡ before ++ shell_text (FoundDamage side place)
        → (it : Shell) → SessionStands log (sessions.Shut banks) it → DoesShellCommand log it shell.Open banks before (sessions.Shut mid) after
    open_damaged side place tells written = finds_so (Damages side place) shell.Open (FoundDamage side place) tells (refl, refl, refl) written

    pub create_damaged : (command : ShellCommand) (side : Side) (place : ℕ) → ((l : Log) → log banks ≡ Some l → read_banks (seen l) ≡ Damages side place)
        → ShutStep (Damage side place) command (FoundDamage side place) [] (Shut (Damage side place))
        → after ≡ before ++ shell_text (FoundDamage side place)
        → (it : Shell) → SessionStands log (sessions.Shut banks) it → DoesShellCommand log it command banks before (sessions.Shut mid) after
    create_damaged command side place tells does written = finds_so (Damages side place) command (FoundDamage side place) tells does written

    pub create_found : (command : ShellCommand) (clone : BankedClone B) → ((l : Log) → log banks ≡ Some l → IsFoundAs clone (read_banks (seen l)))
        → ShutStep (found_with clone.generation clone.local) command NotEmpty [] (Shut (found_with clone.generation clone.local))
        → after ≡ before ++ shell_text NotEmpty
        → (it : Shell) → SessionStands log (sessions.Shut banks) it → DoesShellCommand log it command banks before (sessions.Shut mid) after
    create_found command clone tells does written =
        shut_shell log banks (λ (it : Shell). DoesShellCommand log it command banks before (sessions.Shut mid) after) (λ found has.
        let at : IsFoundAs clone (read_banks (seen has.log)) = tells has.log has.now_is in
        let same : found_with clone.generation clone.local ≡ found =
        found_is found (Keeps (kept_as at.side clone.generation clone.local)) (log banks) has at.reads in
        subst (λ (f : FoundOnBanks). HasFound f (log banks) → DoesShellCommand log (Shut f) command banks before (sessions.Shut mid) after) same
        (λ it. mount_replies log banks mid (found_with clone.generation clone.local) command NotEmpty before after it mounts synced does written) has)

-- ---- a clone that is made

module _ {B : Type 0} (log : B → Option Log) (meter : B → Meter) (id domain : List ℕ) (properties : List (List ℕ)) (blank : B) where
  -- it was
  pub founds_clone : (command : ShellCommand) (clone : BankedClone B) (kept : List (List ℕ)) (before after : List ℕ)
      → ((steps : List KeptStep) (next : Shell) → (steps ≡ Created (head_of (first_clone id domain kept)) ∷ []) → (next ≡ Live 1 (first_clone id domain kept))
      → ShutStep Nothing command MadeClone steps next)
      → clone.local ≡ first_clone id domain kept → clone.closed ≡ None → clone.generation ≡ 1
      → ((l : Log) → log clone.banks ≡ Some l → KeepsClone clone.local clone.generation l)
      → {Whole Failed : Type 0} → Creates log meter (head_of (first_clone id domain kept)) blank clone.banks Whole Failed
      → after ≡ before ++ shell_text MadeClone → SessionStands log (sessions.Shut blank) (Shut Nothing)
      → DoesShellCommand log (Shut Nothing) command blank before (sessions.Live clone) after
  founds_clone command clone kept before after does local opened generation keeps creates written has =
      let steps : List KeptStep = Created (head_of (first_clone id domain kept)) ∷ [] in
      let told = creates.told.told has.log has.now_is in
      let same : HasKept (first_clone id domain kept) 1 (log clone.banks) =
      subst (λ (c : LocalClone). HasKept c 1 (log clone.banks)) local
      (subst (λ (n : ℕ). HasKept clone.local n (log clone.banks)) generation (record { log = _; now_is = told.1; keeps = keeps _ told.1 })) in
      record {
        text = shell_text MadeClone;
        steps = steps;
        shell = Live 1 (first_clone id domain kept);
        does = record { reply = MadeClone; does = does steps (Live 1 (first_clone id domain kept)) refl refl; replies = refl };
        written = written;
        stands = record { opened = opened; same = local; counts = generation; kept = same };
        moments = made_front log meter steps blank clone.banks creates.moments;
        settled = λ alike. kept_images (first_clone id domain kept) 1 (log clone.banks) same;
      }

  -- or it was not, or not told
  pub founds_short : (Due : List KeptStep → Type 0) (kept : List (List ℕ)) (now : B) {Whole Failed : Type 0}
      → Creates log meter (head_of (first_clone id domain kept)) blank now Whole Failed
      → Due (Created (head_of (first_clone id domain kept)) ∷ []) → LeavesFrontOfDue Due log Nothing blank now
  founds_short Due kept now creates due = record {
    steps = Created (head_of (first_clone id domain kept)) ∷ [];
    due = inr due;
    moments = made_front log meter (Created (head_of (first_clone id domain kept)) ∷ []) blank now creates.moments;
  }
