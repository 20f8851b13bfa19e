-- What mounts and makings of clones tell is how a node begins.
use Rattle.std.proofs.Common.{◌≡◌, ℕ, true, false, List, [], ◌∷◌, Option, None, Some, IfOk, IfErr, Result, Ok, Err, inl, inr, refl, sym, ◌∙◌, ap, subst}
use Rattle.mld_io.specs.Arm.{Meter, Metered}
use Rattle.mld_io.specs.Disk.{Log, Sides, seen, MayLeave, IsSettled}
use Rattle.rdf_terms.specs.Order.{iri_cmp}
use Rattle.mld_ops.specs.Properties.{AreKept}
use Rattle.mld_ops.proofs.AscendingLaws.{same_ascending}
use Rattle.mld_ops.proofs.PropertiesLaws.{iri_total, iri_exact}
use Rattle.node_core.specs.journal_sides.Pairs.{KeepsNone, read_banks}
use Rattle.node_core.specs.journal_store.Crashes.{LeavesNothingNew}
use Rattle.node_core.specs.journal_store.Mounting.{IsSynced}
use Rattle.node_core.specs.journal_store.Standing.{KeepsNothing}
use Rattle.node_core.specs.journal_store.declared.faults.MakeFault.{MakeFault}
use Rattle.node_core.specs.journal_store.declared.faults.MakeFault.TheVariants as make
use Rattle.node_core.specs.journal_store.declared.faults.MountFault.{MountFault}
use Rattle.node_core.specs.journal_store.declared.faults.MountFault.TheVariants as mount
use Rattle.mld_model.specs.Local.{LocalClone, LocalAsker}
use Rattle.node_core.specs.clone_parts.KeptSteps.{KeptStep, Created}
use Rattle.node_core.specs.clone_core.Banked.{BankedClone, BankedAsker, KeepsClone, head_of}
use Rattle.node_core.specs.clone_core.DurableCalls.{Creates}
use Rattle.node_core.specs.clone_core.Opening.{IsFoundAs, RunsAgain, TellsClone, SyncsBoth, mount_calls}
use Rattle.node_core.specs.clone_core.declared.mounts.Mounted.TheVariants.{Refused}
use Rattle.node_core.specs.shell_session.Shells.{FoundOnBanks, Nothing, found_in}
use Rattle.node_core.specs.shell_session.ShellStep.{first_clone}
use Rattle.node_core.specs.shell_session.Sessions.{HasFound, HasKept}
use Rattle.node_core.specs.shell_session.SessionLines.{ImagesFind, LeavesFront, Meters}
use Rattle.node_core.proofs.of_shell_session.Moments.{found_with, same_front, no_more_front, later_front, images_later, made_front, kept_images}
use Rattle.node_run.specs.declared.node.NodeWords.{NodeWords}
use Rattle.node_core.specs.declared.states.NodeState.{NodeState}
use Rattle.node_core.specs.declared.states.NodeState.TheVariants as states
use Rattle.node_core.specs.NodeStates.{state_banks, IsOpen}
use Rattle.node_core.specs.node_model.Keepers.{Keeper, Lives, Asks}
use Rattle.node_run.specs.declared.stops.NodeStop.{NodeStop}
use Rattle.node_run.specs.declared.stops.NodeStop.TheVariants as stops
use Rattle.node_run.specs.ServiceStatuses.{stop_of_make, stop_of_mount, IsAtFirst}
use Rattle.node_run.specs.Start.{Begins, founds, asks, runs_again, IsOther}
use Rattle.node_core.specs.shell_session.RunEnds.{LeavesDone}
use Rattle.node_run.specs.NodeBegun.{BeginsOn, FallsShort, BeginsShort, IsOfWords, RunsAsFound, RefusesOther, found_on, banks_begun, FailsToBegin}
use Rattle.node_core.proofs.of_shell_session.MeterLaws.{meters_of, meters_as}
use Rattle.node_run.proofs.FrontLaws.{leaves_first}

-- what reads give is found, whatever a crash now leaves
settled_images : (found : FoundOnBanks) (log : Log) (now : Option Log) → now ≡ Some log → IsSettled log → found_in (read_banks (seen log)) ≡ found → ImagesFind found now
settled_images found log now is settled finds other told image left =
    let same : other ≡ log = cc (told, is) in
    let at : image ≡ seen log = settled image (subst (λ (l : Log). MayLeave l image) same left) in
    ap (λ (sides : Sides). found_in (read_banks sides)) at ∙ finds

-- ---- banks that were mounted

module _ {B : Type 0} (log : B → Option Log) (words : NodeWords) (banks mid : B) (mounts : (l : Log) → log banks ≡ Some l → LeavesNothingNew l (log mid)) (first : Log)
    (told : log banks ≡ Some first) where
  -- what was found is found
  still : (found : FoundOnBanks) → found_on first ≡ found → IsSynced (Unit {0}) first (log mid) → HasFound found (log mid)
  still found same synced = record {
    log = synced.log;
    now_is = synced.now_is;
    finds = ap (λ (sides : Sides). found_in (read_banks sides)) synced.same ∙ same;
  }

  -- also on what a crash leaves
  always : (found : FoundOnBanks) → found_on first ≡ found → IsSynced (Unit {0}) first (log mid) → ImagesFind found (log mid)
  always found same synced =
      settled_images found synced.log (log mid) synced.now_is (synced.settled tt) (ap (λ (sides : Sides). found_in (read_banks sides)) synced.same ∙ same)

  -- as on what it left before
  later : (found : FoundOnBanks) → ImagesFind found (log banks) → ImagesFind found (log mid)
  later found = images_later found (log banks) (log mid) first told (mounts first told)

  -- no durable step was done
  none_done : (found : FoundOnBanks) → LeavesDone found [] [] (log banks) (log mid)
  none_done found = leaves_first found [] (log banks) (log mid) first told (no_more_front found [] (log banks) (log mid) mounts)

  -- the clone that was found runs again
  runs_found : (clone : BankedClone B) → clone.banks ≡ mid → IsFoundAs clone (read_banks (seen first)) → RunsAgain clone → IsSynced (Unit {0}) first (log mid)
      → IsOfWords words clone.local → BeginsOn log words (found_on first) (log banks) (states.Live clone)
  runs_found clone same at runs synced is_of =
      let found : FoundOnBanks = found_with clone.generation clone.local in
      let is : found_on first ≡ found = ap found_in at.reads in
      let P : B → Type 0 = λ b. LeavesFront found [] (log banks) (log b) in
      let begun : BeginsOn log words found (log banks) (states.Live clone) = record {
        first = [];
        begins = runs_again clone.generation (head_of clone.local) clone.local.entries clone.local
            (record { head_is = refl; entries_are = refl; held = runs.held; local = runs.local }) is_of.0 is_of.1;
        keeps = subst (λ (b : B). HasFound found (log b)) (sym same) (still found is synced);
        moments = subst P (sym same) (no_more_front found [] (log banks) (log mid) mounts);
        settled = subst (λ (b : B). ImagesFind found (log b)) (sym same) (always found is synced);
      } in
      subst (λ (f : FoundOnBanks). BeginsOn log words f (log banks) (states.Live clone)) (sym is) begun

  -- or it is another
  finds_other : (clone : BankedClone B) → IsFoundAs clone (read_banks (seen first)) → IsSynced (Unit {0}) first (log mid) → ¬ IsOfWords words clone.local
      → BeginsShort stops.OtherClone words (found_on first) (log banks) (log mid)
  finds_other clone at synced other =
      let is : found_on first ≡ found_with clone.generation clone.local = ap found_in at.reads in
      record {
        so = subst (λ (f : FoundOnBanks). IsOther words f) (sym is) other;
        keeps = still (found_on first) refl synced;
        images = always (found_on first) refl synced;
        leaves = none_done (found_on first);
      }

  -- they were not mounted
  not_mounted : (fault : MountFault) → TellsClone (Refused fault mid) (read_banks (seen first)) → IsSynced (SyncsBoth (Refused fault mid)) first (log mid)
      → BeginsShort (stop_of_mount fault) words (found_on first) (log banks) (log mid)
  not_mounted (mount.Damaged side place) tells synced =
      record {
        so = ap found_in tells;
        keeps = still (found_on first) refl synced;
        images = always (found_on first) refl synced;
        leaves = none_done (found_on first);
      }
  not_mounted mount.Device tells synced = record { due = []; is_due = inl refl; leaves = none_done (found_on first) }
  not_mounted mount.NoMemory tells synced = record { due = []; is_due = inl refl; leaves = none_done (found_on first) }

  -- ---- a node began on them, or it did not

  begins_then : (state : NodeState B) → read_banks (seen first) ≡ KeepsNone → BeginsOn log words Nothing (log mid) state
      → BeginsOn log words (found_on first) (log banks) state
  begins_then state tells begun =
      let is : found_on first ≡ Nothing = ap found_in tells in
      let then : BeginsOn log words Nothing (log banks) state = record {
        first = begun.first;
        begins = begun.begins;
        keeps = begun.keeps;
        moments = later_front Nothing begun.first (log banks) (log mid) (log (state_banks state)) mounts (later Nothing) begun.moments;
        settled = begun.settled;
      } in
      subst (λ (f : FoundOnBanks). BeginsOn log words f (log banks) state) (sym is) then

  leaves_then : (found : FoundOnBanks) (due : List KeptStep) (now : Option Log) → LeavesDone found [] due (log mid) now → LeavesDone found [] due (log banks) now
  leaves_then found due now leaves = record {
    moments = later_front found due (log banks) (log mid) now mounts (later found) leaves.moments;
    settled = λ alike. leaves.settled (later found alike);
  }

  short_then : (stop : NodeStop) (found : FoundOnBanks) (now : Option Log) → BeginsShort stop words found (log mid) now → BeginsShort stop words found (log banks) now
  short_then stops.NoMemory found now short = record { due = short.due; is_due = short.is_due; leaves = leaves_then found short.due now short.leaves }
  short_then stops.Device found now short = record { due = short.due; is_due = short.is_due; leaves = leaves_then found short.due now short.leaves }
  short_then (stops.Damaged side place) found now short =
      record { so = short.so; keeps = short.keeps; images = short.images; leaves = leaves_then found [] now short.leaves }
  short_then stops.OtherClone found now short =
      record { so = short.so; keeps = short.keeps; images = short.images; leaves = leaves_then found [] now short.leaves }
  short_then stop found now short = absurd short

  short_on : (stop : NodeStop) (now : Option Log) → read_banks (seen first) ≡ KeepsNone → BeginsShort stop words Nothing (log mid) now
      → BeginsShort stop words (found_on first) (log banks) now
  short_on stop now tells short =
      subst (λ (f : FoundOnBanks). BeginsShort stop words f (log banks) now) (sym (ap found_in tells)) (short_then stop Nothing now short)

-- ---- what `begin` answers

module _ {B : Type 0} (log : B → Option Log) (words : NodeWords) (banks : B) where
  -- over banks that keep a clone
  pub found_begins : (clone : BankedClone B) (result : Result (NodeState B) (NodeStop × B)) → IfOk result (RunsAsFound words clone)
      → ((l : Log) → log banks ≡ Some l → IsFoundAs clone (read_banks (seen l))) → RunsAgain clone
      → ((l : Log) → log banks ≡ Some l → IsSynced (Unit {0}) l (log clone.banks)) → ((l : Log) → log banks ≡ Some l → LeavesNothingNew l (log clone.banks))
      → IfOk result (λ state. (l : Log) → log banks ≡ Some l → BeginsOn log words (found_on l) (log banks) state)
  found_begins clone (Err refused) runs tells again synced mounts = tt
  found_begins clone (Ok state) runs tells again synced mounts = λ l told.
      subst (λ (s : NodeState B). BeginsOn log words (found_on l) (log banks) s) (sym runs.same)
      (runs_found log words banks clone.banks mounts l told clone refl (tells l told) again (synced l told) runs.is_of)

  pub found_short : (clone : BankedClone B) (result : Result (NodeState B) (NodeStop × B)) → IfErr result (RefusesOther words clone)
      → ((l : Log) → log banks ≡ Some l → IsFoundAs clone (read_banks (seen l)))
      → ((l : Log) → log banks ≡ Some l → IsSynced (Unit {0}) l (log clone.banks)) → ((l : Log) → log banks ≡ Some l → LeavesNothingNew l (log clone.banks))
      → IfErr result (λ refused. (l : Log) → log banks ≡ Some l → BeginsShort refused.0 words (found_on l) (log banks) (log refused.1))
  found_short clone (Ok state) refuses tells synced mounts = tt
  found_short clone (Err refused) refuses tells synced mounts = λ l told.
      subst (λ (b : B). BeginsShort refused.0 words (found_on l) (log banks) (log b)) (sym refuses.back)
      (subst (λ (stop : NodeStop). BeginsShort stop words (found_on l) (log banks) (log clone.banks)) (sym refuses.told)
      (finds_other log words banks clone.banks mounts l told clone (tells l told) (synced l told) refuses.is_of))

  -- over banks that keep nothing
  pub anew_begins : (blank : B) (result : Result (NodeState B) (NodeStop × B))
      → IfOk result (λ state. (l : Log) → log blank ≡ Some l → KeepsNothing l → BeginsOn log words Nothing (log blank) state)
      → ((l : Log) → log banks ≡ Some l → read_banks (seen l) ≡ KeepsNone)
      → ((l : Log) → log banks ≡ Some l → IsSynced (Unit {0}) l (log blank)) → ((l : Log) → log banks ≡ Some l → LeavesNothingNew l (log blank))
      → IfOk result (λ state. (l : Log) → log banks ≡ Some l → BeginsOn log words (found_on l) (log banks) state)
  anew_begins blank (Err refused) begun tells synced mounts = tt
  anew_begins blank (Ok state) begun tells synced mounts = λ l told.
      let then : IsSynced (Unit {0}) l (log blank) = synced l told in
      begins_then log words banks blank mounts l told state (tells l told)
      (begun then.log then.now_is (record { none = ap read_banks then.same ∙ tells l told; settled = then.settled tt }))

  pub anew_short : (blank : B) (result : Result (NodeState B) (NodeStop × B))
      → IfErr result (λ refused. (l : Log) → log blank ≡ Some l → BeginsShort refused.0 words Nothing (log blank) (log refused.1))
      → ((l : Log) → log banks ≡ Some l → read_banks (seen l) ≡ KeepsNone)
      → ((l : Log) → log banks ≡ Some l → IsSynced (Unit {0}) l (log blank)) → ((l : Log) → log banks ≡ Some l → LeavesNothingNew l (log blank))
      → IfErr result (λ refused. (l : Log) → log banks ≡ Some l → BeginsShort refused.0 words (found_on l) (log banks) (log refused.1))
  anew_short blank (Ok state) short tells synced mounts = tt
  anew_short blank (Err refused) short tells synced mounts = λ l told.
      let then : IsSynced (Unit {0}) l (log blank) = synced l told in
      short_on log words banks blank mounts l told refused.0 (log refused.1) (tells l told) (short then.log then.now_is)

  -- banks that were not mounted
  pub refused_short : (mid : B) (fault : MountFault) → ((l : Log) → log banks ≡ Some l → TellsClone (Refused fault mid) (read_banks (seen l)))
      → ((l : Log) → log banks ≡ Some l → IsSynced (SyncsBoth (Refused fault mid)) l (log mid)) → ((l : Log) → log banks ≡ Some l → LeavesNothingNew l (log mid))
      → (l : Log) → log banks ≡ Some l → BeginsShort (stop_of_mount fault) words (found_on l) (log banks) (log mid)
  refused_short mid fault tells synced mounts l told = not_mounted log words banks mid mounts l told fault (tells l told) (synced l told)

-- ---- banks that keep nothing

-- properties are kept in one way
one_kept : (given one other : List (List ℕ)) → AreKept given one → AreKept given other → one ≡ other
one_kept given one other p q =
    same_ascending iri_cmp iri_total iri_exact one other p.ascending q.ascending
    (λ property h. (q.members property).1 ((p.members property).0 h)) (λ property h. (p.members property).1 ((q.members property).0 h))

module _ {B : Type 0} (log : B → Option Log) (meter : B → Meter) (words : NodeWords) (blank : B) where
  -- a leaf is asked for
  pub asks_leaf : (asker : BankedAsker B) → words.join ≡ true → asker.asker.id ≡ words.id → asker.asker.domain ≡ words.domain
      → AreKept words.props.items asker.asker.properties → asker.banks ≡ blank
      → (l : Log) → log blank ≡ Some l → KeepsNothing l → BeginsOn log words Nothing (log blank) (states.Asking asker)
  asks_leaf asker role id domain kept same l told nothing =
      let who : LocalAsker = record { id = words.id; domain = words.domain; properties = asker.asker.properties } in
      let is : who ≡ asker.asker = λ i. record { id = sym id i; domain = sym domain i; properties = asker.asker.properties } in
      record {
        first = [];
        begins = subst (λ (a : LocalAsker). Begins words Nothing [] (Asks a)) is (asks role asker.asker.properties kept);
        keeps = subst (λ (b : B). HasFound Nothing (log b)) (sym same) (record { log = l; now_is = told; finds = ap found_in nothing.none });
        moments = same_front Nothing [] (log blank) (log asker.banks) (ap log same);
        settled = subst (λ (b : B). ImagesFind Nothing (log b)) (sym same)
            (settled_images Nothing l (log blank) told nothing.settled (ap found_in nothing.none));
      }

  -- a clone is made
  pub founds_clone : (clone : BankedClone B) (kept : List (List ℕ)) → words.join ≡ false → AreKept words.props.items kept → AreKept words.props.items clone.local.properties
      → clone.local ≡ first_clone words.id words.domain clone.local.properties → clone.closed ≡ None → clone.generation ≡ 1
      → ((l : Log) → log clone.banks ≡ Some l → KeepsClone clone.local clone.generation l)
      → {Whole Failed : Type 0} → Creates log meter (head_of (first_clone words.id words.domain kept)) blank clone.banks Whole Failed
      → (l : Log) → log blank ≡ Some l → BeginsOn log words Nothing (log blank) (states.Live clone)
  founds_clone clone kept role each given local opened generation keeps creates l told =
      let same : clone.local.properties ≡ kept = one_kept words.props.items clone.local.properties kept given each in
      let made : LocalClone = first_clone words.id words.domain kept in
      let is : clone.local ≡ made = local ∙ (λ i. first_clone words.id words.domain (same i)) in
      let then = creates.told.told l told in
      let has : HasKept clone.local clone.generation (log clone.banks) = record { log = _; now_is = then.1; keeps = keeps _ then.1 } in
      record {
        first = Created (head_of made) ∷ [];
        begins = subst (λ (k : Keeper). Begins words Nothing (Created (head_of made) ∷ []) k) (λ i. Lives (sym generation i) (sym is i)) (founds role kept each);
        keeps = record { log = has.log; now_is = has.now_is; finds = ap found_in has.keeps.1.reads };
        moments = made_front log meter (Created (head_of made) ∷ []) blank clone.banks creates.moments;
        settled = kept_images clone.local clone.generation (log clone.banks) has;
      }

  -- or it wasn't
  pub founds_short : (fault : MakeFault) (kept : List (List ℕ)) (now : B) → words.join ≡ false → AreKept words.props.items kept
      → {Whole Failed : Type 0} → Creates log meter (head_of (first_clone words.id words.domain kept)) blank now Whole Failed
      → (l : Log) → log blank ≡ Some l → BeginsShort (stop_of_make fault) words Nothing (log blank) (log now)
  founds_short fault kept now role each creates l told = by_fault fault (record {
    due = steps;
    is_due = inr (role, record { kept = kept; each = each; creates = refl });
    leaves = leaves_first Nothing steps (log blank) (log now) l told (made_front log meter steps blank now creates.moments);
  })
    where
      steps : List KeptStep
      steps = Created (head_of (first_clone words.id words.domain kept)) ∷ []

      by_fault : (why : MakeFault) → FallsShort words Nothing (log blank) (log now) → BeginsShort (stop_of_make why) words Nothing (log blank) (log now)
      by_fault make.Device short = short
      by_fault make.NoMemory short = short

-- ---- what else is told of a clone that was found

module _ {B : Type 0} (words : NodeWords) (clone : BankedClone B) (result : Result (NodeState B) (NodeStop × B)) where
  pub found_opened : IfOk result (RunsAsFound words clone) → clone.closed ≡ None → IfOk result IsOpen
  found_opened = opened_of result
    where
      opened_of : (r : Result (NodeState B) (NodeStop × B)) → IfOk r (RunsAsFound words clone) → clone.closed ≡ None → IfOk r IsOpen
      opened_of (Ok state) runs opened = subst (λ (s : NodeState B). IsOpen s) (sym runs.same) opened
      opened_of (Err refused) runs opened = tt

  pub found_kind : IfErr result (RefusesOther words clone) → IfErr result (λ refused. IsAtFirst refused.0)
  found_kind = kind_of result
    where
      kind_of : (r : Result (NodeState B) (NodeStop × B)) → IfErr r (RefusesOther words clone) → IfErr r (λ refused. IsAtFirst refused.0)
      kind_of (Ok state) refuses = tt
      kind_of (Err refused) refuses = subst (λ (stop : NodeStop). IsAtFirst stop) (sym refuses.told) tt

  pub found_meters : (meter : B → Meter) (before : Meter) → IfOk result (RunsAsFound words clone) → IfErr result (RefusesOther words clone)
      → Meters before (meter clone.banks) ⊥ → Meters before (meter (banks_begun result)) (FailsToBegin result)
  found_meters meter before = meters_by result
    where
      meters_by : (r : Result (NodeState B) (NodeStop × B)) → IfOk r (RunsAsFound words clone) → IfErr r (RefusesOther words clone)
          → Meters before (meter clone.banks) ⊥ → Meters before (meter (banks_begun r)) (FailsToBegin r)
      meters_by (Ok state) runs refuses meters = subst (λ (s : NodeState B). Meters before (meter (state_banks s)) ⊥) (sym runs.same) meters
      meters_by (Err refused) runs refuses meters =
          subst (λ (b : B). Meters before (meter b) (refused.0 ≡ stops.Device)) (sym refuses.back)
          (meters_as before (meter clone.banks) (λ device. absurd (cc (device, refuses.told))) (λ none. absurd none) meters)

-- a mount had the fault that is told
pub meters_mounted : {EventsDone : Type 0} (fault : MountFault) (before now : Meter) → Metered mount_calls before now EventsDone (fault ≡ mount.Device)
    → Meters before now (stop_of_mount fault ≡ stops.Device)
meters_mounted (mount.Damaged side place) before now metered = meters_of mount_calls before now (λ same. absurd (cc (same))) (λ same. absurd (cc (same))) metered
meters_mounted mount.Device before now metered = meters_of mount_calls before now (λ same. refl) (λ same. refl) metered
meters_mounted mount.NoMemory before now metered = meters_of mount_calls before now (λ same. absurd (cc (same))) (λ same. absurd (cc (same))) metered

-- so had a creation
pub meters_made : {EventsDone : Type 0} (calls : ℕ) (fault : MakeFault) (before now : Meter) → Metered calls before now EventsDone (fault ≡ make.Device)
    → Meters before now (stop_of_make fault ≡ stops.Device)
meters_made calls make.Device before now metered = meters_of calls before now (λ same. refl) (λ same. refl) metered
meters_made calls make.NoMemory before now metered = meters_of calls before now (λ same. absurd (cc (same))) (λ same. absurd (cc (same))) metered
