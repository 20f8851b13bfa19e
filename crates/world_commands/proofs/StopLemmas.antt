-- What `stop` and `open` do is the model's step.
use Rattle.std.proofs.Common.{◌≡◌, ◌≢◌, ℕ, ◌+◌, ◌<◌, List, ◌∷◌, inl, inr, Option, Some, None, MatchOption, Result, IfOk, IsSome, refl, sym, ◌∙◌, ap, arith, subst, length, map, set}
use Rattle.std.proofs.lemmas.List.{get_or-set_same}
use Rattle.std.proofs.lemmas.Option.{slice_get_within}
use Rattle.mld_io.specs.Arm.{Meter, Metered}
use Rattle.mld_io.specs.Disk.{Log, seen}
use Rattle.mld_io.specs.declared.banks.Side.{Side}
use Rattle.mld_ops.proofs.PropertiesLaws.{kept_same}
use Rattle.mld_ops.specs.History.{Operation}
use Rattle.mld_ops.specs.Messages.{message_value}
use Rattle.mld_ops.specs.declared.messages.Message.{Message}
use Rattle.tree_clock.specs.declared.dots.Range.{Range}
use Rattle.crash_laws.specs.journal_sides.Pairs.{Kept, Damages, read_banks}
use Rattle.crash_laws.specs.journal_store.Standing.{KeepsJust}
use Rattle.crash_laws.specs.journal_store.declared.faults.MountFault.TheVariants as mount
use Rattle.mld_model.specs.declared.CloneState.TheVariants as states
use Rattle.mld_model.specs.Clone.{Clone, Stored, kept_of}
use Rattle.mld_model.specs.Clone as model
use Rattle.mld_model.specs.CloneStep.{Stops}
use Rattle.mld_model.specs.Local.{IsNamed, stored_of}
use Rattle.mld_model.specs.Reply.{Reply, Stopped, Opened, IsAsking}
use Rattle.mld_model.specs.Sound.{IsSound}
use Rattle.mld_model.specs.StandsFor.{RunningWorld, StoredStandsFor}
use Rattle.mld_model.specs.World.{World, clone_at, with_clone}
use Rattle.mld_model.proofs.LocalLaws.{kept_by}
use Rattle.mld_model.proofs.StandsForLaws.{LiveAt, live_at}
use Rattle.crash_laws.specs.schedule_model.declared.Command.TheVariants.{Stop, Open}
use Rattle.crash_laws.specs.schedule_model.Step.{Step}
use Rattle.crash_laws.specs.schedule_model.WorldStep.{Follows, IsMissingReply, IsStandingReply}
use Rattle.crash_laws.proofs.of_schedule_model.ChangesLaws.{step_keeps_domain}
use Rattle.crash_laws.proofs.of_schedule_model.StopLaws.{stop_live, stop_missing, open_standing, open_stored, open_empty}
use Rattle.crash_laws.specs.clone_core.Banked.{KeepsClone, kept_as}
use Rattle.crash_laws.specs.clone_core.Opening.{TellsClone, OpensClone, banks_of_mounted, SyncsBoth, FailsToOpen, mount_calls}
use Rattle.crash_laws.specs.clone_core.declared.mounts.Mounted.{Mounted}
use Rattle.crash_laws.specs.clone_core.declared.mounts.Mounted.TheVariants as mounted
use Rattle.crash_laws.specs.CarriedSteps.{stored_in}
use Rattle.world_commands.specs.declared.faults.WorldFault.{WorldFault}
use Rattle.world_commands.specs.declared.parts.Parts.{Parts}
use Rattle.schedule_replies.specs.declared.replies.Reply.{Reply as CodeReply}
use Rattle.schedule_replies.specs.declared.replies.Reply.TheVariants as replies
use Rattle.world_commands.specs.WorldEnds.{KeepsState, KeepAll}
use Rattle.world_commands.specs.OpeningBanks.{IsWholeAt, IsUndamaged, IsOpenedAs, OpensLive, OpensAsking, OpensBanks}
use Rattle.schedule_replies.specs.Replies.{reply_value}
use Rattle.world_commands.specs.States.{HasState, Becomes, reply_of_state}
use Rattle.world_commands.specs.StoppedClones.{StopsOnBanks}
use Rattle.world_commands.specs.WorldBanks.{BankedState, in_memory, banks_of_state, memory_of, KeepsNoneNow, KeepsStored, IsReached, IsDownOn, IsOpenAt, IsBacked, StandsOnBanks, MeterGoesOn, HadNoFaults}
use Rattle.world_commands.specs.OneCall.{HasFaultsAt}
use Rattle.world_commands.specs.WorldParts.{running_of, HasStepLeft, KeepsDomain, Does}
use Rattle.world_commands.proofs.BankLemmas.{memory_at, memory_becomes, goes_on, goes_on_same, quiet_metered, quiet_becomes}
use Rattle.world_commands.proofs.WorldLemmas.{after_step, moved, does_at, does_still, keeps_set}

-- ---- the model's step

-- a live clone is down after it stopped, with what it kept
stopped_next : (world next : World) (number : ℕ) (stored : Stored) (held : List Range) → clone_at world number ≡ model.Live stored held → Step world (Stop number) Stopped next
    → next ≡ with_clone world number (model.Down stored)
unfolding Step
stopped_next world next number stored held live step = (subst (λ (c : Clone). Stops world number c Stopped next) live step).1

-- what was written at a place of the model's clones
clone_written : (world : World) (number : ℕ) (clone : Clone) → number < length world.clones → clone_at (with_clone world number clone) number ≡ clone
clone_written world number clone inside = get_or-set_same world.clones number clone model.Absent inside

-- banks that tell their log
pub told_log : (now : Option Log) → IsSome now → (told : Log) × (now ≡ Some told)
told_log None h = absurd (cc (h))
told_log (Some told) h = (told, refl)

-- ---- stop

module _ {B : Type 0} (log : B → Option Log) (meter : B → Meter) (old new : Parts B) (domain : new.domain ≡ old.domain) (properties : new.properties ≡ old.properties) (number : ℕ) where
  -- the banks of a clone that stopped stand for what the model's keeps
  stopped_backed : (s : StopsOnBanks log old.clones.items new.clones.items number) (steps : ℕ) (world next : World) → StandsOnBanks log (running_of old steps) world → IsSound world
      → Step world (Stop number) Stopped next → IsDownOn next (steps + 1) number (log s.clone.banks)
  stopped_backed s steps world next stands sound step =
      let running : RunningWorld = memory_of (running_of old steps) in
      let was = memory_at old.clones.items number (states.Live s.clone) s.becomes.was in
      let at : LiveAt world number s.clone.local = live_at running world stands.memory number s.clone.local was in
      let stored : Stored = kept_by s.clone.local at.base at.journal in
      let now : next ≡ with_clone world number (model.Down stored) = stopped_next world next number stored at.held at.live step in
      let inside : number < length world.clones = omega (arith, slice_get_within running.clones number _ was, stands.memory.count, sound.count) in
      let down : clone_at next number ≡ model.Down stored = ap (λ (w : World). clone_at w number) now ∙ clone_written world number (model.Down stored) inside in
      let backed : IsOpenAt steps s.clone = stands.backed number (states.Live s.clone) s.becomes.was in
      let keeps : KeepsClone s.clone.local s.clone.generation s.now = s.keeps backed.opened in
      let same : (next.domain ≡ world.domain) × (next.properties ≡ world.properties) = step_keeps_domain world (Stop number) Stopped next step in
      record {
        stands =
            subst (λ (c : Clone). MatchOption (kept_of c) (KeepsNoneNow (log s.clone.banks)) (λ kept. KeepsStored next number kept (log s.clone.banks))) (sym down)
            (record {
              log = s.now;
              now_is = s.told;
              kept = kept_as keeps.0 s.clone.generation s.clone.local;
              keeps = keeps.1;
              id = at.is.id;
              domain = at.is.domain ∙ sym same.0;
              properties = at.is.properties ∙ sym same.1;
              stands = subst (λ (h : List Operation). StoredStandsFor h (stored_of s.clone.local) stored) (ap (λ (w : World). w.history) (sym now)) at.stands.kept;
            });
        reached = λ told kept is keeps_it.
            let one : told ≡ s.now = cc (is, s.told) in
            let just : KeepsJust kept s.now = subst (λ (l : Log). KeepsJust kept l) one keeps_it in
            let same : kept ≡ kept_as keeps.0 s.clone.generation s.clone.local = cc (just.reads, keeps.1.reads) in
            let equal : kept.generation ≡ s.clone.generation = ap (λ (k : Kept). k.generation) same in
            omega (arith, equal, backed.reached);
      }

  -- a live clone stopped
  pub stop_done : StopsOnBanks log old.clones.items new.clones.items number → new.messages.items ≡ old.messages.items → Does log old (Stop number) new replies.Stopped
  stop_done s sent =
      does_at log meter old new domain properties (Stop number) replies.Stopped (states.Down s.clone.banks)
      (λ steps world stands sound.
      moved (memory_of (running_of old steps)) (Stop number) Stopped Stopped (set (map in_memory old.clones.items) number (states.Down tt)) (map in_memory new.clones.items)
      (map message_value old.messages.items) (map message_value new.messages.items) refl
      (sym (memory_becomes old.clones.items new.clones.items number (states.Live s.clone) (states.Down s.clone.banks) s.becomes).now)
      (ap (λ (m : List Message). map message_value m) (sym sent))
      (λ w st so. stop_live (memory_of (running_of old steps)) w st so number s.clone.local (memory_at old.clones.items number (states.Live s.clone) s.becomes.was))
      world stands.memory sound)
      s.becomes.now
      (λ steps world next stands sound step. stopped_backed s steps world next stands sound step)

  -- its banks were not used
  pub stop_keeps : StopsOnBanks log old.clones.items new.clones.items number → KeepsDomain meter number old new
  stop_keeps s = keeps_set log meter old new domain properties number (states.Live s.clone) (states.Down s.clone.banks) s.becomes (goes_on_same (meter s.clone.banks))

  -- a clone that isn't live stopped nothing
  pub stop_missing_done : (state : BankedState B) (reply : CodeReply) → HasState old.clones.items number state → new.clones.items ≡ old.clones.items → new.messages.items ≡ old.messages.items
      → IsMissingReply (in_memory state) (reply_value reply) → Does log old (Stop number) new reply
  stop_missing_done state reply at same sent missing =
      does_still log meter old new domain properties (Stop number) reply
      (λ steps. moved (memory_of (running_of old steps)) (Stop number) (reply_value reply) (reply_value reply) (map in_memory old.clones.items) (map in_memory new.clones.items)
      (map message_value old.messages.items) (map message_value new.messages.items) refl
      (ap (λ (l : List (BankedState B)). map in_memory l) (sym same)) (ap (λ (m : List Message). map message_value m) (sym sent))
      (λ world stands sound. stop_missing (memory_of (running_of old steps)) world stands sound number (in_memory state) (reply_value reply) (memory_at old.clones.items number state at) missing)) tt same

  -- ---- open

  -- a clone that isn't down answered by its state
  standing_backed : (steps : ℕ) (state : BankedState B) (reply : Reply) → IsStandingReply (in_memory state) reply → HasState old.clones.items number state
      → (world next : World) → StandsOnBanks log (running_of old steps) world → IsBacked log next (steps + 1) number state
  standing_backed steps (states.Absent banks) reply standing at world next stands = tt
  standing_backed steps (states.Asking asking) reply standing at world next stands = tt
  standing_backed steps (states.Live clone) reply standing at world next stands =
      let backed : IsOpenAt steps clone = stands.backed number (states.Live clone) at in
      record { opened = backed.opened; reached = omega (arith, backed.reached) }
  standing_backed steps (states.Down banks) reply standing at world next stands = absurd standing

  pub open_standing_done : (state : BankedState B) (reply : CodeReply) → HasState old.clones.items number state → set old.clones.items number state ≡ old.clones.items → new.clones.items ≡ old.clones.items
      → new.messages.items ≡ old.messages.items → IsStandingReply (in_memory state) (reply_value reply) → Does log old (Open number) new reply
  open_standing_done state reply at again same sent standing =
      does_at log meter old new domain properties (Open number) reply state
      (λ steps world stands sound.
      moved (memory_of (running_of old steps)) (Open number) (reply_value reply) (reply_value reply) (map in_memory old.clones.items) (map in_memory new.clones.items)
      (map message_value old.messages.items) (map message_value new.messages.items) refl
      (ap (λ (l : List (BankedState B)). map in_memory l) (sym same)) (ap (λ (m : List Message). map message_value m) (sym sent))
      (λ w st so. open_standing (memory_of (running_of old steps)) w st so number (in_memory state) (reply_value reply) (memory_at old.clones.items number state at) standing)
      world stands.memory sound)
      (same ∙ sym again)
      (λ steps world next stands sound step. standing_backed steps state (reply_value reply) standing at world next stands)

  -- the step of a clone that is live with what its banks read to
  live_follows : (o : OpensLive log old.clones.items new.clones.items number) (steps : ℕ) (world : World) → StandsOnBanks log (running_of old steps) world → IsSound world
      → (kept : Option Stored) → kept_of (clone_at world number) ≡ kept → MatchOption kept (KeepsNoneNow (log o.banks)) (λ stored. KeepsStored world number stored (log o.banks))
      → Follows world (Open number) Opened (after_step (memory_of (running_of old steps)) (set (map in_memory old.clones.items) number (states.Live o.clone.local)) (map message_value old.messages.items))
  live_follows o steps world stands sound None is h = absurd (cc (h.keeps.none, (o.found h.log h.now_is).reads))
  live_follows o steps world stands sound (Some stored) is h =
      let found = o.found h.log h.now_is in
      let same : h.kept ≡ kept_as found.side o.clone.generation o.clone.local = cc (h.keeps.reads, found.reads) in
      open_stored (memory_of (running_of old steps)) world stands.memory sound number tt stored o.clone.local
      (memory_at old.clones.items number (states.Down o.banks) o.becomes.was) is
      (record {
        id = ap (λ (k : Kept). k.head.id) (sym same) ∙ h.id;
        domain = ap (λ (k : Kept). k.head.domain) (sym same) ∙ h.domain;
        properties = ap (λ (k : Kept). k.head.properties) (sym same) ∙ h.properties;
      })
      o.begins.local o.begins.held (subst (λ (k : Kept). StoredStandsFor world.history (stored_in k) stored) same h.stands)

  -- its generation is that of what its banks keep
  opened_reached : (o : OpensLive log old.clones.items new.clones.items number) (steps : ℕ) (world : World) (kept : Option Stored)
      → ((told : Log) (found : Kept) → log o.banks ≡ Some told → KeepsJust found told → IsReached steps found.generation)
      → MatchOption kept (KeepsNoneNow (log o.banks)) (λ stored. KeepsStored world number stored (log o.banks)) → IsReached (steps + 1) o.clone.generation
  opened_reached o steps world None reached h = absurd (cc (h.keeps.none, (o.found h.log h.now_is).reads))
  opened_reached o steps world (Some stored) reached h =
      let found = o.found h.log h.now_is in
      let same : h.kept ≡ kept_as found.side o.clone.generation o.clone.local = cc (h.keeps.reads, found.reads) in
      let equal : h.kept.generation ≡ o.clone.generation = ap (λ (k : Kept). k.generation) same in
      omega (arith, equal, reached h.log h.kept h.now_is h.keeps)

  -- and of one that asks, since its banks keep nothing
  asking_follows : (o : OpensAsking log old.domain old.properties.items old.clones.items new.clones.items number) (steps : ℕ) (world : World) → IsNamed old.domain old.properties.items
      → StandsOnBanks log (running_of old steps) world → IsSound world
      → (kept : Option Stored) → kept_of (clone_at world number) ≡ kept → MatchOption kept (KeepsNoneNow (log o.banks)) (λ stored. KeepsStored world number stored (log o.banks))
      → Follows world (Open number) IsAsking (after_step (memory_of (running_of old steps)) (set (map in_memory old.clones.items) number (states.Asking o.asking.asker)) (map message_value old.messages.items))
  asking_follows o steps world named stands sound (Some stored) is h = absurd (cc (h.keeps.reads, o.none h.log h.now_is))
  asking_follows o steps world named stands sound None is h =
      open_empty (memory_of (running_of old steps)) world stands.memory sound number tt o.asking.asker
      (memory_at old.clones.items number (states.Down o.banks) o.becomes.was) is
      (record {
        id = o.begins.id;
        domain = o.begins.domain_is ∙ stands.memory.domain;
        properties = kept_same old.properties.items o.asking.asker.properties o.begins.kept named.ascending ∙ stands.memory.properties;
      })

  -- what was found at the place is what the model's step makes
  pub open_done : (reply : CodeReply) → IsNamed old.domain old.properties.items → new.messages.items ≡ old.messages.items
      → OpensBanks log old.domain old.properties.items old.clones.items new.clones.items number reply → Does log old (Open number) new reply
  open_done replies.Opened named sent o =
      does_at log meter old new domain properties (Open number) replies.Opened (states.Live o.clone)
      (λ steps world stands sound.
      subst (λ (r : RunningWorld). Follows world (Open number) Opened r)
      (λ i. after_step (memory_of (running_of old steps))
      (sym (memory_becomes old.clones.items new.clones.items number (states.Down o.banks) (states.Live o.clone) o.becomes).now i) (map message_value (sym sent i)))
      (live_follows o steps world stands sound (kept_of (clone_at world number)) refl (stands.backed number (states.Down o.banks) o.becomes.was).stands))
      o.becomes.now
      (λ steps world next stands sound step.
      let backed : IsDownOn world steps number (log o.banks) = stands.backed number (states.Down o.banks) o.becomes.was in
      record { opened = o.begins.opened; reached = opened_reached o steps world (kept_of (clone_at world number)) backed.reached backed.stands })
  open_done replies.Asking named sent o =
      does_at log meter old new domain properties (Open number) replies.Asking (states.Asking o.asking)
      (λ steps world stands sound.
      subst (λ (r : RunningWorld). Follows world (Open number) IsAsking r)
      (λ i. after_step (memory_of (running_of old steps))
      (sym (memory_becomes old.clones.items new.clones.items number (states.Down o.banks) (states.Asking o.asking) o.becomes).now i) (map message_value (sym sent i)))
      (asking_follows o steps world named stands sound (kept_of (clone_at world number)) refl (stands.backed number (states.Down o.banks) o.becomes.was).stands))
      o.becomes.now
      (λ steps world next stands sound step. tt)
  open_done reply named sent o = absurd o

-- ---- what is known before banks are mounted

whole_from : {B : Type 0} (log : B → Option Log) (clones : List (BankedState B)) (number : ℕ) (banks : B) → HasState clones number (states.Down banks) → (world : World) (kept : Option Stored)
    → MatchOption kept (KeepsNoneNow (log banks)) (λ stored. KeepsStored world number stored (log banks)) → IsWholeAt log clones number
whole_from log clones number banks at world None h =
    record { banks = banks; at = at; now = h.log; told = h.now_is; whole = λ side place damaged. cc (h.keeps.none, damaged) }
whole_from log clones number banks at world (Some stored) h =
    record { banks = banks; at = at; now = h.log; told = h.now_is; whole = λ side place damaged. cc (h.keeps.reads, damaged) }

-- the banks of a clone that is down aren't damaged
pub whole_at : {B : Type 0} (log : B → Option Log) (parts : Parts B) (number : ℕ) (banks : B) → HasStepLeft log parts → HasState parts.clones.items number (states.Down banks)
    → IsWholeAt log parts.clones.items number
whole_at log parts number banks left at =
    whole_from log parts.clones.items number banks at left.standing.world (kept_of (clone_at left.standing.world number)) (left.standing.stands.backed number (states.Down banks) at).stands

-- so a mount finds no damage
pub undamaged : {B : Type 0} (now : Log) (what : Mounted B) → TellsClone what (read_banks (seen now)) → ((side : Side) (place : ℕ) → read_banks (seen now) ≢ Damages side place) → IsUndamaged what
undamaged now (mounted.Live clone) tells whole = tt
undamaged now (mounted.Empty blank) tells whole = tt
undamaged now (mounted.Refused (mount.Damaged side place) banks) tells whole = whole side place tells
undamaged now (mounted.Refused mount.Device banks) tells whole = tt
undamaged now (mounted.Refused mount.NoMemory banks) tells whole = tt

-- the reply of a clone that isn't down is that of its state
pub standing_reply : {B : Type 0} (state : BankedState B) (reply : Reply) → reply ≡ reply_of_state (in_memory state) → ((banks : B) → state ≢ states.Down banks) → IsStandingReply (in_memory state) reply
standing_reply (states.Absent banks) reply is up = is
standing_reply (states.Asking asking) reply is up = is
standing_reply (states.Live live) reply is up = is
standing_reply (states.Down banks) reply is up = absurd (up banks refl)

-- ---- banks that were mounted

module _ {B : Type 0} (log : B → Option Log) (meter : B → Meter) (domain : List ℕ) (properties : List (List ℕ)) (old new : List (BankedState B)) (number : ℕ) (banks : B) where
  pub opened_banks : (what : Mounted B) (told : BankedState B × Result CodeReply WorldFault) → IsOpenedAs domain properties number what told → banks_of_state told.0 ≡ banks_of_mounted what
  opened_banks (mounted.Live clone) told is = ap banks_of_state is.0
  opened_banks (mounted.Empty blank) told is = ap banks_of_state is.state ∙ is.banks
  opened_banks (mounted.Refused mount.Device back) told is = ap banks_of_state is.0
  opened_banks (mounted.Refused mount.NoMemory back) told is = ap banks_of_state is.0
  opened_banks (mounted.Refused (mount.Damaged side place) back) told is = absurd is

  pub opened_becomes : (told : BankedState B × Result CodeReply WorldFault) → HasState old number (states.Down banks) → new ≡ set old number told.0 → Becomes old new number (states.Down banks) told.0
  opened_becomes told at now = record { was = at; now = now }

  -- what the mount found is what became of the clone
  pub opened_ok : (what : Mounted B) (told : BankedState B × Result CodeReply WorldFault) → HasState old number (states.Down banks) → new ≡ set old number told.0
      → ((now : Log) → log banks ≡ Some now → TellsClone what (read_banks (seen now))) → OpensClone what → IsOpenedAs domain properties number what told
      → IfOk told.1 (OpensBanks log domain properties old new number)
  opened_ok (mounted.Live clone) told at now tells opens is =
      subst (λ (x : Result CodeReply WorldFault). IfOk x (OpensBanks log domain properties old new number)) (sym is.1)
      (record {
        banks = banks;
        clone = clone;
        becomes = record { was = at; now = now ∙ ap (λ (s : BankedState B). set old number s) is.0 };
        found = tells;
        begins = opens;
      })
  opened_ok (mounted.Empty blank) told at now tells opens is =
      subst (λ (x : Result CodeReply WorldFault). IfOk x (OpensBanks log domain properties old new number)) (sym is.answer)
      (record {
        banks = banks;
        asking = is.asking;
        becomes = record { was = at; now = now ∙ ap (λ (s : BankedState B). set old number s) is.state };
        none = tells;
        begins = is.begins;
      })
  opened_ok (mounted.Refused mount.Device back) told at now tells opens is =
      subst (λ (x : Result CodeReply WorldFault). IfOk x (OpensBanks log domain properties old new number)) (sym is.1) tt
  opened_ok (mounted.Refused mount.NoMemory back) told at now tells opens is =
      subst (λ (x : Result CodeReply WorldFault). IfOk x (OpensBanks log domain properties old new number)) (sym is.1) tt
  opened_ok (mounted.Refused (mount.Damaged side place) back) told at now tells opens is = absurd is

  -- its meter
  pub opened_on : (what : Mounted B) (told : BankedState B × Result CodeReply WorldFault) → IsOpenedAs domain properties number what told
      → Metered mount_calls (meter banks) (meter (banks_of_mounted what)) (SyncsBoth what) (FailsToOpen what) → MeterGoesOn (meter banks) (meter (banks_of_state told.0))
  opened_on what told is metered =
      subst (λ (b : B). MeterGoesOn (meter banks) (meter b)) (sym (opened_banks what told is))
      (goes_on mount_calls (meter banks) (meter (banks_of_mounted what)) (SyncsBoth what) (FailsToOpen what) metered)

  -- what its meter counted
  opened_by : (what : Mounted B) (told : BankedState B × Result CodeReply WorldFault) → IsOpenedAs domain properties number what told
      → Metered mount_calls (meter banks) (meter (banks_of_mounted what)) (SyncsBoth what) (FailsToOpen what) → HasFaultsAt number (meter banks) (meter (banks_of_mounted what)) told.1
  opened_by (mounted.Live clone) told is metered =
      subst (HasFaultsAt number (meter banks) (meter clone.banks)) (sym is.1)
      (quiet_metered mount_calls (meter banks) (meter clone.banks) (SyncsBoth (mounted.Live clone)) (FailsToOpen (mounted.Live clone)) metered (λ fails. fails))
  opened_by (mounted.Empty blank) told is metered =
      subst (HasFaultsAt number (meter banks) (meter blank)) (sym is.answer)
      (quiet_metered mount_calls (meter banks) (meter blank) (SyncsBoth (mounted.Empty blank)) (FailsToOpen (mounted.Empty blank)) metered (λ fails. fails))
  opened_by (mounted.Refused mount.Device back) told is metered =
      subst (HasFaultsAt number (meter banks) (meter back)) (sym is.1)
      (refl, metered.cause refl)
  opened_by (mounted.Refused mount.NoMemory back) told is metered =
      subst (HasFaultsAt number (meter banks) (meter back)) (sym is.1)
      (quiet_metered mount_calls (meter banks) (meter back) (SyncsBoth (mounted.Refused mount.NoMemory back)) (FailsToOpen (mounted.Refused mount.NoMemory back)) metered (λ fails. absurd (cc fails)))
  opened_by (mounted.Refused (mount.Damaged side place) back) told is metered = absurd is

  -- whether its banks had a fault
  pub opened_faults : (what : Mounted B) (told : BankedState B × Result CodeReply WorldFault) → IsOpenedAs domain properties number what told
      → Metered mount_calls (meter banks) (meter (banks_of_mounted what)) (SyncsBoth what) (FailsToOpen what) → HasFaultsAt number (meter banks) (meter (banks_of_state told.0)) told.1
  opened_faults what told is metered =
      subst (λ (b : B). HasFaultsAt number (meter banks) (meter b) told.1) (sym (opened_banks what told is)) (opened_by what told is metered)

-- a clone that stops uses no banks
pub stop_quiet : {B : Type 0} (log : B → Option Log) (meter : B → Meter) (old new : List (BankedState B)) (number : ℕ) → StopsOnBanks log old new number
    → HadNoFaults meter (map banks_of_state old) (map banks_of_state new)
stop_quiet log meter old new number s = quiet_becomes meter old new number (states.Live s.clone) (states.Down s.clone.banks) s.becomes refl

-- what the banks of one more clone keep
pub keeps_more : {B : Type 0} (log : B → Option Log) (state : BankedState B) (left rest all : List (BankedState B)) → left ≡ state ∷ rest → KeepsState log state → (KeepAll log left → KeepAll log all)
    → KeepAll log rest → KeepAll log all
keeps_more {B = B} log state left rest all more keeps so_far others =
    so_far (subst (λ (l : List (BankedState B)). KeepAll log l) (sym more) (λ other has. elim has [
      | inl same ↦ subst (λ (s : BankedState B). KeepsState log s) same keeps
      | inr later ↦ others other later
    ]))
