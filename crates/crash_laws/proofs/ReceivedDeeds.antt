-- A message that comes to a clone, which was refused in the middle, is a step of the model with the appends, the fork, the swap or the create that
-- the clone would have made.
use Rattle.std.proofs.Common.{◌≡◌, ◌≢◌, ℕ, ◌+◌, ◌<◌, List, [], ◌∷◌, ◌++◌, refl, sym, ◌∙◌, subst, length, map, Option, Some}
use Rattle.std.specs.Prelude.{MatchOption}
use Rattle.std.specs.List.{AllZip}
use Rattle.std.proofs.lemmas.List.{append_cancel_left}
use Rattle.mld_io.specs.declared.banks.Side.{Side}
use Rattle.tree_clock.specs.Limits.{path_limit}
use Rattle.tree_clock.specs.Path.{zero_letter, one_letter}
use Rattle.tree_clock.specs.declared.dots.Range.{Range}
use Rattle.mld_ops.specs.Entry.{EntryValue}
use Rattle.mld_ops.specs.History.{IsClosed}
use Rattle.mld_ops.specs.Messages.{SnapshotValue, GiveValue, CarriesEntry, CarriesSnapshot, CarriesAsk, CarriesGive}
use Rattle.clone_core.specs.journal_sides.Pairs.{PairReading, KeepsNone, Keeps}
use Rattle.clone_core.specs.journal_store.Calls.{swapped}
use Rattle.mld_model.specs.declared.CloneState.TheVariants as states
use Rattle.mld_model.specs.Clone.{Clone, Asking, Live, Stored, kept_of, with_range, merged_with}
use Rattle.mld_model.specs.CloneStep.{Answers, Takes, joined_with}
use Rattle.mld_model.specs.Durable.{DurableStep, AppendsTaken, AppendsFork, Creates, Swaps}
use Rattle.mld_model.specs.Local.{LocalAsker, LocalClone, snapshot_of, LocallyAccepts, LocallyForks, LocallyMerges, joined_clone}
use Rattle.mld_model.specs.LocalStep.{Take, IsSentAs, StepStands, accepts_entry, merges_snapshot, forks_leaf, adopts_leaf}
use Rattle.mld_model.specs.Reply.{Reply, Took, Merged, Answer, Joined, NoMessage}
use Rattle.mld_model.specs.Sound.{IsSoundClone, IsSound}
use Rattle.mld_model.specs.StandsFor.{kept_by, EntryStandsFor, LocalStandsFor, LiveAt, AskingAt}
use Rattle.mld_model.specs.World.{World, Message, RangeOf, SnapshotOf, JoinAsk, JoinGive, message_at, clone_at}
use Rattle.mld_model.proofs.AnswersStand.{joined_stands}
use Rattle.mld_model.proofs.LocalSteps.{local_steps}
use Rattle.mld_model.proofs.MergedStands.{merged_base, merged_releases, merged_told}
use Rattle.mld_model.proofs.ReleasedLaws.{StandsDone, stand_done, Released, accepted_releases, accepted_told}
use Rattle.mld_model.proofs.SoundLaws.{live_sound}
use Rattle.schedule_model.specs.declared.Command.TheVariants.{Deliver}
use Rattle.schedule_model.specs.PlainDurable.{message_steps, merging_steps}
use Rattle.clone_core.specs.Banked.{head_of, kept_as}
use Rattle.clone_core.specs.clone_parts.KeptSteps.{KeptStep, Created, Forked, Swapped, appends}
use Rattle.crash_laws.specs.CarriedSteps.{owner_at, IsKeptFor, Carries, WritesOnce}
use Rattle.crash_laws.specs.Deeds.{CarriedDeed}
use Rattle.crash_laws.proofs.Kept.{fork_kept, appends_carried, appends_are, live_kept, carried_at}

-- what a message does that comes to a clone is the step of the command that delivers it
pub delivered : (world : World) (message number : ℕ) (sent : Message) (reading : PairReading) (changes : List KeptStep) (reply : Reply) (next : World)
    (steps : List DurableStep) → message_at world message ≡ Some sent → Takes world number sent (clone_at world number) reply next
    → steps ≡ message_steps (clone_at world number) sent reply
    → Carries (owner_at world number) world.history reading (kept_of (clone_at world number)) changes steps → WritesOnce changes
    → CarriedDeed world (Deliver message number) number reading changes
delivered world message number sent reading changes reply next steps told takes are carries once =
    let P : Option Message → Type 0 = λ o. MatchOption o (Answers world NoMessage reply next) (λ m. Takes world number m (clone_at world number) reply next) in
    let D : Option Message → Type 0 = λ o. MatchOption o (steps ≡ []) (λ m. steps ≡ message_steps (clone_at world number) m reply) in
    record {
      deed = record { reply = reply; after = next; does = subst P (sym told) takes; steps = steps; are = subst D (sym told) are };
      carries = carries;
      once = once;
    }

module _ (world : World) (number message : ℕ) (sound : IsSound world) (side : Side) (generation : ℕ) where
  -- ---- a range

  -- an entry that is taken, and those that it releases
  pub taken_deed : (old new : LocalClone) (entry : EntryValue) (ranges : List Range) (taken : List EntryValue) → LiveAt world number old → (sent : Message)
      → message_at world message ≡ Some sent → IsSentAs world (CarriesEntry entry) sent → LocallyAccepts old entry new ranges → new.entries ≡ old.entries ++ taken
      → CarriedDeed world (Deliver message number) number (Keeps (kept_as side generation old)) (appends taken)
  taken_deed old new entry ranges taken at (RangeOf range) told s locally entries =
      let stored : Stored = kept_by old at.base at.journal in
      let whole : IsSoundClone world.history stored = live_sound world number stored at.held sound at.live in
      let done : StandsDone world.history entry range = record { stands = s.stands; done = sound.messages (RangeOf range) s.sent } in
      let all : AllZip (StandsDone world.history) old.held at.held = stand_done world.history old.held at.held at.stands.held (sound.held number stored at.held at.live) in
      let released : Released world.history (with_range stored range) at.held locally.taken new.held new.ticks new.pairs =
      accepted_releases world.history old new stored at.held range entry ranges at.stands done locally all sound.lawful whole in
      let said : ranges ≡ range ∷ released.ranges = accepted_told world.history old new stored at.held range entry ranges at.stands done locally released in
      let same : entry ∷ locally.taken ≡ taken = append_cancel_left old.entries (entry ∷ locally.taken) taken (sym locally.entries ∙ entries) in
      let stand : AllZip (EntryStandsFor world.history) taken ranges =
      subst (λ (es : List EntryValue). AllZip (EntryStandsFor world.history) es ranges) same
      (subst (λ (rs : List Range). AllZip (EntryStandsFor world.history) (entry ∷ locally.taken) rs) (sym said) (s.stands, released.entries)) in
      let does : StepStands world number (Take (RangeOf range)) (Took ranges) [] (states.Live new) =
      local_steps world number (states.Live old) (states.Live new) (Take (CarriesEntry entry)) (Take (RangeOf range)) (Took ranges) [] sound at s
      (accepts_entry old entry new ranges locally) in
      delivered world message number (RangeOf range) (Keeps (kept_as side generation old)) (appends taken) (Took ranges) does.next (map (λ r. AppendsTaken r) ranges) told does.does refl
      (carried_at world number (Live stored at.held) (Keeps (kept_as side generation old)) (appends taken) (map (λ r. AppendsTaken r) ranges) at.live
      (appends_carried (owner_at world number) world.history taken ranges (kept_as side generation old) stored (live_kept world number old at side generation) stand))
      (later_are taken)
    where
      later_are : (entries : List EntryValue) → WritesOnce (appends entries)
      later_are [] = tt
      later_are (first ∷ entries) = appends_are entries
  taken_deed old new entry ranges taken at sent told s locally entries = absurd s.stands

  -- ---- an ask for a leaf

  -- the leaf is forked for who asks by another id
  pub forked_deed : (old : LocalClone) (id : List ℕ) → LiveAt world number old → (sent : Message) → message_at world message ≡ Some sent
      → IsSentAs world (CarriesAsk id) sent → id ≢ old.id → length old.path < path_limit
      → CarriedDeed world (Deliver message number) number (Keeps (kept_as side generation old)) (Forked ∷ [])
  forked_deed old id at (JoinAsk asked) told s differs room =
      let stored : Stored = kept_by old at.base at.journal in
      let new : LocalClone = record old { path = old.path ++ zero_letter ∷ [] } in
      let give : GiveValue = record { id = id; path = old.path ++ one_letter ∷ []; snapshot = snapshot_of old } in
      let forks : LocallyForks old id new give = record { room = room; left = refl {a = new}; right = refl {a = give} } in
      let reply : Reply = Answer ((length world.messages + 1) ∷ []) in
      let does : StepStands world number (Take (JoinAsk asked)) reply (CarriesGive give ∷ []) (states.Live new) =
      local_steps world number (states.Live old) (states.Live new) (Take (CarriesAsk id)) (Take (JoinAsk asked)) reply (CarriesGive give ∷ []) sound at s
      (forks_leaf old id new give differs forks) in
      delivered world message number (JoinAsk asked) (Keeps (kept_as side generation old)) (Forked ∷ []) reply does.next (AppendsFork ∷ []) told does.does refl
      (carried_at world number (Live stored at.held) (Keeps (kept_as side generation old)) (Forked ∷ []) (AppendsFork ∷ []) at.live (
        live_kept world number old at side generation,
        refl,
        fork_kept (owner_at world number) world.history (kept_as side generation old) stored (live_kept world number old at side generation),
      )) tt
  forked_deed old id at sent told s differs room = absurd s.stands

  -- ---- a snapshot

  -- what the banks keep behind the swap of a merge
  merged_kept : (old new : LocalClone) (snapshot : SnapshotValue) (ranges dots : List Range) (at : LiveAt world number old)
      → IsSentAs world (CarriesSnapshot snapshot) (SnapshotOf dots) → LocallyMerges old snapshot new ranges
      → IsKeptFor (owner_at world number) world.history (swapped (head_of new) [] (kept_as side generation old)) (merged_with (kept_by old at.base at.journal) dots)
  merged_kept old new snapshot ranges dots at s locally =
      let stored : Stored = kept_by old at.base at.journal in
      let whole : IsSoundClone world.history stored = live_sound world number stored at.held sound at.live in
      let closed : IsClosed world.history dots = sound.messages (SnapshotOf dots) s.sent in
      let base = merged_base world.history old snapshot stored at.held dots at.stands s.stands new ranges sound.lawful whole closed locally in
      record {
        id = locally.same.id ∙ at.is.id;
        domain = locally.same.domain ∙ at.is.domain;
        properties = locally.same.properties ∙ at.is.properties;
        stands = record { path = locally.same.path; base = base.known; base_pairs = base.pairs; entries = tt };
      }

  -- a snapshot that is merged, and the entries that this releases
  pub merged_deed : (old new : LocalClone) (snapshot : SnapshotValue) (ranges : List Range) → LiveAt world number old → (sent : Message)
      → message_at world message ≡ Some sent → IsSentAs world (CarriesSnapshot snapshot) sent → LocallyMerges old snapshot new ranges
      → CarriedDeed world (Deliver message number) number (Keeps (kept_as side generation old)) (Swapped (head_of new) [] ∷ appends new.entries)
  merged_deed old new snapshot ranges at (SnapshotOf dots) told s locally =
      let stored : Stored = kept_by old at.base at.journal in
      let whole : IsSoundClone world.history stored = live_sound world number stored at.held sound at.live in
      let closed : IsClosed world.history dots = sound.messages (SnapshotOf dots) s.sent in
      let all : AllZip (StandsDone world.history) old.held at.held = stand_done world.history old.held at.held at.stands.held (sound.held number stored at.held at.live) in
      let released : Released world.history (merged_with stored dots) at.held new.entries new.held new.ticks new.pairs =
      merged_releases world.history old snapshot stored at.held dots at.stands s.stands new ranges sound.lawful whole closed locally all in
      let said : ranges ≡ released.ranges = merged_told world.history old snapshot stored at.held dots at.stands s.stands new ranges sound.lawful whole closed locally released in
      let stand : AllZip (EntryStandsFor world.history) new.entries ranges =
      subst (λ (rs : List Range). AllZip (EntryStandsFor world.history) new.entries rs) (sym said) released.entries in
      let does : StepStands world number (Take (SnapshotOf dots)) (Merged ranges) [] (states.Live new) =
      local_steps world number (states.Live old) (states.Live new) (Take (CarriesSnapshot snapshot)) (Take (SnapshotOf dots)) (Merged ranges) [] sound at s
      (merges_snapshot old snapshot new ranges locally) in
      let steps : List DurableStep = Swaps (merged_with stored dots) ∷ map (λ r. AppendsTaken r) ranges in
      delivered world message number (SnapshotOf dots) (Keeps (kept_as side generation old)) (Swapped (head_of new) [] ∷ appends new.entries) (Merged ranges) does.next steps told does.does
      (subst (λ (c : Clone). steps ≡ merging_steps c dots (Merged ranges)) (sym at.live) refl)
      (carried_at world number (Live stored at.held) (Keeps (kept_as side generation old)) (Swapped (head_of new) [] ∷ appends new.entries) steps at.live (
        live_kept world number old at side generation,
        refl,
        appends_carried (owner_at world number) world.history new.entries ranges (swapped (head_of new) [] (kept_as side generation old)) (merged_with stored dots)
            (merged_kept old new snapshot ranges dots at s locally) stand,
      )) (appends_are new.entries)
  merged_deed old new snapshot ranges at sent told s locally = absurd s.stands

-- ---- a leaf

-- one who asks is given a leaf
pub adopted_deed : (world : World) (number message : ℕ) (asker : LocalAsker) (give : GiveValue) (sent : Message) → IsSound world → AskingAt world number asker
    → message_at world message ≡ Some sent → IsSentAs world (CarriesGive give) sent → give.id ≡ asker.id
    → CarriedDeed world (Deliver message number) number KeepsNone (Created (head_of (joined_clone asker give)) ∷ [])
adopted_deed world number message asker give (JoinGive asked path dots) sound at told s own =
    let new : LocalClone = joined_clone asker give in
    let does : StepStands world number (Take (JoinGive asked path dots)) (Joined give.path) [] (states.Live new) =
    local_steps world number (states.Asking asker) (states.Live new) (Take (CarriesGive give)) (Take (JoinGive asked path dots)) (Joined give.path) [] sound at s
    (adopts_leaf asker give own) in
    let stands : LocalStandsFor world.history new (joined_with path dots) [] = joined_stands world.history asker give asked path dots s.stands in
    delivered world message number (JoinGive asked path dots) KeepsNone (Created (head_of new) ∷ []) (Joined give.path) does.next (Creates (joined_with path dots) ∷ []) told does.does refl
    (carried_at world number Asking KeepsNone (Created (head_of new) ∷ []) (Creates (joined_with path dots) ∷ []) at.asking
    (tt, refl, record { id = at.is.id; domain = at.is.domain; properties = at.is.properties; stands = stands.kept })) tt
adopted_deed world number message asker give sent sound at told s own = absurd s.stands
