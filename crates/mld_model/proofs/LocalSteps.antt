-- Each step of a clone alone is a step of the model's clone that it stands for.
use Rattle.std.specs.Prelude.{slice_get}
use Rattle.std.specs.List.{AllZip, range_with_len}
use Rattle.std.proofs.Common.{◌≡◌, ◌≢◌, ℕ, suc, ◌+◌, ◌<◌, ◌≤◌, List, [], ◌∷◌, ◌++◌, ◌↔◌, inl, inr, refl, sym, ◌∙◌, ap, arith, subst, length, map, Some, append-nil}
use Rattle.std.proofs.lemmas.List.{get_or-set_same, length-map}
use Rattle.tree_clock.specs.Limits.{path_limit}
use Rattle.tree_clock.specs.Path.{zero_letter, one_letter}
use Rattle.tree_clock.specs.declared.dots.Dot.{Dot}
use Rattle.tree_clock.specs.declared.dots.Range.{Range}
use Rattle.tree_clock.specs.Lists.{Has}
use Rattle.tree_clock.specs.Dot.{Knows}
use Rattle.tree_clock.specs.Clock.{ticks_of, Covers}
use Rattle.mld_ops.specs.declared.tagged.Tagged.{Tagged}
use Rattle.mld_ops.specs.Effect.{range_of}
use Rattle.mld_ops.specs.Effects.{EffectValue, ChangesNothing}
use Rattle.mld_ops.specs.Breaches.{IsFirstBreach, BreaksNone}
use Rattle.mld_ops.specs.Entry.{EntryValue}
use Rattle.mld_ops.specs.Held.{ranges_of}
use Rattle.mld_ops.specs.History.{Operation, IsDone, IsInserted, IsNext, dot_at}
use Rattle.mld_ops.specs.Messages.{SnapshotValue, GiveValue, MessageValue, CarriesEntry, CarriesWant, CarriesSnapshot, CarriesAsk, CarriesGive}
use Rattle.mld_ops.specs.Meaning.{IsMeaning}
use Rattle.mld_ops.specs.Picking.{DropsThose}
use Rattle.mld_ops.specs.Ready.{last_dot, IsKnownEntry}
use Rattle.mld_ops.proofs.PickingLaws.{kept_members, pairs_more}
use Rattle.op_fusion.specs.Compacting.{AreCompacted}
use Rattle.mld_model.specs.declared.CloneState.TheVariants as states
use Rattle.mld_model.specs.Clone.{Clone, Absent, Asking, Down, Live, Stored, known_of, with_range, merged_with, truncated_to, IsKnown, IsReady}
use Rattle.mld_model.specs.CloneStep.{changes_nothing, breaks_single, makes_operation, IsNextTick, after_operation, holds_already, holds_too_many, holds_from_now, knows_already, accepts, holds_back, after_asking, after_fork, left_half, asked_itself, is_too_deep, forks, joined_with, becomes_live, lacks_nothing, sends_ranges, sends_snapshot, knows_all, merges, LiveTakes, Takes, Joins, Reopens}
use Rattle.mld_model.specs.Local.{LocalAsker, LocalClone, stored_of, next_dot, LocallyMakes, LocallyAccepts, MustBeHeld, LocallyHolds, IsFullFor, IsForeign, IsForeignSnapshot, LocallyForks, LocallyCompacts, LocallyTruncates, KnowsSnapshot, LocallyMerges, snapshot_of, LocallyAnswersWant, LocallyAnswersBehind, joined_clone}
use Rattle.mld_model.specs.LocalStep.{Task, Update, Take, Join, Ask, Compact, Truncate, Stop, Open, LocalState, GivesNoLeaf, LocallyOpens, updates_nothing, update_breaks, updates, knows_entry, accepts_entry, holds_entry, is_full, knows_snapshot, merges_snapshot, sends_nothing, sends_entries, sends_all, asks_itself, is_deep, forks_leaf, needs_no_leaf, adopts_leaf, passes_over, asks_for_leaf, asks_for_rest, compacts_journal, truncates_journal, stops, opens, DoesTask, StandsAt, IsSentAs, IsTaskIn, StepStands, LocalStepsAreTheModels, NoneIsForeign}
use Rattle.mld_model.specs.Reply.{Reply, Did, NoOperation, Single, Took, Merged, Held, HeldFull, AlreadyKnown, Sent, Answer, NothingToSend, Kept, Joined, Deep, Ignored, Stopped, Opened}
use Rattle.mld_model.specs.Sound.{Keeps, IsDoneRange, IsSoundClone, IsSound}
use Rattle.mld_model.specs.StandsFor.{kept_by, LiveAt, AskingAt, DownAt, IsCloneOf, EntryStandsFor, StoredStandsFor, LocalStandsFor, SnapshotStandsFor, MessageStandsFor}
use Rattle.mld_model.specs.World.{World, Message, RangeOf, Want, SnapshotOf, JoinAsk, JoinGive, clone_at, clone_count, with_clone}
use Rattle.mld_model.proofs.AnswersStand.{must_be_held, held_alike, entries_sent, some_ranges, no_ranges, base_known_to, ranges_left, number_of_id, others_ask, give_stands, joined_stands, passed_over, merged_clone_of, truncated_clone_of}
use Rattle.mld_model.proofs.CompactedJournals.{compacted_sound}
use Rattle.mld_model.proofs.CompactedStands.{journal_compacted, compacted_stands}
use Rattle.mld_model.proofs.JoiningLaws.{asked_sound, forked_sound, joined_sound, place_of_asking}
use Rattle.mld_model.proofs.JournalLaws.{journal_done}
use Rattle.mld_model.proofs.LeafLaws.{live_keeps, place_of_clone}
use Rattle.mld_model.proofs.LocalLaws.{next_tick_of, made_by, maker_stands, made_entry, known_alike}
use Rattle.mld_model.proofs.MergedLaws.{truncated_sound, merged_sound, snapshot_sent_sound}
use Rattle.mld_model.proofs.MergedStands.{knows_alike, merged_releases, merged_told, merged_stands}
use Rattle.mld_model.proofs.PairsLaws.{pairs_count}
use Rattle.mld_model.proofs.ReleasedLaws.{StandsDone, stand_done, Released, accepted_ready, accepted_releases, accepted_told, accepted_stands}
use Rattle.mld_model.proofs.SendingLaws.{wanted_sound, ranges_sent_sound}
use Rattle.mld_model.proofs.SoundLaws.{made_is_next, made_sound, taken_sound, holding_sound, live_sound}
use Rattle.mld_model.proofs.StandsForLaws.{live_from, still_clone_of}
use Rattle.mld_model.proofs.StateLaws.{live_does}
use Rattle.mld_model.proofs.StoredLaws.{opened_stands, stopped_sound, opened_sound}
use Rattle.mld_model.proofs.TruncatedStands.{truncated_stands}

-- what was sent stands at a place
place_of : (messages : List Message) (message : Message) → Has messages message → (place : ℕ) × (slice_get messages place ≡ Some message)
place_of [] message h = absurd h
place_of (first ∷ messages) message (inl same) = (0, ap (λ (m : Message). Some m) same)
place_of (first ∷ messages) message (inr h) = let p = place_of messages message h in (suc p.0, p.1)

module _ (world : World) (number : ℕ) (sound : IsSound world) where
  -- ---- what a step leaves

  -- nothing changes
  stays : (state : LocalState) → StandsAt world number state → (job : Task Message) (reply : Reply) → DoesTask world number job reply world
      → StepStands world number job reply [] state
  stays state at job reply does = record {
    next = world;
    does = does;
    sound = sound;
    stands = at;
    tells = record { messages = []; more = sym (append-nil world.messages); stand = tt };
  }

  -- a live clone has its number among those that there are
  live_inside : (running : LocalClone) → LiveAt world number running → number < length world.clones
  live_inside running at =
      place_of_clone world.clones number (kept_by running at.base at.journal) (live_keeps world number (kept_by running at.base at.journal) at.held at.live)

  live_below : (running : LocalClone) → LiveAt world number running → number < clone_count
  live_below running at = omega (arith, live_inside running at, sound.count)

  -- the clone is live as another, and nothing else changes
  turns : (new : LocalClone) (stored : Stored) (held : List Range) (job : Task Message) (reply : Reply) → number < length world.clones
      → DoesTask world number job reply (with_clone world number (Live stored held)) → IsSound (with_clone world number (Live stored held))
      → IsCloneOf world number new → LocalStandsFor world.history new stored held → StepStands world number job reply [] (states.Live new)
  turns new stored held job reply inside does sound_then of now = record {
    next = with_clone world number (Live stored held);
    does = does;
    sound = sound_then;
    stands = live_from (with_clone world number (Live stored held)) number new (Live stored held) (get_or-set_same world.clones number (Live stored held) Absent inside)
        (record { id = of.id; domain = of.domain; properties = of.properties }, now);
    tells = record { messages = []; more = sym (append-nil world.messages); stand = tt };
  }

  -- a live clone sends messages, and nothing else changes
  says : (running : LocalClone) → LiveAt world number running → (job : Task Message) (reply : Reply) (sent : List MessageValue) (others : List Message)
      → DoesTask world number job reply (record world { messages = world.messages ++ others }) → IsSound (record world { messages = world.messages ++ others })
      → AllZip (MessageStandsFor world.history) sent others → StepStands world number job reply sent (states.Live running)
  says running at job reply sent others does sound_then told = record {
    next = record world { messages = world.messages ++ others };
    does = does;
    sound = sound_then;
    stands = record {
      base = at.base;
      journal = at.journal;
      held = at.held;
      live = at.live;
      is = record { id = at.is.id; domain = at.is.domain; properties = at.is.properties };
      stands = at.stands;
    };
    tells = record { messages = others; more = refl; stand = told };
  }

  -- a message comes to a live clone
  takes_live : (message : Message) (stored : Stored) (held : List Range) (reply : Reply) (next : World) → clone_at world number ≡ Live stored held
      → LiveTakes world number message stored held reply next → Takes world number message (clone_at world number) reply next
  takes_live message stored held reply next live takes = subst (λ (c : Clone). Takes world number message c reply next) (sym live) takes

  -- ---- an update

  updates_none : (running : LocalClone) (effect : EffectValue) → LiveAt world number running → ChangesNothing effect
      → StepStands world number (Update effect) NoOperation [] (states.Live running)
  updates_none running effect at none = stays (states.Live running) at (Update effect) NoOperation
      (live_does world (clone_at world number) NoOperation world _ (kept_by running at.base at.journal) at.held at.live
      (running.pairs, at.stands.pairs, changes_nothing none (refl, refl)))

  breach_stands : (running : LocalClone) (effect : EffectValue) (place : List ℕ × List ℕ) → LiveAt world number running → ¬ ChangesNothing effect
      → IsFirstBreach running.properties running.pairs effect place
      → StepStands world number (Update effect) (Single place.0 place.1) [] (states.Live running)
  breach_stands running effect place at some first = stays (states.Live running) at (Update effect) (Single place.0 place.1)
      (live_does world (clone_at world number) (Single place.0 place.1) world _ (kept_by running at.base at.journal) at.held at.live (
        running.pairs,
        at.stands.pairs,
        breaks_single some place
            (subst (λ (properties : List (List ℕ)). IsFirstBreach properties running.pairs effect place) at.is.properties first) (refl, refl),
      ))

  made_stands : (old : LocalClone) (effect : EffectValue) (new : LocalClone) (entry : EntryValue) → LiveAt world number old
      → ¬ ChangesNothing effect → BreaksNone old.properties old.pairs effect → ((pair : Tagged) → Has effect.deletes pair → Has old.pairs pair)
      → LocallyMakes old effect new entry
      → StepStands world number (Update effect) (Did (next_dot old) (length world.messages + 1)) (CarriesEntry entry ∷ []) (states.Live new)
  made_stands old effect new entry at some fits among made =
      let stored : Stored = kept_by old at.base at.journal in
      let reply : Reply = Did (next_dot old) (length world.messages + 1) in
      let whole : IsSoundClone world.history stored = live_sound world number stored at.held sound at.live in
      let tick : IsNextTick (known_of stored) old.path (next_dot old).tick = next_tick_of old (known_of stored) at.stands.known in
      let covered : (pair : Tagged) → Has effect.deletes pair → Knows (known_of stored) pair.dot = λ pair h. (at.stands.pairs.sound pair (among pair h)).covered in
      let inserted : (pair : Tagged) → Has effect.deletes pair → IsInserted world.history pair = λ pair h. (at.stands.pairs.sound pair (among pair h)).inserted in
      let operation : Operation = made_by old at.base at.journal effect in
      let is_next : IsNext world.history operation = made_is_next world.history stored (next_dot old).tick effect.deletes effect.inserts whole tick covered inserted in
      let next : World = after_operation world number stored at.held operation in
      let then : Stored = with_range stored (range_of (next_dot old)) in
      record {
        next = next;
        does = live_does world (clone_at world number) reply next _ stored at.held at.live (
          old.pairs,
          at.stands.pairs,
          makes_operation some
              (subst (λ (properties : List (List ℕ)). BreaksNone properties old.pairs effect) at.is.properties fits)
              (record { tick = (next_dot old).tick; is_next = tick; replies = refl; changes = refl }),
        );
        sound = made_sound world number stored at.held sound at.live (next_dot old).tick effect.deletes effect.inserts tick covered inserted;
        stands = live_from next number new (Live then at.held) (get_or-set_same world.clones number (Live then at.held) Absent (live_inside old at)) (
          still_clone_of world next number old new made.same refl refl at.is,
          maker_stands world.history old at.base at.journal at.held effect new entry at.stands made sound.lawful whole.closed is_next
              (journal_done world.history at.base at.journal whole.journal) (sound.held number stored at.held at.live),
        );
        tells = record {
          messages = RangeOf (range_of (next_dot old)) ∷ [];
          more = refl;
          stand = (made_entry world.history old at.base at.journal at.held effect new entry at.stands made sound.lawful whole.closed is_next, tt);
        };
      }

  -- ---- an entry comes

  known_stands : (running : LocalClone) (entry : EntryValue) → LiveAt world number running → (message : Message) → IsSentAs world (CarriesEntry entry) message
      → IsKnownEntry running.ticks entry → StepStands world number (Take message) AlreadyKnown [] (states.Live running)
  known_stands running entry at (RangeOf range) s known =
      let stored : Stored = kept_by running at.base at.journal in
      stays (states.Live running) at (Take (RangeOf range)) AlreadyKnown (takes_live (RangeOf range) stored at.held AlreadyKnown world at.live
      (knows_already ((known_alike world.history running.ticks (known_of stored) at.stands.known range entry s.stands).0 known) (refl, refl)))
  known_stands running entry at message s known = absurd s.stands

  taken_stands : (old : LocalClone) (entry : EntryValue) (new : LocalClone) (ranges : List Range) → LiveAt world number old → (message : Message)
      → IsSentAs world (CarriesEntry entry) message → LocallyAccepts old entry new ranges → StepStands world number (Take message) (Took ranges) [] (states.Live new)
  taken_stands old entry new ranges at (RangeOf range) s locally =
      let stored : Stored = kept_by old at.base at.journal in
      let whole : IsSoundClone world.history stored = live_sound world number stored at.held sound at.live in
      let done : StandsDone world.history entry range = record { stands = s.stands; done = sound.messages (RangeOf range) s.sent } in
      let ready : IsReady world.history (known_of stored) range = accepted_ready world.history old new stored at.held range entry ranges at.stands done locally in
      let all : AllZip (StandsDone world.history) old.held at.held =
      stand_done world.history old.held at.held at.stands.held (sound.held number stored at.held at.live) in
      let released : Released world.history (with_range stored range) at.held locally.taken new.held new.ticks new.pairs =
      accepted_releases world.history old new stored at.held range entry ranges at.stands done locally all sound.lawful whole in
      let after : Stored = record { path = old.path; base = at.base; journal = (at.journal ++ range ∷ []) ++ released.ranges } in
      let next : World = with_clone world number (Live after released.rest) in
      turns new after released.rest (Take (RangeOf range)) (Took ranges) (live_inside old at)
      (takes_live (RangeOf range) stored at.held (Took ranges) next at.live (accepts (record {
        ready = ready;
        taken = released.ranges;
        after = after;
        left = released.rest;
        releases = released.releases;
        replies = ap Took (accepted_told world.history old new stored at.held range entry ranges at.stands done locally released);
        changes = refl {a = next};
      })))
      (taken_sound world number stored at.held sound at.live range released.ranges after released.rest done.done ready released.releases)
      (still_clone_of world world number old new locally.same refl refl at.is)
      (accepted_stands world.history old new stored at.held range entry ranges at.stands done locally released)
  taken_stands old entry new ranges at message s locally = absurd s.stands

  held_stands : (old : LocalClone) (entry : EntryValue) (new : LocalClone) → LiveAt world number old → (message : Message)
      → IsSentAs world (CarriesEntry entry) message → MustBeHeld old entry → LocallyHolds old entry new → StepStands world number (Take message) Held [] (states.Live new)
  held_stands old entry new at (RangeOf range) s must (inl has) =
      let stored : Stored = kept_by old at.base at.journal in
      let done : IsDoneRange world.history range = sound.messages (RangeOf range) s.sent in
      subst (λ (c : LocalClone). StepStands world number (Take (RangeOf range)) Held [] (states.Live c)) (sym has.1)
      (stays (states.Live old) at (Take (RangeOf range)) Held (takes_live (RangeOf range) stored at.held Held world at.live
      (holds_back (must_be_held world old stored at.held range entry at.stands s.stands done.positive must)
      (holds_already ((held_alike world.history old.held at.held entry range at.stands.held s.stands.same).0 has.0) (refl, refl)))))
  held_stands old entry new at (RangeOf range) s must (inr holds) =
      let stored : Stored = kept_by old at.base at.journal in
      let done : IsDoneRange world.history range = sound.messages (RangeOf range) s.sent in
      let held : List Range = at.held ++ range ∷ [] in
      let then : LocalClone = record old { held = old.held ++ entry ∷ [] } in
      subst (λ (c : LocalClone). StepStands world number (Take (RangeOf range)) Held [] (states.Live c)) (sym holds.2)
      (turns then stored held (Take (RangeOf range)) Held (live_inside old at)
      (takes_live (RangeOf range) stored at.held Held (with_clone world number (Live stored held)) at.live
      (holds_back (must_be_held world old stored at.held range entry at.stands s.stands done.positive must)
      (holds_from_now
      (λ h. holds.0 ((held_alike world.history old.held at.held entry range at.stands.held s.stands.same).1 h))
      (omega (arith, holds.1, pairs_count (EntryStandsFor world.history) old.held at.held at.stands.held))
      refl refl)))
      (holding_sound world number stored at.held sound at.live range done)
      (record { id = at.is.id; domain = at.is.domain; properties = at.is.properties })
      (record {
        kept = record { path = refl; base = at.stands.kept.base; base_pairs = at.stands.kept.base_pairs; entries = at.stands.kept.entries };
        held = pairs_more (EntryStandsFor world.history) old.held at.held entry range at.stands.held s.stands;
        known = at.stands.known;
        pairs = at.stands.pairs;
      }))
  held_stands old entry new at message s must holds = absurd s.stands

  full_stands : (running : LocalClone) (entry : EntryValue) → LiveAt world number running → (message : Message)
      → IsSentAs world (CarriesEntry entry) message → MustBeHeld running entry → IsFullFor running entry
      → StepStands world number (Take message) HeldFull [] (states.Live running)
  full_stands running entry at (RangeOf range) s must full =
      let stored : Stored = kept_by running at.base at.journal in
      let done : IsDoneRange world.history range = sound.messages (RangeOf range) s.sent in
      stays (states.Live running) at (Take (RangeOf range)) HeldFull (takes_live (RangeOf range) stored at.held HeldFull world at.live
      (holds_back (must_be_held world running stored at.held range entry at.stands s.stands done.positive must)
      (holds_too_many
      (λ h. full.lacks ((held_alike world.history running.held at.held entry range at.stands.held s.stands.same).1 h))
      (omega (arith, full.full, pairs_count (EntryStandsFor world.history) running.held at.held at.stands.held))
      (refl, refl))))
  full_stands running entry at message s must full = absurd s.stands

  -- ---- a snapshot comes

  all_known_stands : (running : LocalClone) (snapshot : SnapshotValue) → LiveAt world number running → (message : Message)
      → IsSentAs world (CarriesSnapshot snapshot) message → KnowsSnapshot running snapshot
      → StepStands world number (Take message) AlreadyKnown [] (states.Live running)
  all_known_stands running snapshot at (SnapshotOf dots) s knows =
      let stored : Stored = kept_by running at.base at.journal in
      stays (states.Live running) at (Take (SnapshotOf dots)) AlreadyKnown (takes_live (SnapshotOf dots) stored at.held AlreadyKnown world at.live
      (knows_all ((knows_alike world.history running snapshot stored at.held dots at.stands s.stands).0 knows) (refl, refl)))
  all_known_stands running snapshot at message s knows = absurd s.stands

  merge_stands : (old : LocalClone) (snapshot : SnapshotValue) (new : LocalClone) (ranges : List Range) → LiveAt world number old → (message : Message)
      → IsSentAs world (CarriesSnapshot snapshot) message → LocallyMerges old snapshot new ranges
      → StepStands world number (Take message) (Merged ranges) [] (states.Live new)
  merge_stands old snapshot new ranges at (SnapshotOf dots) s locally =
      let stored : Stored = kept_by old at.base at.journal in
      let whole : IsSoundClone world.history stored = live_sound world number stored at.held sound at.live in
      let closed = sound.messages (SnapshotOf dots) s.sent in
      let all : AllZip (StandsDone world.history) old.held at.held =
      stand_done world.history old.held at.held at.stands.held (sound.held number stored at.held at.live) in
      let released : Released world.history (merged_with stored dots) at.held new.entries new.held new.ticks new.pairs =
      merged_releases world.history old snapshot stored at.held dots at.stands s.stands new ranges sound.lawful whole closed locally all in
      let after : Stored = record { path = old.path; base = known_of stored ++ dots; journal = released.ranges } in
      let next : World = with_clone world number (Live after released.rest) in
      turns new after released.rest (Take (SnapshotOf dots)) (Merged ranges) (live_inside old at)
      (takes_live (SnapshotOf dots) stored at.held (Merged ranges) next at.live (merges (record {
        lacks = λ known. locally.lacks ((knows_alike world.history old snapshot stored at.held dots at.stands s.stands).1 known);
        taken = released.ranges;
        after = after;
        left = released.rest;
        releases = released.releases;
        replies = ap Merged (merged_told world.history old snapshot stored at.held dots at.stands s.stands new ranges sound.lawful whole closed locally released);
        changes = refl {a = next};
      })))
      (merged_sound world number stored at.held dots released.ranges after released.rest sound at.live closed released.releases)
      (merged_clone_of world number old new locally.same at.is)
      (merged_stands world.history old snapshot stored at.held dots at.stands s.stands new ranges sound.lawful whole closed locally released)
  merge_stands old snapshot new ranges at message s locally = absurd s.stands

  -- ---- a want comes

  nothing_stands : (running : LocalClone) (ticks : List (List ℕ × ℕ)) → LiveAt world number running → (message : Message)
      → IsSentAs world (CarriesWant ticks) message → LocallyAnswersWant running ticks []
      → StepStands world number (Take message) NothingToSend [] (states.Live running)
  nothing_stands running ticks at (Want dots) s answers =
      let stored : Stored = kept_by running at.base at.journal in
      let left = ranges_left world.history running stored at.held dots ticks [] at.stands s.stands answers.unknown in
      stays (states.Live running) at (Take (Want dots)) NothingToSend (takes_live (Want dots) stored at.held NothingToSend world at.live
      (lacks_nothing (base_known_to world.history running stored at.held dots ticks [] at.stands s.stands answers.base)
      (subst (λ (ranges : List Range). DropsThose (IsKnown dots) stored.journal ranges) (no_ranges world.history left.0 left.2) left.1) (refl, refl)))
  nothing_stands running ticks at message s answers = absurd s.stands

  entries_stand : (running : LocalClone) (ticks : List (List ℕ × ℕ)) (entries : List EntryValue) → LiveAt world number running → (message : Message)
      → IsSentAs world (CarriesWant ticks) message → entries ≢ [] → LocallyAnswersWant running ticks entries
      → StepStands world number (Take message) (Answer (range_with_len (length world.messages + 1) (length entries))) (map CarriesEntry entries) (states.Live running)
  entries_stand running ticks entries at (Want dots) s some answers =
      let stored : Stored = kept_by running at.base at.journal in
      let left = ranges_left world.history running stored at.held dots ticks entries at.stands s.stands answers.unknown in
      let whole : IsSoundClone world.history stored = live_sound world number stored at.held sound at.live in
      let reply : Reply = Answer (range_with_len (length world.messages + 1) (length entries)) in
      let next : World = record world { messages = world.messages ++ map RangeOf left.0 } in
      says running at (Take (Want dots)) reply (map CarriesEntry entries) (map RangeOf left.0)
      (takes_live (Want dots) stored at.held reply next at.live
      (sends_ranges left.0 (base_known_to world.history running stored at.held dots ticks entries at.stands s.stands answers.base) left.1
      (some_ranges world.history entries left.0 left.2 some)
      (λ i. Answer (range_with_len (length world.messages + 1) (pairs_count (EntryStandsFor world.history) entries left.0 left.2 i))) (refl {a = next})))
      (ranges_sent_sound left.0 world sound (λ range h.
      journal_done world.history at.base at.journal whole.journal range (kept_members (IsKnown dots) at.journal left.0 left.1 range h)))
      (entries_sent world.history entries left.0 left.2)
  entries_stand running ticks entries at message s some answers = absurd s.stands

  all_stands : (running : LocalClone) (ticks : List (List ℕ × ℕ)) (snapshot : SnapshotValue) → LiveAt world number running → (message : Message)
      → IsSentAs world (CarriesWant ticks) message → LocallyAnswersBehind running ticks snapshot
      → StepStands world number (Take message) (Answer ((length world.messages + 1) ∷ [])) (CarriesSnapshot snapshot ∷ []) (states.Live running)
  all_stands running ticks snapshot at (Want dots) s answers =
      let stored : Stored = kept_by running at.base at.journal in
      let reply : Reply = Answer ((length world.messages + 1) ∷ []) in
      let next : World = record world { messages = world.messages ++ SnapshotOf (known_of stored) ∷ [] } in
      subst (λ (value : SnapshotValue). StepStands world number (Take (Want dots)) reply (CarriesSnapshot value ∷ []) (states.Live running)) (sym answers.whole)
      (says running at (Take (Want dots)) reply (CarriesSnapshot (snapshot_of running) ∷ []) (SnapshotOf (known_of stored) ∷ [])
      (takes_live (Want dots) stored at.held reply next at.live
      (sends_snapshot (λ known. answers.behind (λ dot covered. (s.stands dot).1 (known dot ((at.stands.kept.base dot).0 covered)))) refl (refl {a = next})))
      (snapshot_sent_sound world number stored at.held sound at.live)
      (record { known = at.stands.known; pairs = at.stands.pairs }, tt))
  all_stands running ticks snapshot at message s answers = absurd s.stands

  -- ---- an ask for a leaf comes

  own_stands : (running : LocalClone) → LiveAt world number running → (message : Message) → IsSentAs world (CarriesAsk running.id) message
      → StepStands world number (Take message) Ignored [] (states.Live running)
  own_stands running at (JoinAsk asked) s =
      let same : asked ≡ number = number_of_id asked number (sound.messages (JoinAsk asked) s.sent) (live_below running at) (sym s.stands ∙ at.is.id) in
      stays (states.Live running) at (Take (JoinAsk asked)) Ignored
      (takes_live (JoinAsk asked) (kept_by running at.base at.journal) at.held Ignored world at.live (asked_itself same (refl, refl)))
  own_stands running at message s = absurd s.stands

  deep_stands : (running : LocalClone) (id : List ℕ) → LiveAt world number running → (message : Message) → IsSentAs world (CarriesAsk id) message
      → id ≢ running.id → path_limit ≤ length running.path → StepStands world number (Take message) Deep [] (states.Live running)
  deep_stands running id at (JoinAsk asked) s differs deep =
      stays (states.Live running) at (Take (JoinAsk asked)) Deep
      (takes_live (JoinAsk asked) (kept_by running at.base at.journal) at.held Deep world at.live
      (is_too_deep (others_ask world number asked id running at.is s.stands differs) deep (refl, refl)))
  deep_stands running id at message s differs deep = absurd s.stands

  fork_stands : (old : LocalClone) (id : List ℕ) (new : LocalClone) (give : GiveValue) → LiveAt world number old → (message : Message)
      → IsSentAs world (CarriesAsk id) message → id ≢ old.id → LocallyForks old id new give
      → StepStands world number (Take message) (Answer ((length world.messages + 1) ∷ [])) (CarriesGive give ∷ []) (states.Live new)
  fork_stands old id new give at (JoinAsk asked) s differs gives =
      let stored : Stored = kept_by old at.base at.journal in
      let reply : Reply = Answer ((length world.messages + 1) ∷ []) in
      let left : LocalClone = record old { path = old.path ++ zero_letter ∷ [] } in
      let next : World = after_fork world number stored at.held asked in
      let now : LocalStandsFor world.history left (left_half stored) at.held = record {
        kept = record { path = refl; base = at.stands.kept.base; base_pairs = at.stands.kept.base_pairs; entries = at.stands.kept.entries };
        held = at.stands.held;
        known = at.stands.known;
        pairs = at.stands.pairs;
      } in
      subst (λ (c : LocalClone). StepStands world number (Take (JoinAsk asked)) reply (CarriesGive give ∷ []) (states.Live c)) (sym gives.left) (record {
        next = next;
        does = takes_live (JoinAsk asked) stored at.held reply next at.live
            (forks (others_ask world number asked id old at.is s.stands differs) gives.room refl (refl {a = next}));
        sound = forked_sound world number stored at.held sound at.live asked (sound.messages (JoinAsk asked) s.sent);
        stands = live_from next number left (Live (left_half stored) at.held)
            (get_or-set_same world.clones number (Live (left_half stored) at.held) Absent (live_inside old at))
            (record { id = at.is.id; domain = at.is.domain; properties = at.is.properties }, now);
        tells = record {
          messages = JoinGive asked (stored.path ++ one_letter ∷ []) (known_of stored) ∷ [];
          more = refl;
          stand = (give_stands world asked id old new give stored at.held gives s.stands at.stands, tt);
        };
      })
  fork_stands old id new give at message s differs gives = absurd s.stands

  -- ---- a leaf comes

  leaf_passes : (running : LocalClone) (give : GiveValue) → LiveAt world number running → (message : Message) → IsSentAs world (CarriesGive give) message
      → StepStands world number (Take message) Ignored [] (states.Live running)
  leaf_passes running give at (JoinGive asked path dots) s =
      stays (states.Live running) at (Take (JoinGive asked path dots)) Ignored
      (takes_live (JoinGive asked path dots) (kept_by running at.base at.journal) at.held Ignored world at.live (refl, refl))
  leaf_passes running give at message s = absurd s.stands

  adopted_stands : (asker : LocalAsker) (give : GiveValue) → AskingAt world number asker → (message : Message) → IsSentAs world (CarriesGive give) message
      → give.id ≡ asker.id → StepStands world number (Take message) (Joined give.path) [] (states.Live (joined_clone asker give))
  adopted_stands asker give at (JoinGive asked path dots) s own =
      let inside : number < length world.clones = place_of_asking world.clones number at.asking in
      let same : asked ≡ number =
      number_of_id asked number (sound.messages (JoinGive asked path dots) s.sent).0 (omega (arith, inside, sound.count)) (sym s.stands.id ∙ own ∙ at.is.id) in
      let place = place_of world.messages (JoinGive asked path dots) s.sent in
      let mine : slice_get world.messages place.0 ≡ Some (JoinGive number path dots) = place.1 ∙ ap (λ (n : ℕ). Some (JoinGive n path dots)) same in
      let next : World = with_clone world number (Live (joined_with path dots) []) in
      turns (joined_clone asker give) (joined_with path dots) [] (Take (JoinGive asked path dots)) (Joined give.path) inside
      (subst (λ (c : Clone). Takes world number (JoinGive asked path dots) c (Joined give.path) next) (sym at.asking)
      (becomes_live same (ap (λ (leaf : List ℕ). Joined leaf) s.stands.leaf) (refl {a = next})))
      (joined_sound world number place.0 path dots sound at.asking mine)
      (record { id = at.is.id; domain = at.is.domain; properties = at.is.properties })
      (joined_stands world.history asker give asked path dots s.stands)
  adopted_stands asker give at message s own = absurd s.stands

  passed_stands : (asker : LocalAsker) (what : MessageValue) → AskingAt world number asker → (message : Message) → IsSentAs world what message
      → GivesNoLeaf asker what → StepStands world number (Take message) Ignored [] (states.Asking asker)
  passed_stands asker what at message s none =
      stays (states.Asking asker) at (Take message) Ignored (subst (λ (c : Clone). Takes world number message c Ignored world) (sym at.asking)
      (passed_over world number asker what message at.is none s.stands))

  -- ---- it asks

  asking_stands : (asker : LocalAsker) → AskingAt world number asker
      → StepStands world number Join (Sent (length world.messages + 1)) (CarriesAsk asker.id ∷ []) (states.Asking asker)
  asking_stands asker at =
      let inside : number < length world.clones = place_of_asking world.clones number at.asking in
      let next : World = after_asking world number in record {
        next = next;
        does = subst (λ (c : Clone). Joins world number c (Sent (length world.messages + 1)) next) (sym at.asking) (refl, refl {a = next});
        sound = asked_sound world number sound (omega (arith, inside, sound.count)) (λ stored. subst (λ (c : Clone). ¬ Keeps c stored) (sym at.asking) (λ h. h));
        stands = record {
          asking = get_or-set_same world.clones number Asking Absent inside;
          is = record { id = at.is.id; domain = at.is.domain; properties = at.is.properties };
        };
        tells = record { messages = JoinAsk number ∷ []; more = refl; stand = (at.is.id, tt) };
      }

  wanting_stands : (running : LocalClone) → LiveAt world number running
      → StepStands world number Ask (Sent (length world.messages + 1)) (CarriesWant running.ticks ∷ []) (states.Live running)
  wanting_stands running at =
      let stored : Stored = kept_by running at.base at.journal in
      let next : World = record world { messages = world.messages ++ Want (known_of stored) ∷ [] } in
      says running at Ask (Sent (length world.messages + 1)) (CarriesWant running.ticks ∷ []) (Want (known_of stored) ∷ [])
      (live_does world (clone_at world number) (Sent (length world.messages + 1)) next _ stored at.held at.live (refl, refl {a = next}))
      (wanted_sound world number stored at.held sound at.live) (at.stands.known, tt)

  -- ---- its journal, and its stops

  compacting_stands : (old new : LocalClone) → LiveAt world number old → LocallyCompacts old new
      → StepStands world number Compact (Kept (length new.entries)) [] (states.Live new)
  compacting_stands old new at compacts =
      let stored : Stored = kept_by old at.base at.journal in
      let whole : IsSoundClone world.history stored = live_sound world number stored at.held sound at.live in
      let ranges : List Range = ranges_of new.entries in
      let compacted : AreCompacted stored.journal ranges = journal_compacted world.history old new stored at.held sound.lawful whole at.stands compacts in
      let then : Stored = record stored { journal = ranges } in
      let next : World = with_clone world number (Live then at.held) in
      let of : IsCloneOf world number (record old { entries = new.entries }) = record { id = at.is.id; domain = at.is.domain; properties = at.is.properties } in
      turns new then at.held Compact (Kept (length new.entries)) (live_inside old at)
      (live_does world (clone_at world number) (Kept (length new.entries)) next _ stored at.held at.live
      (ranges, compacted, ap (λ n. Kept n) (sym (length-map new.entries (λ (entry : EntryValue). entry.range))), refl {a = next}))
      (compacted_sound world number stored at.held ranges sound at.live compacted)
      (subst (λ (clone : LocalClone). IsCloneOf world number clone) (sym compacts.rest) of)
      (compacted_stands world.history old new stored at.held sound.lawful whole at.stands compacts)

  truncating_stands : (old : LocalClone) (keep : ℕ) (new : LocalClone) → LiveAt world number old → LocallyTruncates old keep new
      → StepStands world number (Truncate keep) (Kept (length new.entries)) [] (states.Live new)
  truncating_stands old keep new at truncates =
      let stored : Stored = kept_by old at.base at.journal in
      let whole : IsSoundClone world.history stored = live_sound world number stored at.held sound at.live in
      let after : Stored = truncated_to stored keep in
      let next : World = with_clone world number (Live after at.held) in
      let now : LocalStandsFor world.history new after at.held = truncated_stands world.history old new keep stored at.held sound.lawful whole at.stands truncates in
      turns new after at.held (Truncate keep) (Kept (length new.entries)) (live_inside old at)
      (live_does world (clone_at world number) (Kept (length new.entries)) next _ stored at.held at.live
      (ap (λ n. Kept n) (pairs_count (EntryStandsFor world.history) new.entries after.journal now.kept.entries), refl {a = next}))
      (truncated_sound world number stored at.held keep sound at.live)
      (truncated_clone_of world number keep old new truncates at.is) now

  stopping_stands : (running : LocalClone) → LiveAt world number running → StepStands world number Stop Stopped [] (states.Down running)
  stopping_stands running at =
      let stored : Stored = kept_by running at.base at.journal in
      let next : World = with_clone world number (Down stored) in record {
        next = next;
        does = live_does world (clone_at world number) Stopped next _ stored at.held at.live (refl, refl {a = next});
        sound = stopped_sound world number sound stored at.held at.live;
        stands = record {
          stored = stored;
          down = get_or-set_same world.clones number (Down stored) Absent (live_inside running at);
          is = record { id = at.is.id; domain = at.is.domain; properties = at.is.properties };
          stands = at.stands.kept;
        };
        tells = record { messages = []; more = sym (append-nil world.messages); stand = tt };
      }

  opening_stands : (down new : LocalClone) → DownAt world number down → LocallyOpens down new → StepStands world number Open Opened [] (states.Live new)
  opening_stands down new at opened =
      let stored : Stored = at.stored in
      let keeps : Keeps (clone_at world number) stored = subst (λ (c : Clone). Keeps c stored) (sym at.down) refl in
      let next : World = with_clone world number (Live stored []) in
      let has : StoredStandsFor world.history (stored_of new) stored = record {
        path = opened.same.path ∙ at.stands.path;
        base = λ dot. subst (λ (ticks : List (List ℕ × ℕ)). Covers ticks dot ↔ Knows stored.base dot) (sym opened.same.base) (at.stands.base dot);
        base_pairs = subst (λ (pairs : List Tagged). IsMeaning world.history stored.base pairs) (sym opened.same.base_pairs) at.stands.base_pairs;
        entries = subst (λ (entries : List EntryValue). AllZip (EntryStandsFor world.history) entries stored.journal) (sym opened.entries) at.stands.entries;
      } in
      turns new stored [] Open Opened (place_of_clone world.clones number stored keeps)
      (subst (λ (c : Clone). Reopens world number c Opened next) (sym at.down) (refl, refl {a = next}))
      (opened_sound world number sound stored at.down)
      (still_clone_of world world number down new opened.same refl refl at.is)
      (opened_stands world number new stored sound keeps opened.local opened.held has)

-- ---- tasks

-- a message that comes is one of the model's, and any other task is the same
taken_in : (world : World) (what : MessageValue) (other : Task Message) (C : Task Message → Type 0) → IsTaskIn world (Take what) other
    → ((message : Message) → IsSentAs world what message → C (Take message)) → C other
taken_in world what (Take message) C is then = then message is
taken_in world what other C is then = absurd is

pub local_steps : LocalStepsAreTheModels
local_steps world number old new job other reply sent sound at is (updates_nothing clone effect none) =
    subst (λ (t : Task Message). StepStands world number t reply sent new) (sym is) (updates_none world number sound clone effect at none)
local_steps world number old new job other reply sent sound at is (update_breaks clone effect place some first) =
    subst (λ (t : Task Message). StepStands world number t reply sent new) (sym is) (breach_stands world number sound clone effect place at some first)
local_steps world number old new job other reply sent sound at is (updates before effect after entry some fits among made) =
    subst (λ (t : Task Message). StepStands world number t reply sent new) (sym is) (made_stands world number sound before effect after entry at some fits among made)
local_steps world number old new job other reply sent sound at is (knows_entry clone entry known) =
    taken_in world (CarriesEntry entry) other (λ t. StepStands world number t reply sent new) is (λ message s. known_stands world number sound clone entry at message s known)
local_steps world number old new job other reply sent sound at is (accepts_entry before entry after ranges locally) =
    taken_in world (CarriesEntry entry) other (λ t. StepStands world number t reply sent new) is
    (λ message s. taken_stands world number sound before entry after ranges at message s locally)
local_steps world number old new job other reply sent sound at is (holds_entry before entry after must holds) =
    taken_in world (CarriesEntry entry) other (λ t. StepStands world number t reply sent new) is
    (λ message s. held_stands world number sound before entry after at message s must holds)
local_steps world number old new job other reply sent sound at is (is_full clone entry must full) =
    taken_in world (CarriesEntry entry) other (λ t. StepStands world number t reply sent new) is (λ message s. full_stands world number sound clone entry at message s must full)
local_steps world number old new job other reply sent sound at is (knows_snapshot clone snapshot knows) =
    taken_in world (CarriesSnapshot snapshot) other (λ t. StepStands world number t reply sent new) is
    (λ message s. all_known_stands world number sound clone snapshot at message s knows)
local_steps world number old new job other reply sent sound at is (merges_snapshot before snapshot after ranges locally) =
    taken_in world (CarriesSnapshot snapshot) other (λ t. StepStands world number t reply sent new) is
    (λ message s. merge_stands world number sound before snapshot after ranges at message s locally)
local_steps world number old new job other reply sent sound at is (sends_nothing clone ticks answers) =
    taken_in world (CarriesWant ticks) other (λ t. StepStands world number t reply sent new) is (λ message s. nothing_stands world number sound clone ticks at message s answers)
local_steps world number old new job other reply sent sound at is (sends_entries clone ticks entries some answers) =
    taken_in world (CarriesWant ticks) other (λ t. StepStands world number t reply sent new) is
    (λ message s. entries_stand world number sound clone ticks entries at message s some answers)
local_steps world number old new job other reply sent sound at is (sends_all clone ticks snapshot answers) =
    taken_in world (CarriesWant ticks) other (λ t. StepStands world number t reply sent new) is
    (λ message s. all_stands world number sound clone ticks snapshot at message s answers)
local_steps world number old new job other reply sent sound at is (asks_itself clone) =
    taken_in world (CarriesAsk clone.id) other (λ t. StepStands world number t reply sent new) is (λ message s. own_stands world number sound clone at message s)
local_steps world number old new job other reply sent sound at is (is_deep clone id differs deep) =
    taken_in world (CarriesAsk id) other (λ t. StepStands world number t reply sent new) is (λ message s. deep_stands world number sound clone id at message s differs deep)
local_steps world number old new job other reply sent sound at is (forks_leaf before id after give differs gives) =
    taken_in world (CarriesAsk id) other (λ t. StepStands world number t reply sent new) is
    (λ message s. fork_stands world number sound before id after give at message s differs gives)
local_steps world number old new job other reply sent sound at is (needs_no_leaf clone give) =
    taken_in world (CarriesGive give) other (λ t. StepStands world number t reply sent new) is (λ message s. leaf_passes world number sound clone give at message s)
local_steps world number old new job other reply sent sound at is (adopts_leaf asker give own) =
    taken_in world (CarriesGive give) other (λ t. StepStands world number t reply sent new) is (λ message s. adopted_stands world number sound asker give at message s own)
local_steps world number old new job other reply sent sound at is (passes_over asker what none) =
    taken_in world what other (λ t. StepStands world number t reply sent new) is (λ message s. passed_stands world number sound asker what at message s none)
local_steps world number old new job other reply sent sound at is (asks_for_leaf asker) =
    subst (λ (t : Task Message). StepStands world number t reply sent new) (sym is) (asking_stands world number sound asker at)
local_steps world number old new job other reply sent sound at is (asks_for_rest clone) =
    subst (λ (t : Task Message). StepStands world number t reply sent new) (sym is) (wanting_stands world number sound clone at)
local_steps world number old new job other reply sent sound at is (compacts_journal before after compacts) =
    subst (λ (t : Task Message). StepStands world number t reply sent new) (sym is) (compacting_stands world number sound before after at compacts)
local_steps world number old new job other reply sent sound at is (truncates_journal before keep after truncates) =
    subst (λ (t : Task Message). StepStands world number t reply sent new) (sym is) (truncating_stands world number sound before keep after at truncates)
local_steps world number old new job other reply sent sound at is (stops clone) =
    subst (λ (t : Task Message). StepStands world number t reply sent new) (sym is) (stopping_stands world number sound clone at)
local_steps world number old new job other reply sent sound at is (opens down after opened) =
    subst (λ (t : Task Message). StepStands world number t reply sent new) (sym is) (opening_stands world number sound down after at opened)

-- ---- what is never foreign

-- an entry that was sent is none of a clone's own path beyond what the clone knows
pub entry_not_foreign : (world : World) (number : ℕ) (running : LocalClone) (entry : EntryValue) (range : Range) → IsSound world → LiveAt world number running
    → Has world.messages (RangeOf range) → EntryStandsFor world.history entry range → ¬ IsForeign running entry
entry_not_foreign world number running entry range sound at sent stands foreign =
    let stored : Stored = kept_by running at.base at.journal in
    let same : entry.range ≡ range = stands.same in
    let whole : IsDoneRange world.history range = sound.messages (RangeOf range) sent in
    let last : Dot = last_dot range in
    let done : IsDone world.history last = whole.done last (record { path = refl; above = whole.some; below = omega arith }) in
    let path : range.path ≡ running.path = sym (ap (λ (r : Range). r.path) same) ∙ foreign.own in
    let known : Knows (known_of stored) done.operation.dot =
    (live_sound world number stored at.held sound at.live).own done.operation done.stands (ap (λ (d : Dot). d.path) done.is ∙ path) in
    let again : Covers running.ticks last = (at.stands.known last).1 (subst (λ (d : Dot). Knows (known_of stored) d) done.is known) in
    let within : range.last ≤ ticks_of running.ticks running.path = subst (λ (p : List ℕ). range.last ≤ ticks_of running.ticks p) path again.within in
    let last_is : entry.range.last ≡ range.last = ap (λ (r : Range). r.last) same in
    omega (arith, within, last_is, foreign.beyond)

-- a snapshot that was sent has no more ticks of a clone's own path than the clone
pub snapshot_not_foreign : (world : World) (number : ℕ) (running : LocalClone) (snapshot : SnapshotValue) (dots : List Range) → IsSound world → LiveAt world number running
    → Has world.messages (SnapshotOf dots) → SnapshotStandsFor world.history snapshot dots → ¬ IsForeignSnapshot running snapshot
snapshot_not_foreign world number running snapshot dots sound at sent says foreign =
    let stored : Stored = kept_by running at.base at.journal in
    let last : Dot = dot_at running.path (ticks_of snapshot.ticks running.path) in
    let said : Knows dots last = (says.known last).0 (record { positive = omega (arith, foreign); within = omega arith }) in
    let closed = sound.messages (SnapshotOf dots) sent in
    let done : IsDone world.history last = closed.done last said in
    let known : Knows (known_of stored) done.operation.dot =
    (live_sound world number stored at.held sound at.live).own done.operation done.stands (ap (λ (d : Dot). d.path) done.is) in
    let again : Covers running.ticks last = (at.stands.known last).1 (subst (λ (d : Dot). Knows (known_of stored) d) done.is known) in
    let within : ticks_of snapshot.ticks running.path ≤ ticks_of running.ticks running.path = again.within in
    omega (arith, within, foreign)

pub none_foreign : NoneIsForeign
none_foreign world number clone (CarriesEntry entry) (RangeOf range) sound at s foreign = entry_not_foreign world number clone entry range sound at s.sent s.stands foreign
none_foreign world number clone (CarriesSnapshot snapshot) (SnapshotOf dots) sound at s foreign = snapshot_not_foreign world number clone snapshot dots sound at s.sent s.stands foreign
none_foreign world number clone (CarriesEntry entry) message sound at s foreign = s.stands
none_foreign world number clone (CarriesSnapshot snapshot) message sound at s foreign = s.stands
none_foreign world number clone what message sound at s foreign = foreign
