-- A running world where a clone takes a snapshot, or truncates its journal, stands for what the model's step makes.
use Rattle.std.proofs.Common.{◌≡◌, ℕ, List, refl, length, Some}
use Rattle.std.specs.Prelude.{slice_get}
use Rattle.tree_clock.specs.declared.dots.Range.{Range}
use Rattle.mld_ops.specs.Messages.{SnapshotValue, CarriesSnapshot}
use Rattle.schedule_model.specs.declared.Command.TheVariants.{Deliver, Truncate}
use Rattle.mld_model.specs.declared.CloneState.TheVariants as states
use Rattle.mld_model.specs.World.{World, clone_at}
use Rattle.mld_model.specs.Reply.{Reply, Merged, AlreadyKnown, Kept}
use Rattle.mld_model.specs.Sound.{IsSound}
use Rattle.mld_model.specs.Local.{LocalClone, IsForeignSnapshot, KnowsSnapshot, LocallyMerges, LocallyTruncates}
use Rattle.mld_model.specs.LocalStep.{Truncate as TruncateJournal, knows_snapshot, merges_snapshot, truncates_journal}
use Rattle.mld_model.specs.StandsFor.{RunningClone, RunningWorld, StandsFor}
use Rattle.mld_model.proofs.LocalSteps.{none_foreign}
use Rattle.mld_model.proofs.StandsForLaws.{live_at}
use Rattle.schedule_model.specs.Step.{Step}
use Rattle.schedule_model.specs.WorldStep.{stepped, stepped_with, sent_message, Follows, IsMissingReply}
use Rattle.schedule_model.proofs.WorldLaws.{missing_replies, staying_follows}
use Rattle.schedule_model.proofs.FollowsLaws.{SentAs, sent_as, turning, taking_stays, taking_turns}

-- a running world that stands for a sound world
module _ (running : RunningWorld) (world : World) (stands : StandsFor running world) (sound : IsSound world) where
  -- ---- a snapshot comes

  -- a live clone knows all its dots
  pub deliver_snapshot_known : (message number : ℕ) (snapshot : SnapshotValue) (live : LocalClone)
      → sent_message running message ≡ Some (CarriesSnapshot snapshot) → slice_get running.clones number ≡ Some (states.Live live) → KnowsSnapshot live snapshot
      → Follows world (Deliver message number) AlreadyKnown (stepped running)
  deliver_snapshot_known message number snapshot live told is knows =
      taking_stays running world stands sound message number (CarriesSnapshot snapshot) (states.Live live) AlreadyKnown told is (live_at running world stands number live is)
      (knows_snapshot live snapshot knows)

  -- or it merges what it has
  pub deliver_merged : (message number : ℕ) (snapshot : SnapshotValue) (live new : LocalClone) (ranges : List Range)
      → sent_message running message ≡ Some (CarriesSnapshot snapshot) → slice_get running.clones number ≡ Some (states.Live live)
      → LocallyMerges live snapshot new ranges
      → Follows world (Deliver message number) (Merged ranges) (stepped_with running number new)
  deliver_merged message number snapshot live new ranges told is locally =
      taking_turns running world stands sound message number (CarriesSnapshot snapshot) (states.Live live) (states.Live new) (Merged ranges) told
      (live_at running world stands number live is) (merges_snapshot live snapshot new ranges locally)

  -- a snapshot that was sent has no more ticks of a clone's own path than the clone
  pub never_foreign_snapshot : (message number : ℕ) (snapshot : SnapshotValue) (live : LocalClone)
      → sent_message running message ≡ Some (CarriesSnapshot snapshot) → slice_get running.clones number ≡ Some (states.Live live)
      → ¬ IsForeignSnapshot live snapshot
  never_foreign_snapshot message number snapshot live told is =
      let s : SentAs world (CarriesSnapshot snapshot) message = sent_as running world stands message (CarriesSnapshot snapshot) told in
      none_foreign world number live (CarriesSnapshot snapshot) s.other sound (live_at running world stands number live is) (record { sent = s.stands; stands = s.relates })

  -- ---- truncate

  -- a live clone truncates its journal
  pub truncate_follows : (number keep : ℕ) (live new : LocalClone) → slice_get running.clones number ≡ Some (states.Live live) → LocallyTruncates live keep new
      → Follows world (Truncate number keep) (Kept (length new.entries)) (stepped_with running number new)
  unfolding Step
  truncate_follows number keep live new is truncates =
      turning running world stands sound (Truncate number keep) (states.Live live) (states.Live new) (TruncateJournal keep) (TruncateJournal keep) (Kept (length new.entries))
      (live_at running world stands number live is) refl (λ next does. does) (truncates_journal live keep new truncates)

  -- a clone that isn't live doesn't
  pub truncate_missing : (number keep : ℕ) (state : RunningClone) (reply : Reply)
      → slice_get running.clones number ≡ Some state → IsMissingReply state reply → Follows world (Truncate number keep) reply (stepped running)
  unfolding Step
  truncate_missing number keep state reply is missing =
      staying_follows running world stands sound (Truncate number keep) reply
      (missing_replies world number state (clone_at world number) reply _ missing (stands.clones number state is))
