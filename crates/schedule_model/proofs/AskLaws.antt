-- A running world where a clone asks for what it lacks, tells who does, or compacts its journal stands for what the model's step makes.
use Rattle.std.proofs.Common.{◌≡◌, ◌≢◌, ℕ, ◌+◌, List, [], ◌∷◌, ◌++◌, refl, length, map, Some}
use Rattle.std.specs.Prelude.{slice_get}
use Rattle.std.specs.List.{range_with_len}
use Rattle.tree_clock.specs.declared.dots.Dot.{Dot}
use Rattle.tree_clock.specs.Clock.{Covers}
use Rattle.mld_ops.specs.Entry.{EntryValue}
use Rattle.mld_ops.specs.Messages.{CarriesEntry, CarriesWant, CarriesSnapshot}
use Rattle.schedule_model.specs.declared.Command.TheVariants.{Deliver, Ask, Compact}
use Rattle.mld_model.specs.declared.CloneState.TheVariants as states
use Rattle.mld_model.specs.World.{World, clone_at}
use Rattle.mld_model.specs.Reply.{Reply, Sent, Answer, NothingToSend, Kept}
use Rattle.mld_model.specs.Sound.{IsSound}
use Rattle.mld_model.specs.Local.{LocalClone, snapshot_of, LocallyCompacts, LocallyAnswersWant}
use Rattle.mld_model.specs.LocalStep.{Ask as AskRest, Compact as CompactJournal, asks_for_rest, sends_nothing, sends_entries, sends_all, compacts_journal}
use Rattle.mld_model.specs.StandsFor.{RunningClone, RunningWorld, StandsFor}
use Rattle.mld_model.proofs.StandsForLaws.{live_at, set_as_it_is}
use Rattle.schedule_model.specs.Step.{Step}
use Rattle.schedule_model.specs.WorldStep.{stepped, stepped_with, stepped_saying, sent_message, Follows, IsMissingReply}
use Rattle.schedule_model.proofs.WorldLaws.{missing_replies, staying_follows}
use Rattle.schedule_model.proofs.FollowsLaws.{local_follows, turning, taking_stays, taking_says}

-- a running world that stands for a sound world
module _ (running : RunningWorld) (world : World) (stands : StandsFor running world) (sound : IsSound world) where
  -- ---- ask

  -- a live clone asks for what it lacks
  pub ask_follows : (number : ℕ) (live : LocalClone) → slice_get running.clones number ≡ Some (states.Live live)
      → Follows world (Ask number) (Sent (length running.messages + 1)) (stepped_saying running (CarriesWant live.ticks ∷ []))
  unfolding Step
  ask_follows number live is =
      local_follows running world stands sound (Ask number) (states.Live live) (states.Live live) AskRest AskRest (Sent (length running.messages + 1)) (CarriesWant live.ticks ∷ [])
      running.clones (running.messages ++ CarriesWant live.ticks ∷ []) (live_at running world stands number live is) refl (λ next wants. wants) (asks_for_rest live)
      (set_as_it_is running.clones number (states.Live live) is) refl

  -- a clone that isn't live doesn't
  pub ask_missing : (number : ℕ) (state : RunningClone) (reply : Reply)
      → slice_get running.clones number ≡ Some state → IsMissingReply state reply → Follows world (Ask number) reply (stepped running)
  unfolding Step
  ask_missing number state reply is missing =
      staying_follows running world stands sound (Ask number) reply
      (missing_replies world number state (clone_at world number) reply _ missing (stands.clones number state is))

  -- ---- a want comes

  -- a live clone has nothing to tell who sent it
  pub want_nothing : (message number : ℕ) (ticks : List (List ℕ × ℕ)) (live : LocalClone)
      → sent_message running message ≡ Some (CarriesWant ticks) → slice_get running.clones number ≡ Some (states.Live live) → LocallyAnswersWant live ticks []
      → Follows world (Deliver message number) NothingToSend (stepped running)
  want_nothing message number ticks live told is answers =
      taking_stays running world stands sound message number (CarriesWant ticks) (states.Live live) NothingToSend told is (live_at running world stands number live is)
      (sends_nothing live ticks answers)

  -- or it sends the entries that the other one lacks
  pub want_answered : (message number : ℕ) (ticks : List (List ℕ × ℕ)) (live : LocalClone) (entries : List EntryValue)
      → sent_message running message ≡ Some (CarriesWant ticks) → slice_get running.clones number ≡ Some (states.Live live)
      → LocallyAnswersWant live ticks entries → entries ≢ []
      → Follows world (Deliver message number) (Answer (range_with_len (length running.messages + 1) (length entries))) (stepped_saying running (map CarriesEntry entries))
  want_answered message number ticks live entries told is answers some =
      taking_says running world stands sound message number (CarriesWant ticks) (states.Live live) (Answer (range_with_len (length running.messages + 1) (length entries)))
      (map CarriesEntry entries) told is (live_at running world stands number live is) (sends_entries live ticks entries some answers)

  -- one who lacks dots of the base is sent a snapshot of all that the clone knows and has
  pub want_snapshot : (message number : ℕ) (ticks : List (List ℕ × ℕ)) (live : LocalClone)
      → sent_message running message ≡ Some (CarriesWant ticks) → slice_get running.clones number ≡ Some (states.Live live)
      → ¬ ((dot : Dot) → Covers live.base dot → Covers ticks dot)
      → Follows world (Deliver message number) (Answer ((length running.messages + 1) ∷ [])) (stepped_saying running (CarriesSnapshot (snapshot_of live) ∷ []))
  want_snapshot message number ticks live told is behind =
      taking_says running world stands sound message number (CarriesWant ticks) (states.Live live) (Answer ((length running.messages + 1) ∷ []))
      (CarriesSnapshot (snapshot_of live) ∷ []) told is (live_at running world stands number live is)
      (sends_all live ticks (snapshot_of live) (record { behind = behind; whole = refl }))

  -- ---- compact

  -- a live clone compacts its journal
  pub compact_follows : (number : ℕ) (live new : LocalClone) → slice_get running.clones number ≡ Some (states.Live live) → LocallyCompacts live new
      → Follows world (Compact number) (Kept (length new.entries)) (stepped_with running number new)
  unfolding Step
  compact_follows number live new is compacts =
      turning running world stands sound (Compact number) (states.Live live) (states.Live new) CompactJournal CompactJournal (Kept (length new.entries))
      (live_at running world stands number live is) refl (λ next does. does) (compacts_journal live new compacts)

  -- a clone that isn't live doesn't
  pub compact_missing : (number : ℕ) (state : RunningClone) (reply : Reply)
      → slice_get running.clones number ≡ Some state → IsMissingReply state reply → Follows world (Compact number) reply (stepped running)
  unfolding Step
  compact_missing number state reply is missing =
      staying_follows running world stands sound (Compact number) reply
      (missing_replies world number state (clone_at world number) reply _ missing (stands.clones number state is))
