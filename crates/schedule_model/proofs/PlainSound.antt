-- Each step of a sound world by a plain command leads to a sound world.
use Rattle.std.specs.Prelude.{◌≡◌, ℕ, ◌<◌, List, Option, Some, None, MatchOption, slice_get}
use Rattle.std.proofs.Common.{refl, sym, ◌∙◌, subst}
use Rattle.tree_clock.specs.declared.dots.Range.{Range}
use Rattle.tree_clock.specs.Lists.{Has}
use Rattle.mld_ops.specs.declared.tagged.Tagged.{Tagged}
use Rattle.mld_ops.specs.Meaning.{IsMeaning}
use Rattle.schedule_model.specs.declared.Command.TheVariants.{Add, Remove, Update, Deliver, Show, Query, Compare, Join, Ask, Compact, Truncate, Stop, Open, Crash}
use Rattle.schedule_model.specs.declared.Command.{Command}
use Rattle.mld_ops.specs.Effects.{EffectValue}
use Rattle.mld_ops.specs.History.{dot_at}
use Rattle.jrql_ast.specs.declared.plans.UpdatePlan.{UpdatePlan}
use Rattle.jrql_ast.specs.Templates.{insertion_of, deletion_of}
use Rattle.mld_model.specs.Clone.{Clone, Absent, Asking, Live, Stored, known_of, IsKnown}
use Rattle.mld_model.specs.World.{World, Message, RangeOf, Want, SnapshotOf, JoinAsk, JoinGive, message_at, clone_count, clone_at}
use Rattle.mld_model.specs.Reply.{Reply, NoMessage}
use Rattle.mld_model.specs.CloneStep.{Answers, Updates, changes_nothing, breaks_single, makes_operation, holds_already, holds_too_many, holds_from_now, TakesRange, knows_already, accepts, holds_back, Asks, Joins, TakesAsk, asked_itself, is_too_deep, forks, TakesLeaf, becomes_live, leaves_it, AskerTakes, LiveTakes, Takes, Stops, Reopens, Lists, ComparesWith, Weighs, TakesWant, lacks_nothing, sends_ranges, sends_snapshot, TakesSnapshot, knows_all, merges, Wants, Compacts, Truncates}
use Rattle.mld_model.proofs.StateLaws.{by_state, if_live, if_opens}
use Rattle.jrql_update.specs.jrql_patterns.declared.queries.ReadQuery.{ReadQuery}
use Rattle.schedule_model.specs.Querying.{Queries}
use Rattle.schedule_model.specs.Updating.{UpdatesByPlan}
use Rattle.schedule_model.specs.Step.{HasCloneNumbers}
use Rattle.schedule_model.specs.PlainStep.{PlainStep}
use Rattle.mld_model.specs.Sound.{Keeps, IsSound}
use Rattle.mld_ops.proofs.PickingLaws.{kept_members}
use Rattle.mld_model.proofs.JournalLaws.{journal_done}
use Rattle.mld_model.proofs.SoundLaws.{made_sound, taken_sound, holding_sound, live_sound}
use Rattle.mld_model.proofs.SendingLaws.{wanted_sound, ranges_sent_sound}
use Rattle.mld_model.proofs.CompactedJournals.{compacted_sound}
use Rattle.schedule_model.proofs.PlanLaws.{plan_present, if_planned}
use Rattle.mld_model.proofs.MergedLaws.{truncated_sound, merged_sound, snapshot_sent_sound}
use Rattle.mld_model.proofs.StoredLaws.{stopped_sound, opened_sound, opened_empty_sound}
use Rattle.mld_model.proofs.JoiningLaws.{asked_sound, forked_sound, stands_at, joined_sound, place_of_message}

-- ---- steps

-- a world that is left as it was stays sound
same_sound : (world next : World) → IsSound world → next ≡ world → IsSound next
same_sound world next sound same = subst IsSound (sym same) sound

-- each step of a sound world leads to a sound world
module _ (world next : World) (reply : Reply) (sound : IsSound world) where
  -- an update that deletes pairs of the clone leads to a sound world
  updates_sound : (number : ℕ) (stored : Stored) (held : List Range) (pairs : List Tagged) (effect : EffectValue) → clone_at world number ≡ Live stored held
      → IsMeaning world.history (known_of stored) pairs → ((pair : Tagged) → Has effect.deletes pair → Has pairs pair)
      → Updates world number stored held pairs effect reply next → IsSound next
  updates_sound number stored held pairs effect is meant among (changes_nothing none p) = same_sound world next sound p.1
  updates_sound number stored held pairs effect is meant among (breaks_single some place first p) = same_sound world next sound p.1
  updates_sound number stored held pairs effect is meant among (makes_operation some fits p) =
      subst IsSound (sym p.changes) (made_sound world number stored held sound is p.tick effect.deletes effect.inserts p.is_next
      (λ pair h. (meant.sound pair (among pair h)).covered) (λ pair h. (meant.sound pair (among pair h)).inserted))

  planned_sound : (number : ℕ) (plan : UpdatePlan) → UpdatesByPlan world number plan (clone_at world number) reply next → IsSound next
  planned_sound number plan =
      if_planned (IsSound next) world number plan (clone_at world number) reply next (λ answer state p. same_sound world next sound p.1)
      (λ p. same_sound world next sound p.1)
      (λ stored held pairs tick effect live meant is_next has p. updates_sound number stored held pairs effect live meant
      (plan_present world.domain plan (dot_at stored.path tick) pairs effect has) p)

  -- a range that comes to a live clone leads to a sound world
  receives_sound : (number : ℕ) (stored : Stored) (held : List Range) (range : Range) → clone_at world number ≡ Live stored held → Has world.messages (RangeOf range)
      → TakesRange world number stored held range reply next → IsSound next
  receives_sound number stored held range is sent (knows_already known p) = same_sound world next sound p.1
  receives_sound number stored held range is sent (accepts p) =
      subst IsSound (sym p.changes) (taken_sound world number stored held sound is range p.taken p.after p.left (sound.messages (RangeOf range) sent) p.ready p.releases)
  receives_sound number stored held range is sent (holds_back back (holds_already has p)) = same_sound world next sound p.1
  receives_sound number stored held range is sent (holds_back back (holds_too_many lacks full p)) = same_sound world next sound p.1
  receives_sound number stored held range is sent (holds_back back (holds_from_now lacks few told same)) =
      subst IsSound (sym same) (holding_sound world number stored held sound is range (sound.messages (RangeOf range) sent))

  -- a clone that holds no leaf and asks for one leads to a sound world
  asks_sound : (number : ℕ) (clone : Clone) → number < clone_count → clone_at world number ≡ clone → ((stored : Stored) → ¬ Keeps clone stored)
      → Asks world number reply next → IsSound next
  asks_sound number clone small is none p =
      subst IsSound (sym p.1) (asked_sound world number sound small (λ stored. subst (λ (c : Clone). ¬ Keeps c stored) (sym is) (none stored)))

  -- and so does a clone that is told to
  joins_sound : (number : ℕ) (clone : Clone) → number < clone_count → clone_at world number ≡ clone → Joins world number clone reply next → IsSound next
  joins_sound number clone small is =
      by_state (IsSound next) clone _ _ _ _ (λ state. asks_sound number Absent small (is ∙ state) (λ stored h. h)) (λ state. asks_sound number Asking small (is ∙ state) (λ stored h. h))
      (λ p. same_sound world next sound p.1) (λ stored held live p. same_sound world next sound p.1)

  -- and so does a live clone that is asked for one
  gives_sound : (number : ℕ) (stored : Stored) (held : List Range) (id : ℕ) → clone_at world number ≡ Live stored held → Has world.messages (JoinAsk id)
      → TakesAsk world number stored held id reply next → IsSound next
  gives_sound number stored held id is sent (asked_itself own p) = same_sound world next sound p.1
  gives_sound number stored held id is sent (is_too_deep differs deep p) = same_sound world next sound p.1
  gives_sound number stored held id is sent (forks differs room told same) =
      subst IsSound (sym same) (forked_sound world number stored held sound is id (sound.messages (JoinAsk id) sent))

  -- and so does one that is asked for what another lacks
  wants_taken_sound : (number : ℕ) (dots : List Range) (stored : Stored) (held : List Range) → clone_at world number ≡ Live stored held
      → TakesWant world dots stored reply next → IsSound next
  wants_taken_sound number dots stored held is (lacks_nothing known none p) = same_sound world next sound p.1
  wants_taken_sound number dots stored held is (sends_ranges ranges known drops some told same) =
      subst IsSound (sym same) (ranges_sent_sound ranges world sound (λ range h.
      journal_done world.history stored.base stored.journal (live_sound world number stored held sound is).journal range
      (kept_members (IsKnown dots) stored.journal ranges drops range h)))
  wants_taken_sound number dots stored held is (sends_snapshot behind told same) =
      subst IsSound (sym same) (snapshot_sent_sound world number stored held sound is)

  -- and so does a snapshot that comes to one
  takes_snapshot_sound : (number : ℕ) (stored : Stored) (held dots : List Range) → clone_at world number ≡ Live stored held
      → Has world.messages (SnapshotOf dots) → TakesSnapshot world number stored held dots reply next → IsSound next
  takes_snapshot_sound number stored held dots is sent (knows_all known p) = same_sound world next sound p.1
  takes_snapshot_sound number stored held dots is sent (merges p) =
      subst IsSound (sym p.changes)
      (merged_sound world number stored held dots p.taken p.after p.left sound is (sound.messages (SnapshotOf dots) sent) p.releases)

  -- and a leaf that comes to a clone that asks
  adopts_sound : (number place id : ℕ) (path : List ℕ) (dots : List Range) → clone_at world number ≡ Asking → slice_get world.messages place ≡ Some (JoinGive id path dots)
      → TakesLeaf world number id path dots reply next → IsSound next
  adopts_sound number place id path dots is sent (becomes_live own told same) =
      subst IsSound (sym same) (joined_sound world number place path dots sound is
      (subst (λ (k : ℕ). slice_get world.messages place ≡ Some (JoinGive k path dots)) own sent))
  adopts_sound number place id path dots is sent (leaves_it differs p) = same_sound world next sound p.1

  -- and so does a message that comes to a clone that asks
  asker_takes_sound : (number : ℕ) (message : Message) → clone_at world number ≡ Asking → (sent : (place : ℕ) × (slice_get world.messages place ≡ Some message))
      → AskerTakes world number message reply next → IsSound next
  asker_takes_sound number (JoinGive id path dots) is sent p = adopts_sound number sent.0 id path dots is sent.1 p
  asker_takes_sound number message is sent p = same_sound world next sound p.1

  -- to a live clone
  live_takes_sound : (number : ℕ) (message : Message) (stored : Stored) (held : List Range) → clone_at world number ≡ Live stored held
      → (sent : (place : ℕ) × (slice_get world.messages place ≡ Some message)) → LiveTakes world number message stored held reply next → IsSound next
  live_takes_sound number (RangeOf range) stored held is sent p = receives_sound number stored held range is (stands_at world.messages sent.0 (RangeOf range) sent.1) p
  live_takes_sound number (Want dots) stored held is sent p = wants_taken_sound number dots stored held is p
  live_takes_sound number (JoinAsk id) stored held is sent p = gives_sound number stored held id is (stands_at world.messages sent.0 (JoinAsk id) sent.1) p
  live_takes_sound number (SnapshotOf dots) stored held is sent p =
      takes_snapshot_sound number stored held dots is (stands_at world.messages sent.0 (SnapshotOf dots) sent.1) p
  live_takes_sound number (JoinGive id path dots) stored held is sent p = same_sound world next sound p.1

  -- to any clone
  takes_sound : (number : ℕ) (message : Message) (clone : Clone) → clone_at world number ≡ clone → (sent : (place : ℕ) × (slice_get world.messages place ≡ Some message))
      → Takes world number message clone reply next → IsSound next
  takes_sound number message clone is sent =
      by_state (IsSound next) clone _ _ _ _ (λ state p. same_sound world next sound p.1) (λ asks. asker_takes_sound number message (is ∙ asks) sent)
      (λ p. same_sound world next sound p.1) (λ stored held live. live_takes_sound number message stored held (is ∙ live) sent)

  -- a `deliver` leads to a sound world
  delivers_sound : (number : ℕ) (sent : Option Message) → ((message : Message) → sent ≡ Some message → (place : ℕ) × (slice_get world.messages place ≡ Some message))
      → MatchOption sent (Answers world NoMessage reply next) (λ message. Takes world number message (clone_at world number) reply next) → IsSound next
  delivers_sound number None has p = same_sound world next sound p.1
  delivers_sound number (Some message) has p =
      takes_sound number message (clone_at world number) refl (has message refl) p

  -- a clone that asks for what it lacks leads to a sound world
  wants_sound : (number : ℕ) (clone : Clone) → clone_at world number ≡ clone → Wants world clone reply next → IsSound next
  wants_sound number clone is =
      if_live (IsSound next) world clone reply next _ (λ answer state p. same_sound world next sound p.1)
      (λ stored held live p. subst IsSound (sym p.1) (wanted_sound world number stored held sound (is ∙ live)))

  -- and so does one that compacts its journal
  compacts_sound : (number : ℕ) (clone : Clone) → clone_at world number ≡ clone → Compacts world number clone reply next → IsSound next
  compacts_sound number clone is =
      if_live (IsSound next) world clone reply next _ (λ answer state p. same_sound world next sound p.1)
      (λ stored held live p. subst IsSound (sym p.3) (compacted_sound world number stored held p.0 sound (is ∙ live) p.1))

  -- or truncates it
  truncates_sound : (number keep : ℕ) (clone : Clone) → clone_at world number ≡ clone → Truncates world number keep clone reply next → IsSound next
  truncates_sound number keep clone is =
      if_live (IsSound next) world clone reply next _ (λ answer state p. same_sound world next sound p.1)
      (λ stored held live p. subst IsSound (sym p.1) (truncated_sound world number stored held keep sound (is ∙ live)))

  -- a clone that is told to stop leads to a sound world
  stops_sound : (number : ℕ) (clone : Clone) → clone_at world number ≡ clone → Stops world number clone reply next → IsSound next
  stops_sound number clone is =
      if_live (IsSound next) world clone reply next _ (λ answer state p. same_sound world next sound p.1)
      (λ stored held live p. subst IsSound (sym p.1) (stopped_sound world number sound stored held (is ∙ live)))

  -- and so does one that is told to open
  opens_sound : (number : ℕ) (clone : Clone) → clone_at world number ≡ clone → Reopens world number clone reply next → IsSound next
  opens_sound number clone is =
      if_opens (IsSound next) world number clone reply next (λ answer state p. same_sound world next sound p.1)
      (λ empty told same. subst IsSound (sym same) (opened_empty_sound world number sound (is ∙ empty)))
      (λ stored down told same. subst IsSound (sym same) (opened_sound world number sound stored (is ∙ down)))

-- a `show` leaves the world as it was
pub lists_same : (world : World) (clone : Clone) (reply : Reply) (next : World) → Lists world clone reply next → next ≡ world
lists_same world clone reply next = if_live (next ≡ world) world clone reply next _ (λ answer state p. p.1) (λ stored held live p. p.2.1)

-- and so does a `query`
pub queries_same : (world : World) (read : ReadQuery) (clone : Clone) (reply : Reply) (next : World) → Queries world read clone reply next → next ≡ world
queries_same world read clone reply next = if_live (next ≡ world) world clone reply next _ (λ answer state p. p.1) (λ stored held live p. p.3)

-- and so does a `compare` at a live clone
compares_same : (world : World) (stored : Stored) (clone : Clone) (reply : Reply) (next : World) → ComparesWith world stored clone reply next → next ≡ world
compares_same world stored clone reply next = if_live (next ≡ world) world clone reply next _ (λ answer state p. p.1) (λ other held live p. p.1)

-- whatever the states of its clones are
pub weighs_same : (world : World) (clone other : Clone) (reply : Reply) (next : World) → Weighs world clone other reply next → next ≡ world
weighs_same world clone other reply next =
    if_live (next ≡ world) world clone reply next _ (λ answer state p. p.1) (λ stored held live. compares_same world stored other reply next)

-- a step of a sound world, by a plain command whose clones there are, leads to a sound world
pub plain_sound : (world : World) (command : Command) (reply : Reply) (next : World) → HasCloneNumbers command → IsSound world
    → PlainStep world command reply next → IsSound next
plain_sound world (Add number triple) reply next small sound p = planned_sound world next reply sound number (insertion_of triple) p
plain_sound world (Remove number triple) reply next small sound p = planned_sound world next reply sound number (deletion_of triple) p
plain_sound world (Update number plan) reply next small sound p = planned_sound world next reply sound number plan p
plain_sound world (Deliver message number) reply next small sound p = delivers_sound world next reply sound number (message_at world message) (place_of_message world message) p
plain_sound world (Show number) reply next small sound p = same_sound world next sound (lists_same world (clone_at world number) reply next p)
plain_sound world (Query number read) reply next small sound p = same_sound world next sound (queries_same world read (clone_at world number) reply next p)
plain_sound world (Join number) reply next small sound p = joins_sound world next reply sound number (clone_at world number) small refl p
plain_sound world (Ask number) reply next small sound p = wants_sound world next reply sound number (clone_at world number) refl p
plain_sound world (Compact number) reply next small sound p = compacts_sound world next reply sound number (clone_at world number) refl p
plain_sound world (Truncate number keep) reply next small sound p = truncates_sound world next reply sound number keep (clone_at world number) refl p
plain_sound world (Stop number) reply next small sound p = stops_sound world next reply sound number (clone_at world number) refl p
plain_sound world (Open number) reply next small sound p = opens_sound world next reply sound number (clone_at world number) refl p
plain_sound world (Compare number other) reply next small sound p =
    same_sound world next sound (weighs_same world (clone_at world number) (clone_at world other) reply next p)
plain_sound world (Crash call leave task) reply next small sound p = absurd p
