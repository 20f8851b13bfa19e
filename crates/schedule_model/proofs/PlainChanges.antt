-- What a step by a plain command changes: of the clones the command's own alone, neither the domain nor the properties, and of the history
-- nothing but that an operation may have joined it.
use Rattle.std.specs.Prelude.{◌≡◌, ◌≢◌, ℕ, List, [], ◌∷◌, ◌++◌, length, Option, Some, None, MatchOption}
use Rattle.std.proofs.Common.{refl, sym, ◌∙◌, ap, append-nil}
use Rattle.std.proofs.lemmas.List.{get_or-set_other, length-set}
use Rattle.tree_clock.specs.declared.dots.Range.{Range}
use Rattle.tree_clock.specs.Lists.{Has}
use Rattle.tree_clock.specs.Dot.{Knows}
use Rattle.mld_ops.specs.declared.tagged.Tagged.{Tagged}
use Rattle.mld_ops.specs.History.{Operation, IsInserted, IsNext, dot_at}
use Rattle.mld_ops.specs.Meaning.{IsMeaning}
use Rattle.schedule_model.specs.declared.Command.{Command}
use Rattle.schedule_model.specs.declared.Command.TheVariants.{Add, Remove, Update, Deliver, Show, Query, Compare, Join, Ask, Compact, Truncate, Stop, Open, Crash}
use Rattle.mld_ops.specs.Effect.{range_of}
use Rattle.mld_ops.specs.Effects.{EffectValue, operation_of}
use Rattle.jrql_ast.specs.declared.plans.UpdatePlan.{UpdatePlan}
use Rattle.jrql_ast.specs.Templates.{insertion_of, deletion_of}
use Rattle.mld_model.specs.Clone.{Clone, Absent, Asking, Down, Live, Stored, known_of, truncated_to}
use Rattle.mld_model.specs.World.{World, Message, RangeOf, Want, SnapshotOf, JoinAsk, JoinGive, message_at, clone_at, with_clone}
use Rattle.mld_model.specs.Reply.{Reply, NoMessage}
use Rattle.mld_model.specs.Sound.{IsSound}
use Rattle.mld_model.specs.CloneStep.{Answers, Makes, Updates, changes_nothing, breaks_single, makes_operation, holds_already, holds_too_many, holds_from_now, TakesRange, knows_already, accepts, holds_back, Asks, Joins, left_half, TakesAsk, asked_itself, is_too_deep, forks, joined_with, TakesLeaf, becomes_live, leaves_it, AskerTakes, LiveTakes, Takes, Stops, Reopens, TakesWant, lacks_nothing, sends_ranges, sends_snapshot, TakesSnapshot, knows_all, merges, Wants, Compacts, Truncates}
use Rattle.schedule_model.specs.Updating.{UpdatesByPlan}
use Rattle.schedule_model.proofs.PlanLaws.{plan_present, if_planned}
use Rattle.mld_model.proofs.StateLaws.{by_state, if_live, if_opens}
use Rattle.mld_model.proofs.SoundLaws.{made_is_next, live_sound}
use Rattle.schedule_model.specs.Step.{number_of_clone}
use Rattle.schedule_model.specs.PlainStep.{PlainStep}
use Rattle.schedule_model.proofs.PlainSound.{lists_same, queries_same, weighs_same}

-- a history after a step: it is the same, or an operation has joined it that may come next
pub data Grows (history after : List Operation) : Type 0 where
  stays : after ≡ history → Grows history after
  grows_by : (operation : Operation) → IsNext history operation → after ≡ operation ∷ history → Grows history after

-- what a step at the clone of the number changes
pub record Changes (world next : World) (number : ℕ) : Type 0 where
  pub domain : next.domain ≡ world.domain
  pub properties : next.properties ≡ world.properties
  pub others : (other : ℕ) → other ≢ number → clone_at next other ≡ clone_at world other
  pub grows : IsSound world → Grows world.history next.history
  -- as many clones stand in the list
  pub count : length next.clones ≡ length world.clones
  -- what was sent stays, and more may come behind it
  pub more : List Message
  pub said : next.messages ≡ world.messages ++ more

-- the clone of the number makes a step from the world to the next one
module _ (world next : World) (number : ℕ) where
  -- a world that is left as it was
  same_changes : next ≡ world → Changes world next number
  same_changes same = record {
    domain = ap (λ (w : World). w.domain) same;
    properties = ap (λ (w : World). w.properties) same;
    others = λ other differs. ap (λ (w : World). clone_at w other) same;
    grows = λ sound. stays (ap (λ (w : World). w.history) same);
    count = ap (λ (w : World). length w.clones) same;
    more = [];
    said = ap (λ (w : World). w.messages) same ∙ sym (append-nil world.messages);
  }

  -- one clone is in another state, and more messages may have been sent
  clone_changes : (now : Clone) (messages more : List Message) → messages ≡ world.messages ++ more
      → next ≡ record (with_clone world number now) { messages = messages } → Changes world next number
  clone_changes now messages more told same = record {
    domain = ap (λ (w : World). w.domain) same;
    properties = ap (λ (w : World). w.properties) same;
    others = λ other differs. ap (λ (w : World). clone_at w other) same ∙ get_or-set_other world.clones number other now Absent differs;
    grows = λ sound. stays (ap (λ (w : World). w.history) same);
    count = ap (λ (w : World). length w.clones) same ∙ length-set world.clones number now;
    more = more;
    said = ap (λ (w : World). w.messages) same ∙ told;
  }

  -- one clone is in another state, and nothing was sent
  pub turn_changes : (now : Clone) → next ≡ with_clone world number now → Changes world next number
  turn_changes now same = clone_changes now world.messages [] (sym (append-nil world.messages)) same

  -- more messages were sent
  told_changes : (more : List Message) → next ≡ record world { messages = world.messages ++ more } → Changes world next number
  told_changes more same = record {
    domain = ap (λ (w : World). w.domain) same;
    properties = ap (λ (w : World). w.properties) same;
    others = λ other differs. ap (λ (w : World). clone_at w other) same;
    grows = λ sound. stays (ap (λ (w : World). w.history) same);
    count = ap (λ (w : World). length w.clones) same;
    more = more;
    said = ap (λ (w : World). w.messages) same;
  }

  -- ---- local changes

  -- an operation is made, whose deletes are pairs that the clone knows
  makes_changes : (stored : Stored) (held : List Range) (effect : EffectValue) (reply : Reply) → clone_at world number ≡ Live stored held
      → ((pair : Tagged) → Has effect.deletes pair → Knows (known_of stored) pair.dot) → ((pair : Tagged) → Has effect.deletes pair → IsInserted world.history pair)
      → Makes world number stored held effect reply next → Changes world next number
  makes_changes stored held effect reply is covered inserted p =
      let operation : Operation = operation_of (dot_at stored.path p.tick) (known_of stored) effect in
      record {
        domain = ap (λ (w : World). w.domain) p.changes;
        properties = ap (λ (w : World). w.properties) p.changes;
        others = λ other differs. ap (λ (w : World). clone_at w other) p.changes ∙ get_or-set_other world.clones number other _ Absent differs;
        grows = λ sound. grows_by operation
            (made_is_next world.history stored p.tick effect.deletes effect.inserts (live_sound world number stored held sound is) p.is_next covered inserted)
            (ap (λ (w : World). w.history) p.changes);
        count = ap (λ (w : World). length w.clones) p.changes ∙ length-set world.clones number _;
        more = RangeOf (range_of (dot_at stored.path p.tick)) ∷ [];
        said = ap (λ (w : World). w.messages) p.changes;
      }

  -- an update that deletes pairs of the clone
  updates_change : (stored : Stored) (held : List Range) (pairs : List Tagged) (effect : EffectValue) (reply : Reply) → clone_at world number ≡ Live stored held
      → IsMeaning world.history (known_of stored) pairs → ((pair : Tagged) → Has effect.deletes pair → Has pairs pair)
      → Updates world number stored held pairs effect reply next → Changes world next number
  updates_change stored held pairs effect reply is meant among (changes_nothing none p) = same_changes p.1
  updates_change stored held pairs effect reply is meant among (breaks_single some place first p) = same_changes p.1
  updates_change stored held pairs effect reply is meant among (makes_operation some fits p) =
      makes_changes stored held effect reply is (λ pair h. (meant.sound pair (among pair h)).covered) (λ pair h. (meant.sound pair (among pair h)).inserted) p

  planned_change : (plan : UpdatePlan) (reply : Reply) → UpdatesByPlan world number plan (clone_at world number) reply next → Changes world next number
  planned_change plan reply =
      if_planned (Changes world next number) world number plan (clone_at world number) reply next (λ answer state p. same_changes p.1) (λ p. same_changes p.1)
      (λ stored held pairs tick effect live meant is_next has p. updates_change stored held pairs effect reply live meant
      (plan_present world.domain plan (dot_at stored.path tick) pairs effect has) p)

  -- ---- messages

  -- a range comes to a live clone
  receives_change : (stored : Stored) (held : List Range) (range : Range) (reply : Reply) → TakesRange world number stored held range reply next → Changes world next number
  receives_change stored held range reply (knows_already known p) = same_changes p.1
  receives_change stored held range reply (accepts p) = turn_changes (Live p.after p.left) p.changes
  receives_change stored held range reply (holds_back back (holds_already has p)) = same_changes p.1
  receives_change stored held range reply (holds_back back (holds_too_many lacks full p)) = same_changes p.1
  receives_change stored held range reply (holds_back back (holds_from_now lacks few told same)) =
      turn_changes (Live stored (held ++ range ∷ [])) same

  -- a live clone is asked for a leaf
  gives_change : (stored : Stored) (held : List Range) (id : ℕ) (reply : Reply) → TakesAsk world number stored held id reply next → Changes world next number
  gives_change stored held id reply (asked_itself own p) = same_changes p.1
  gives_change stored held id reply (is_too_deep differs deep p) = same_changes p.1
  gives_change stored held id reply (forks differs room told same) = clone_changes (Live (left_half stored) held) _ _ refl same

  -- a live clone is asked for what another lacks
  wants_taken_change : (dots : List Range) (stored : Stored) (reply : Reply) → TakesWant world dots stored reply next → Changes world next number
  wants_taken_change dots stored reply (lacks_nothing known none p) = same_changes p.1
  wants_taken_change dots stored reply (sends_ranges ranges known drops some told same) = told_changes _ same
  wants_taken_change dots stored reply (sends_snapshot behind told same) = told_changes _ same

  -- a snapshot comes to one
  takes_snapshot_change : (stored : Stored) (held dots : List Range) (reply : Reply) → TakesSnapshot world number stored held dots reply next → Changes world next number
  takes_snapshot_change stored held dots reply (knows_all known p) = same_changes p.1
  takes_snapshot_change stored held dots reply (merges p) = turn_changes (Live p.after p.left) p.changes

  -- a leaf comes to a clone that asks
  adopts_change : (id : ℕ) (path : List ℕ) (dots : List Range) (reply : Reply) → TakesLeaf world number id path dots reply next → Changes world next number
  adopts_change id path dots reply (becomes_live own told same) = turn_changes (Live (joined_with path dots) []) same
  adopts_change id path dots reply (leaves_it differs p) = same_changes p.1

  -- whatever comes to a clone that asks
  asker_takes_change : (message : Message) (reply : Reply) → AskerTakes world number message reply next → Changes world next number
  asker_takes_change (JoinGive id path dots) reply p = adopts_change id path dots reply p
  asker_takes_change message reply p = same_changes p.1

  -- to a live clone
  live_takes_change : (message : Message) (stored : Stored) (held : List Range) (reply : Reply) → LiveTakes world number message stored held reply next
      → Changes world next number
  live_takes_change (RangeOf range) stored held reply p = receives_change stored held range reply p
  live_takes_change (Want dots) stored held reply p = wants_taken_change dots stored reply p
  live_takes_change (JoinAsk id) stored held reply p = gives_change stored held id reply p
  live_takes_change (SnapshotOf dots) stored held reply p = takes_snapshot_change stored held dots reply p
  live_takes_change (JoinGive id path dots) stored held reply p = same_changes p.1

  -- to any clone
  takes_change : (message : Message) (clone : Clone) (reply : Reply) → Takes world number message clone reply next → Changes world next number
  takes_change message clone reply =
      by_state (Changes world next number) clone _ _ _ _ (λ is p. same_changes p.1) (λ is. asker_takes_change message reply)
      (λ p. same_changes p.1) (λ stored held is. live_takes_change message stored held reply)

  -- a `deliver`
  delivers_change : (sent : Option Message) (reply : Reply)
      → MatchOption sent (Answers world NoMessage reply next) (λ message. Takes world number message (clone_at world number) reply next) → Changes world next number
  delivers_change None reply p = same_changes p.1
  delivers_change (Some message) reply p = takes_change message (clone_at world number) reply p

  -- ---- states

  -- the question for a leaf
  asks_change : (reply : Reply) → Asks world number reply next → Changes world next number
  asks_change reply p = clone_changes Asking _ (JoinAsk number ∷ []) refl p.1

  -- a `join`
  joins_change : (clone : Clone) (reply : Reply) → Joins world number clone reply next → Changes world next number
  joins_change clone reply =
      by_state (Changes world next number) clone _ _ _ _ (λ is. asks_change reply) (λ is. asks_change reply) (λ p. same_changes p.1) (λ stored held is p. same_changes p.1)

  -- an `ask`
  wants_change : (clone : Clone) (reply : Reply) → Wants world clone reply next → Changes world next number
  wants_change clone reply =
      if_live (Changes world next number) world clone reply next _ (λ answer state p. same_changes p.1) (λ stored held live p. told_changes _ p.1)

  -- a `compact`
  compacts_change : (clone : Clone) (reply : Reply) → Compacts world number clone reply next → Changes world next number
  compacts_change clone reply =
      if_live (Changes world next number) world clone reply next _ (λ answer state p. same_changes p.1)
      (λ stored held live p. turn_changes (Live (record stored { journal = p.0 }) held) p.3)

  -- a `truncate`
  truncates_change : (keep : ℕ) (clone : Clone) (reply : Reply) → Truncates world number keep clone reply next → Changes world next number
  truncates_change keep clone reply =
      if_live (Changes world next number) world clone reply next _ (λ answer state p. same_changes p.1)
      (λ stored held live p. turn_changes (Live (truncated_to stored keep) held) p.1)

  -- a `stop`
  stops_change : (clone : Clone) (reply : Reply) → Stops world number clone reply next → Changes world next number
  stops_change clone reply =
      if_live (Changes world next number) world clone reply next _ (λ answer state p. same_changes p.1)
      (λ stored held live p. turn_changes (Down stored) p.1)

  -- an `open`
  opens_change : (clone : Clone) (reply : Reply) → Reopens world number clone reply next → Changes world next number
  opens_change clone reply =
      if_opens (Changes world next number) world number clone reply next (λ answer state p. same_changes p.1)
      (λ empty told same. turn_changes Asking same)
      (λ stored down told same. turn_changes (Live stored []) same)

-- each step by a plain command
pub plain_changes : (world : World) (command : Command) (reply : Reply) (next : World) → PlainStep world command reply next → Changes world next (number_of_clone command)
plain_changes world (Add number triple) reply next p = planned_change world next number (insertion_of triple) reply p
plain_changes world (Remove number triple) reply next p = planned_change world next number (deletion_of triple) reply p
plain_changes world (Update number plan) reply next p = planned_change world next number plan reply p
plain_changes world (Deliver message number) reply next p = delivers_change world next number (message_at world message) reply p
plain_changes world (Show number) reply next p = same_changes world next number (lists_same world (clone_at world number) reply next p)
plain_changes world (Query number read) reply next p = same_changes world next number (queries_same world read (clone_at world number) reply next p)
plain_changes world (Join number) reply next p = joins_change world next number (clone_at world number) reply p
plain_changes world (Ask number) reply next p = wants_change world next number (clone_at world number) reply p
plain_changes world (Compact number) reply next p = compacts_change world next number (clone_at world number) reply p
plain_changes world (Truncate number keep) reply next p = truncates_change world next number keep (clone_at world number) reply p
plain_changes world (Stop number) reply next p = stops_change world next number (clone_at world number) reply p
plain_changes world (Open number) reply next p = opens_change world next number (clone_at world number) reply p
plain_changes world (Compare number other) reply next p =
    same_changes world next number (weighs_same world (clone_at world number) (clone_at world other) reply next p)
plain_changes world (Crash call leave task) reply next p = absurd p
