-- Where a front of the durable steps of a plain command stands, the world stands as one that is sound and remembers what was remembered.
use Rattle.std.specs.Prelude.{◌≡◌, ℕ, ◌<◌, List, [], ◌∷◌, Option, Some, None, MatchOption, slice_get, map, length}
use Rattle.std.proofs.Common.{refl, sym, ◌∙◌, ap, subst, inl, inr}
use Rattle.tree_clock.specs.declared.dots.Range.{Range}
use Rattle.tree_clock.specs.Lists.{Has}
use Rattle.mld_ops.specs.History.{Operation}
use Rattle.schedule_model.specs.declared.Command.{Command}
use Rattle.schedule_model.specs.declared.Command.TheVariants.{Add, Remove, Update, Deliver, Show, Query, Compare, Join, Ask, Compact, Truncate, Stop, Open, Crash}
use Rattle.mld_model.specs.Clone.{Clone, Asking, Live, Stored, with_range, merged_with}
use Rattle.mld_model.specs.World.{World, Message, RangeOf, Want, SnapshotOf, JoinAsk, JoinGive, message_at, clone_at, with_clone}
use Rattle.mld_model.specs.Reply.{Reply, Did, Answer, Joined, NoMessage, Ignored, IsAbsent, IsDown}
use Rattle.mld_model.specs.CloneStep.{Answers, Accepts, holds_already, holds_too_many, holds_from_now, TakesRange, knows_already, accepts, holds_back, AskerTakes, LiveTakes, Takes, Merges, TakesSnapshot, knows_all, merges}
use Rattle.mld_model.specs.Durable.{DurableStep, AppendsMade, AppendsTaken, AppendsFork, Creates, Swaps}
use Rattle.mld_model.specs.Sound.{IsSound}
use Rattle.mld_model.proofs.StateLaws.{by_state}
use Rattle.mld_model.proofs.KnownLaws.{known_with-old}
use Rattle.mld_model.proofs.SoundLaws.{taker_stays_sound, live_sound}
use Rattle.mld_model.proofs.MergedLaws.{merged_clone}
use Rattle.mld_model.proofs.JoiningLaws.{stands_at, place_of_message}
use Rattle.mld_model.proofs.FrontLaws.{IsFrontOf, front_of_none, front_of_one, StandsBetween, IsSoundHolder, stands_more, stands_released}
use Rattle.mld_model.proofs.CrashedLaws.{StandsAs, stands_as_it_was, stands_as_between, between_sound}
use Rattle.schedule_model.specs.Answers.{Remembers}
use Rattle.schedule_model.specs.PlainStep.{PlainStep}
use Rattle.schedule_model.specs.PlainDurable.{SwapsDurably, keeps_the_same, swaps_it, MakesDurably, taking_steps, giving_steps, joining_steps, merging_steps, message_steps, PlainDurableSteps}
use Rattle.schedule_model.specs.Step.{HasCloneNumbers, number_of_clone}
use Rattle.schedule_model.proofs.PlainAnswers.{grown_remembers, merged_knows, plain_remembers}
use Rattle.schedule_model.proofs.PlainSound.{plain_sound}
use Rattle.schedule_model.proofs.PlainChanges.{Grows, stays, Changes, plain_changes}
use Rattle.schedule_model.proofs.DurableLaws.{Leads, PlainlyLeads, plain_leads, plain_list_once}

-- ---- which fronts there are

-- a front of the durable steps at the clone of the number has none of them, or all, or some of those by which a live clone takes ranges
data IsFrontAt (world : World) (number : ℕ) (steps front : List DurableStep) : Type 0 where
  has_none : front ≡ [] → IsFrontAt world number steps front
  has_all : front ≡ steps → IsFrontAt world number steps front
  has_some : (stored : Stored) (held : List Range) → clone_at world number ≡ Live stored held → StandsBetween (IsSound world) world.history stored front
      → IsFrontAt world number steps front

-- steps of which there are none, or one
module _ (world : World) (number : ℕ) (steps front : List DurableStep) (is : IsFrontOf front steps) where
  of_none : steps ≡ [] → IsFrontAt world number steps front
  of_none none = has_none (front_of_none front (subst (IsFrontOf front) none is))

  of_one : (step : DurableStep) → steps ≡ step ∷ [] → IsFrontAt world number steps front
  of_one step one = elim (front_of_one step front (subst (IsFrontOf front) one is)) [
    | inl none ↦ has_none none
    | inr all ↦ has_all (all ∙ sym one)
  ]

  of_made : (reply : Reply) (next : World) → MakesDurably world reply next steps → IsFrontAt world number steps front
  of_made (Did dot message) next p = of_one (AppendsMade p.operation) p.one
  of_made reply next p = of_none p

  of_swap : (next : World) → SwapsDurably world next number steps → IsFrontAt world number steps front
  of_swap next (keeps_the_same same none) = of_none none
  of_swap next (swaps_it stored kept differs one) = of_one (Swaps stored) one

  of_given : (reply : Reply) → steps ≡ giving_steps reply → IsFrontAt world number steps front
  of_given (Answer numbers) one = of_one AppendsFork one
  of_given reply none = of_none none

  of_joined : (path : List ℕ) (dots : List Range) (reply : Reply) → steps ≡ joining_steps path dots reply → IsFrontAt world number steps front
  of_joined path dots (Joined leaf) one = of_one (Creates (record { path = path; base = dots; journal = [] })) one
  of_joined path dots reply none = of_none none

  -- a live clone takes a range
  of_taken : (stored : Stored) (held : List Range) (range : Range) (reply : Reply) (next : World) → clone_at world number ≡ Live stored held
      → Has world.messages (RangeOf range) → Accepts world number stored held range reply next → steps ≡ taking_steps reply → IsFrontAt world number steps front
  of_taken stored held range reply next live sent p are =
      let all : IsFrontOf front (AppendsTaken range ∷ map (λ range. AppendsTaken range) p.taken) =
      subst (IsFrontOf front) (are ∙ ap taking_steps p.replies) is in
      taken_front front all
    where
      taken_front : (front : List DurableStep) → IsFrontOf front (AppendsTaken range ∷ map (λ range. AppendsTaken range) p.taken) → IsFrontAt world number steps front
      taken_front [] all = has_none refl
      taken_front (step ∷ front) all =
          let same : step ≡ AppendsTaken range = cc (all.1) in
          subst (λ (s : DurableStep). IsFrontAt world number steps (s ∷ front)) (sym same)
          (has_some stored held live
          (stands_more (IsSoundHolder world.history (with_range stored range) held) (IsSound world) world.history stored (with_range stored range)
          (AppendsTaken range) front refl refl refl (known_with-old stored range)
          (λ sound. record {
            lawful = sound.lawful;
            sound = taker_stays_sound world.history stored range sound.lawful (sound.messages (RangeOf range) sent) p.ready (live_sound world number stored held sound live);
            done = sound.held number stored held live;
          })
          (stands_released world.history (with_range stored range) held p.taken p.after p.left front p.releases (all.0, cc (all.1)))))

  -- a range comes to one
  of_range : (stored : Stored) (held : List Range) (range : Range) (reply : Reply) (next : World) → clone_at world number ≡ Live stored held
      → Has world.messages (RangeOf range) → TakesRange world number stored held range reply next → steps ≡ taking_steps reply → IsFrontAt world number steps front
  of_range stored held range reply next live sent (knows_already known p) are = of_none (are ∙ ap taking_steps p.0)
  of_range stored held range reply next live sent (accepts p) are = of_taken stored held range reply next live sent p are
  of_range stored held range reply next live sent (holds_back back (holds_already has p)) are = of_none (are ∙ ap taking_steps p.0)
  of_range stored held range reply next live sent (holds_back back (holds_too_many lacks full p)) are = of_none (are ∙ ap taking_steps p.0)
  of_range stored held range reply next live sent (holds_back back (holds_from_now lacks few told same)) are = of_none (are ∙ ap taking_steps told)

  -- a live clone merges a snapshot
  of_merged : (stored : Stored) (held dots : List Range) (reply : Reply) (next : World) → clone_at world number ≡ Live stored held
      → Has world.messages (SnapshotOf dots) → Merges world number stored held dots reply next → steps ≡ merging_steps (Live stored held) dots reply
      → IsFrontAt world number steps front
  of_merged stored held dots reply next live sent p are =
      let all : IsFrontOf front (Swaps (merged_with stored dots) ∷ map (λ range. AppendsTaken range) p.taken) =
      subst (IsFrontOf front) (are ∙ ap (merging_steps (Live stored held) dots) p.replies) is in
      merged_front front all
    where
      merged_front : (front : List DurableStep) → IsFrontOf front (Swaps (merged_with stored dots) ∷ map (λ range. AppendsTaken range) p.taken)
          → IsFrontAt world number steps front
      merged_front [] all = has_none refl
      merged_front (step ∷ front) all =
          let same : step ≡ Swaps (merged_with stored dots) = cc (all.1) in
          subst (λ (s : DurableStep). IsFrontAt world number steps (s ∷ front)) (sym same)
          (has_some stored held live
          (stands_more (IsSoundHolder world.history (merged_with stored dots) held) (IsSound world) world.history stored (merged_with stored dots)
          (Swaps (merged_with stored dots)) front refl refl refl (merged_knows stored dots)
          (λ sound. record {
            lawful = sound.lawful;
            sound = merged_clone world.history stored dots (sound.messages (SnapshotOf dots) sent) (live_sound world number stored held sound live);
            done = sound.held number stored held live;
          })
          (stands_released world.history (merged_with stored dots) held p.taken p.after p.left front p.releases (all.0, cc (all.1)))))

  -- a snapshot comes to one
  of_snapshot : (stored : Stored) (held dots : List Range) (reply : Reply) (next : World) → clone_at world number ≡ Live stored held
      → Has world.messages (SnapshotOf dots) → TakesSnapshot world number stored held dots reply next → steps ≡ merging_steps (Live stored held) dots reply
      → IsFrontAt world number steps front
  of_snapshot stored held dots reply next live sent (knows_all known p) are = of_none (are ∙ ap (merging_steps (Live stored held) dots) p.0)
  of_snapshot stored held dots reply next live sent (merges p) are = of_merged stored held dots reply next live sent p are

  -- a message comes to a live clone
  of_live : (message : Message) (stored : Stored) (held : List Range) (reply : Reply) (next : World) → clone_at world number ≡ Live stored held
      → Has world.messages message → LiveTakes world number message stored held reply next → steps ≡ message_steps (Live stored held) message reply
      → IsFrontAt world number steps front
  of_live (RangeOf range) stored held reply next live sent p are = of_range stored held range reply next live sent p are
  of_live (Want dots) stored held reply next live sent p are = of_none are
  of_live (JoinAsk id) stored held reply next live sent p are = of_given reply are
  of_live (SnapshotOf dots) stored held reply next live sent p are = of_snapshot stored held dots reply next live sent p are
  of_live (JoinGive id path dots) stored held reply next live sent p are = of_joined path dots reply are

  -- a message that changes nothing
  of_answer : (clone : Clone) (message : Message) (answer reply : Reply) (next : World) → message_steps clone message answer ≡ [] → Answers world answer reply next
      → steps ≡ message_steps clone message reply → IsFrontAt world number steps front
  of_answer clone message answer reply next none p are = of_none (are ∙ ap (message_steps clone message) p.0 ∙ none)

  -- to a clone that asks
  of_asker : (message : Message) (reply : Reply) (next : World) → AskerTakes world number message reply next → steps ≡ message_steps Asking message reply
      → IsFrontAt world number steps front
  of_asker (JoinGive id path dots) reply next p are = of_joined path dots reply are
  of_asker (RangeOf range) reply next p are = of_answer Asking (RangeOf range) Ignored reply next refl p are
  of_asker (Want dots) reply next p are = of_none are
  of_asker (JoinAsk id) reply next p are = of_answer Asking (JoinAsk id) Ignored reply next refl p are
  of_asker (SnapshotOf dots) reply next p are = of_answer Asking (SnapshotOf dots) Ignored reply next refl p are

  -- to any clone
  of_message : (message : Message) (clone : Clone) (reply : Reply) (next : World) → clone_at world number ≡ clone → Has world.messages message
      → Takes world number message clone reply next → steps ≡ message_steps clone message reply → IsFrontAt world number steps front
  of_message message clone reply next same sent p are =
      by_state (steps ≡ message_steps clone message reply → IsFrontAt world number steps front) clone _ _ _ _
      (λ state p. of_answer clone message IsAbsent reply next (quiet_absent clone message) p)
      (λ asks p are. of_asker message reply next p (subst (λ (c : Clone). steps ≡ message_steps c message reply) asks are))
      (λ p. of_answer clone message IsDown reply next (quiet_down clone message) p)
      (λ stored held live p are. of_live message stored held reply next (same ∙ live) sent p (subst (λ (c : Clone). steps ≡ message_steps c message reply) live are))
      p are
    where
      quiet_absent : (clone : Clone) (message : Message) → message_steps clone message IsAbsent ≡ []
      quiet_absent (Live stored held) (SnapshotOf dots) = refl
      quiet_absent clone (SnapshotOf dots) = refl
      quiet_absent clone (RangeOf range) = refl
      quiet_absent clone (Want dots) = refl
      quiet_absent clone (JoinAsk id) = refl
      quiet_absent clone (JoinGive id path dots) = refl

      quiet_down : (clone : Clone) (message : Message) → message_steps clone message IsDown ≡ []
      quiet_down (Live stored held) (SnapshotOf dots) = refl
      quiet_down clone (SnapshotOf dots) = refl
      quiet_down clone (RangeOf range) = refl
      quiet_down clone (Want dots) = refl
      quiet_down clone (JoinAsk id) = refl
      quiet_down clone (JoinGive id path dots) = refl

  of_delivery : (sent : Option Message) (reply : Reply) (next : World)
      → ((message : Message) → sent ≡ Some message → (place : ℕ) × (slice_get world.messages place ≡ Some message))
      → MatchOption sent (Answers world NoMessage reply next) (λ message. Takes world number message (clone_at world number) reply next)
      → MatchOption sent (steps ≡ []) (λ message. steps ≡ message_steps (clone_at world number) message reply) → IsFrontAt world number steps front
  of_delivery None reply next has p are = of_none are
  of_delivery (Some message) reply next has p are =
      let place = has message refl in
      of_message message (clone_at world number) reply next refl (stands_at world.messages place.0 message place.1) p are

-- a front of the durable steps of a plain command
is_front_at : (world : World) (command : Command) (reply : Reply) (next : World) (steps front : List DurableStep) → PlainStep world command reply next
    → PlainDurableSteps world command reply next steps → IsFrontOf front steps → IsFrontAt world (number_of_clone command) steps front
is_front_at world (Add number triple) reply next steps front p are is = of_made world number steps front is reply next are
is_front_at world (Remove number triple) reply next steps front p are is = of_made world number steps front is reply next are
is_front_at world (Update number plan) reply next steps front p are is = of_made world number steps front is reply next are
is_front_at world (Deliver message number) reply next steps front p are is =
    of_delivery world number steps front is (message_at world message) reply next (place_of_message world message) p are
is_front_at world (Show number) reply next steps front p are is = of_none world number steps front is are
is_front_at world (Query number read) reply next steps front p are is = of_none world number steps front is are
is_front_at world (Join number) reply next steps front p are is = of_none world number steps front is are
is_front_at world (Ask number) reply next steps front p are is = of_none world number steps front is are
is_front_at world (Compact number) reply next steps front p are is = of_swap world number steps front is next are
is_front_at world (Truncate number keep) reply next steps front p are is = of_swap world number steps front is next are
is_front_at world (Stop number) reply next steps front p are is = of_none world number steps front is are
is_front_at world (Open number) reply next steps front p are is = of_none world number steps front is are
is_front_at world (Compare number other) reply next steps front p are is = of_none world number steps front is are
is_front_at world (Crash call leave task) reply next steps front p are is = absurd p

-- ---- as which world it stands

-- as one that is sound where the world was, remembers what was remembered, and whose history is that of the world, or has one operation more
pub record FrontStands (world : World) (number : ℕ) (front : List DurableStep) : Type 0 where
  pub like : World
  pub stands : StandsAs world like number front
  pub sound : IsSound world → IsSound like
  pub remembers : (other : ℕ) (operation : Operation) → Remembers world other operation → Remembers like other operation
  pub grows : IsSound world → Grows world.history like.history

none_stands : (world : World) (number : ℕ) → FrontStands world number []
none_stands world number = record {
  like = world;
  stands = stands_as_it_was world number;
  sound = λ sound. sound;
  remembers = λ other operation remembers. remembers;
  grows = λ sound. stays refl;
}

-- all of a command
all_stand : (world : World) (command : Command) (reply : Reply) (next : World) (steps : List DurableStep) → (IsSound world → HasCloneNumbers command)
    → number_of_clone command < length world.clones → PlainStep world command reply next → PlainDurableSteps world command reply next steps → FrontStands world (number_of_clone command) steps
all_stand world command reply next steps numbers inside p are =
    let number : ℕ = number_of_clone command in
    let found : PlainlyLeads world command reply next = plain_leads world command reply next inside p in
    let leads : Leads world number steps next =
    subst (λ (s : List DurableStep). Leads world number s next) (plain_list_once world command reply next found.0 steps found.1 are) found.2 in
    let changes : Changes world next number = plain_changes world command reply next p in
    record {
      like = next;
      stands = record {
        history = sym leads.made;
        kept = sym leads.kept;
        others = changes.others;
        count = changes.count;
        more = changes.more;
        said = changes.said;
      };
      sound = λ sound. plain_sound world command reply next (numbers sound) sound p;
      remembers = λ other operation remembers. plain_remembers world other operation command reply next remembers p;
      grows = changes.grows;
    }

-- some of the ranges that are taken
some_stand : (world : World) (number : ℕ) (stored : Stored) (held : List Range) (front : List DurableStep) → number < length world.clones
    → clone_at world number ≡ Live stored held → StandsBetween (IsSound world) world.history stored front → FrontStands world number front
some_stand world number stored held front inside live p = record {
  like = with_clone world number (Live p.between []);
  stands = stands_as_between world number stored held live inside front p;
  sound = between_sound world number stored held live inside front p;
  remembers = λ other operation remembers. grown_remembers world (with_clone world number (Live p.between [])) other operation remembers number stored p.between held []
      live refl p.knows (λ operation stands. stands);
  grows = λ sound. stays refl;
}

-- so each front of the durable steps of a plain command stands as such a world
pub front_stands : (world : World) (command : Command) (reply : Reply) (next : World) (steps front : List DurableStep)
    → (IsSound world → HasCloneNumbers command) → number_of_clone command < length world.clones → PlainStep world command reply next
    → PlainDurableSteps world command reply next steps → IsFrontOf front steps → FrontStands world (number_of_clone command) front
front_stands world command reply next steps front numbers inside p are is = elim (is_front_at world command reply next steps front p are is) [
  | has_none none ↦ subst (FrontStands world (number_of_clone command)) (sym none) (none_stands world (number_of_clone command))
  | has_all all ↦ subst (FrontStands world (number_of_clone command)) (sym all) (all_stand world command reply next steps numbers inside p are)
  | has_some stored held live between ↦ some_stand world (number_of_clone command) stored held front inside live between
]
