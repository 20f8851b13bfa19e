-- A running world that takes a step stands for what the model's step makes.
use Rattle.std.proofs.Common.{◌≡◌, ℕ, zero, suc, ◌+◌, ◌<◌, ◌≤◌, List, [], ◌∷◌, ◌++◌, ◌↔◌, inl, inr, refl, sym, ◌∙◌, ap, arith, subst, length, get_or, set, Option, Some, None, map, ltb, append-nil}
use Rattle.std.specs.Prelude.{slice_get, MatchOption}
use Rattle.std.specs.List.{range_with_len}
use Rattle.std.proofs.lemmas.Bool.{cases_lt, cases_Bool}
use Rattle.std.proofs.lemmas.List.{length-set}
use Rattle.std.proofs.lemmas.Option.{slice_get_within, get_or_from_slice_get}
use Rattle.std.proofs.lemmas.List.FromFn.{get_or-map-range_with_len, length-map-range_with_len}
use Rattle.tree_clock.specs.declared.dots.Dot.{Dot}
use Rattle.tree_clock.specs.declared.dots.Range.{Range}
use Rattle.tree_clock.specs.Lists.{Has}
use Rattle.tree_clock.specs.Dot.{Knows}
use Rattle.tree_clock.specs.Clock.{ticks_of}
use Rattle.mld_ops.specs.declared.tagged.Tagged.{Tagged}
use Rattle.mld_ops.specs.Messages.{MessageValue, CarriesEntry}
use Rattle.mld_ops.specs.Entry.{EntryValue}
use Rattle.mld_ops.specs.History.{Operation, IsDone, dot_at}
use Rattle.mld_ops.specs.Effects.{EffectValue, ChangesNothing}
use Rattle.mld_ops.specs.Breaches.{IsFirstBreach, BreaksNone}
use Rattle.mld_ops.proofs.MeaningLaws.{one_meaning}
use Rattle.mld_ops.specs.Ready.{IsKnownEntry}
use Rattle.schedule_model.specs.declared.Command.{Command}
use Rattle.schedule_model.specs.declared.Command.TheVariants.{Add, Remove, Update, Deliver, Show, Query, Compare}
use Rattle.mld_model.specs.declared.CloneState.TheVariants as states
use Rattle.mld_model.specs.Clone.{Clone, Absent, Asking, Empty, Down, Live, Stored, known_of, AreKnownTo}
use Rattle.mld_ops.specs.Held.{held_limit}
use Rattle.mld_model.specs.World.{World, Message, message_at, clone_at, with_clone, founded, founded_clone, clone_count}
use Rattle.mld_ops.specs.Present.{present}
use Rattle.jrql_ast.specs.declared.plans.UpdatePlan.{UpdatePlan}
use Rattle.jrql_ast.specs.Templates.{insertion_of, deletion_of}
use Rattle.jrql_eval.specs.PlanEffects.{IsPlanEffect, HasTooMany}
use Rattle.jrql_update.specs.jrql_patterns.declared.queries.ReadQuery.{ReadQuery}
use Rattle.schedule_model.specs.Updating.{UpdatesByPlan}
use Rattle.schedule_model.specs.Querying.{AnswersQuery}
use Rattle.schedule_model.specs.Step.{Step, number_of_clone}
use Rattle.mld_model.specs.CloneStep.{Answers, IfLive, Updates, is_too_large, has_effect, UpdatesAs, Takes, Compares}
use Rattle.mld_model.proofs.StateLaws.{live_does}
use Rattle.mld_model.specs.Reply.{Reply, Did, NoOperation, Single, TooMany, Took, Held, HeldFull, AlreadyKnown, Shows, NoMessage}
use Rattle.mld_model.specs.Sound.{IsSound}
use Rattle.mld_model.specs.Local.{LocalClone, next_dot, LocallyMakes, LocallyAccepts, MustBeHeld, IsFullFor, IsForeign}
use Rattle.mld_ops.specs.Held.{ranges_of}
use Rattle.mld_model.specs.StandsFor.{RunningClone, RunningWorld, LocalStandsFor, CloneStandsFor, MessageStandsFor, StandsFor, founded_local, founded_running}
use Rattle.mld_model.proofs.SoundLaws.{live_sound}
use Rattle.mld_model.proofs.LocalLaws.{kept_by, next_tick_of}
use Rattle.mld_model.proofs.LocalSteps.{none_foreign}
use Rattle.mld_model.proofs.PairsLaws.{no_pair_at}
use Rattle.mld_model.proofs.StandsForLaws.{LiveAt, live_at, clone_stands_as, clones_stand_set, set_as_it_is}
use Rattle.schedule_model.specs.WorldStep.{Follows, IsUpdateOf, IsMissingReply, IsAwayReply}
use Rattle.mld_model.specs.LocalStep.{Update as UpdateTask, LocalStep, updates_nothing, update_breaks, updates, knows_entry, accepts_entry, holds_entry, is_full}
use Rattle.schedule_model.proofs.PlanLaws.{plan_present}
use Rattle.schedule_model.proofs.FollowsLaws.{SentAs, sent_as, local_follows, taking_stays, taking_turns}
use Rattle.mld_model.specs.Comparing.{IsAmongDots}
use Rattle.mld_model.proofs.ComparingLaws.{compares_alike}
pub use Rattle.schedule_model.specs.WorldStep.{stepped, stepped_with, stepped_into, stepped_sending, sent_message, LocallyCompares}

-- the founded world
module _ (domain : List ℕ) (properties : List (List ℕ)) (count : ℕ) where
  -- the clone of a world that was just founded stands for the founded clone
  founded_clone_stands : (number : ℕ) → CloneStandsFor (founded domain properties count) number (founded_local domain properties count number) (founded_clone count number)
  founded_clone_stands number = elim (cases_Bool (ltb number count)) [
    | inl below ↦ rw below (
      record { id = refl; domain = refl; properties = refl },
      record {
        kept = record {
          path = refl;
          base = λ dot. ((λ c. absurd (omega (arith, c.positive, c.within))), λ k. absurd k);
          base_pairs = record { ascending = tt; sound = λ pair h. absurd h; complete = λ pair k. absurd k.covered };
          entries = tt;
        };
        held = tt;
        known = λ dot. ((λ c. absurd (omega (arith, c.positive, c.within))), λ k. absurd k);
        pairs = record { ascending = tt; sound = λ pair h. absurd h; complete = λ pair k. absurd k.covered };
      },
    )
    | inr above ↦ rw above tt
  ]

  founded_at : (number : ℕ) (state : RunningClone) → slice_get (map (founded_local domain properties count) (range_with_len 0 clone_count)) number ≡ Some state
      → CloneStandsFor (founded domain properties count) number state (clone_at (founded domain properties count) number)
  founded_at number state is =
      let running : List RunningClone = map (founded_local domain properties count) (range_with_len 0 clone_count) in
      let inside : number < clone_count = omega (arith, slice_get_within running number state is, length-map-range_with_len (founded_local domain properties count) 0 clone_count) in
      let same : founded_local domain properties count number ≡ state
      = sym (get_or-map-range_with_len (founded_local domain properties count) 0 clone_count number number state inside (omega arith)) ∙ get_or_from_slice_get running number state state is in
      subst (λ (r : RunningClone). CloneStandsFor (founded domain properties count) number r (clone_at (founded domain properties count) number)) same
      (subst (λ (c : Clone). CloneStandsFor (founded domain properties count) number (founded_local domain properties count number) c)
      (sym (get_or-map-range_with_len (founded_clone count) 0 clone_count number number Absent inside (omega arith)))
      (founded_clone_stands number))

  -- the world that runs when it was just founded stands for the founded world
  pub founded_stands : StandsFor (founded_running domain properties count) (founded domain properties count)
  founded_stands = record {
    domain = refl;
    properties = refl;
    count = length-map-range_with_len (founded_local domain properties count) 0 clone_count;
    clones = founded_at;
    messages = tt;
    ticks = λ operation h. absurd h;
  }

-- where the running clone isn't live, the model's does nothing of what only a live clone does
pub missing_replies : (world : World) (number : ℕ) (state : RunningClone) (clone : Clone) (reply : Reply) (does : Stored → List Range → Type 0)
    → IsMissingReply state reply → CloneStandsFor world number state clone → IfLive world clone reply world does
missing_replies world number (states.Absent blank) Absent reply does is stands = (is, refl)
missing_replies world number (states.Asking asker) Asking reply does is stands = (is, refl)
missing_replies world number (states.Down device) Empty reply does is stands = (is, refl)
missing_replies world number (states.Down device) (Down stored) reply does is stands = (is, refl)
missing_replies world number (states.Live live) clone reply does is stands = absurd is
missing_replies world number state clone reply does is stands = absurd stands

-- a command that makes an update is done at the clone of its number
update_at : (command : Command) (number : ℕ) (plan : UpdatePlan) → IsUpdateOf command number plan → number ≡ number_of_clone command
update_at (Add at triple) number plan is = sym is.0
update_at (Remove at triple) number plan is = sym is.0
update_at (Update at own) number plan is = sym is.0
update_at command number plan is = absurd is

-- and its step is that of the plan
module _ (world next : World) where
  planned : (at number : ℕ) (own plan : UpdatePlan) (reply : Reply) → at ≡ number → plan ≡ own → UpdatesByPlan world number plan (clone_at world number) reply next
      → UpdatesByPlan world at own (clone_at world at) reply next
  planned at number own plan reply here same p =
      subst (λ (k : ℕ). UpdatesByPlan world k own (clone_at world k) reply next) (sym here)
      (subst (λ (it : UpdatePlan). UpdatesByPlan world number it (clone_at world number) reply next) same p)

  update_step : (command : Command) (number : ℕ) (plan : UpdatePlan) (reply : Reply) → IsUpdateOf command number plan
      → UpdatesByPlan world number plan (clone_at world number) reply next → Step world command reply next
  unfolding Step
  update_step (Add at triple) number plan reply is p = planned at number (insertion_of triple) plan reply is.0 is.1 p
  update_step (Remove at triple) number plan reply is p = planned at number (deletion_of triple) plan reply is.0 is.1 p
  update_step (Update at own) number plan reply is p = planned at number own plan reply is.0 is.1 p
  update_step command number plan reply is p = absurd is

-- a running world that stands for a world
module _ (running : RunningWorld) (world : World) (stands : StandsFor running world) where
  -- nothing but the count of steps changes
  pub stepped_stands : StandsFor (stepped running) world
  stepped_stands = record {
    domain = stands.domain;
    properties = stands.properties;
    count = stands.count;
    clones = stands.clones;
    messages = stands.messages;
    ticks = λ operation h. omega (arith, stands.ticks operation h);
  }

  -- where there is no message of a number there is none of it in the model
  pub no_message : (message : ℕ) → sent_message running message ≡ None → message_at world message ≡ None
  no_message zero is = refl
  no_message (suc before) is = no_pair_at (MessageStandsFor world.history) running.messages world.messages stands.messages before is

-- what a clone does with a message follows the model where the model's clone may do so
pub taking_follows : (next : RunningWorld) (world after : World) (message number : ℕ) (what : Message) (clone : Clone) (reply : Reply)
    → message_at world message ≡ Some what → clone_at world number ≡ clone → Takes world number what clone reply after → IsSound after → StandsFor next after
    → Follows world (Deliver message number) reply next
unfolding Step
taking_follows next world after message number what clone reply sent is takes sound stands =
    let P : Option Message → Type 0 = λ o. MatchOption o (Answers world NoMessage reply after) (λ m. Takes world number m (clone_at world number) reply after) in
    let Q : Clone → Type 0 = λ c. Takes world number what c reply after in
    record { next = after; steps = subst P (sym sent) (subst Q (sym is) takes); sound = sound; stands = stands }

-- what a clone does that is live is what only a live clone does
live_did : (world : World) (clone : Clone) (reply : Reply) (next : World) (does : Stored → List Range → Type 0)
    (stored : Stored) (held : List Range) → clone ≡ Live stored held → IfLive world clone reply next does → does stored held
live_did world clone reply next does stored held is p = subst (λ (c : Clone). IfLive world c reply next does) is p

-- a clone that is absent or down takes no message
takes_away : (world : World) (number : ℕ) (what : Message) (state : RunningClone) (clone : Clone) (reply : Reply) → IsAwayReply state reply
    → CloneStandsFor world number state clone → Takes world number what clone reply world
takes_away world number what (states.Absent blank) Absent reply away stands = (away, refl)
takes_away world number what (states.Down device) Empty reply away stands = (away, refl)
takes_away world number what (states.Down device) (Down stored) reply away stands = (away, refl)
takes_away world number what (states.Asking asker) clone reply away stands = absurd away
takes_away world number what (states.Live live) clone reply away stands = absurd away
takes_away world number what state clone reply away stands = absurd stands

within_alike : (history : List Operation) (live other : LocalClone) (stored kept : Stored) (held back : List Range) → LocalStandsFor history live stored held
    → LocalStandsFor history other kept back → IsAmongDots live.ticks other.ticks ↔ AreKnownTo (known_of stored) (known_of kept)
within_alike history live other stored kept held back a b = (
  λ local dot known. (b.known dot).0 (local dot ((a.known dot).1 known)),
  λ within dot covered. (b.known dot).1 (within dot ((a.known dot).0 covered)),
)

-- a running world that stands for a sound world
module _ (running : RunningWorld) (world : World) (stands : StandsFor running world) (sound : IsSound world) where
  -- ---- a clone that isn't live

  -- a step that changes nothing follows the model
  pub staying_follows : (command : Command) (reply : Reply)
      → Step world command reply world → Follows world command reply (stepped running)
  staying_follows command reply steps =
      record { next = world; steps = steps; sound = sound; stands = stepped_stands running world stands }

  -- the next tick of a clone is at most the number of the step that makes it
  pub next_tick_within : (number : ℕ) (live : LocalClone)
      → LiveAt world number live → (next_dot live).tick ≤ running.steps + 1
  next_tick_within number live at = elim (cases_lt 0 (ticks_of live.ticks live.path)) [
    | inl some ↦
        let own : Dot = dot_at live.path (ticks_of live.ticks live.path) in
        let known : Knows (known_of (kept_by live at.base at.journal)) own = (at.stands.known own).0 (record { positive = omega arith; within = omega arith }) in
        let done : IsDone world.history own = (live_sound world number (kept_by live at.base at.journal) at.held sound at.live).closed.done own known in
        omega (arith, stands.ticks done.operation done.stands, ap (λ (d : Dot). d.tick) done.is)
    | inr none ↦ omega arith
  ]

  -- ---- updates

  -- a live clone does what its command tells it, by the effect of a plan on its pairs, at the dot of its next operation
  plans_as : (number : ℕ) (plan : UpdatePlan) (live : LocalClone) → LiveAt world number live → (effect : EffectValue)
      → IsPlanEffect live.domain (next_dot live) live.pairs plan effect → (reply : Reply) (next : World)
      → UpdatesAs world number effect (clone_at world number) reply next → UpdatesByPlan world number plan (clone_at world number) reply next
  plans_as number plan live at effect has reply next does =
      let stored : Stored = kept_by live at.base at.journal in
      let done = live_did world (clone_at world number) reply next _ stored at.held at.live does in
      let same : done.0 ≡ live.pairs = one_meaning world.history (known_of stored) done.0 live.pairs done.1 at.stands.pairs in
      live_does world (clone_at world number) reply next _ stored at.held at.live (
        live.pairs,
        at.stands.pairs,
        has_effect (next_dot live).tick (next_tick_of live (known_of stored) at.stands.known) effect
            (subst (λ (domain : List ℕ). IsPlanEffect domain (next_dot live) live.pairs plan effect) at.is.domain has)
            (subst (λ (pairs : List Tagged). Updates world number stored at.held pairs effect reply next) same done.2),
      )

  -- a command tells the clone of the number to make the update of a plan
  module _ (command : Command) (number : ℕ) (plan : UpdatePlan) (is_update : IsUpdateOf command number plan) where
    -- a live clone makes it, by its effect
    module _ (live : LocalClone) (is : slice_get running.clones number ≡ Some (states.Live live)) where
      -- what it does alone follows the model
      update_local : (effect : EffectValue) → IsPlanEffect live.domain (next_dot live) live.pairs plan effect → (new : LocalClone) (reply : Reply)
          (sent : List MessageValue) (clones : List RunningClone) (messages : List MessageValue)
          → LocalStep (length running.messages) (states.Live live) (UpdateTask effect) reply sent (states.Live new)
          → set running.clones number (states.Live new) ≡ clones → running.messages ++ sent ≡ messages
          → Follows world command reply (record running { clones = clones; messages = messages; steps = running.steps + 1 })
      update_local effect has new reply sent clones messages does turned told =
          let at : LiveAt world number live = live_at running world stands number live is in
          let here : number ≡ number_of_clone command = update_at command number plan is_update in
          local_follows running world stands sound command (states.Live live) (states.Live new) (UpdateTask effect) (UpdateTask effect) reply sent clones messages
          (subst (λ (k : ℕ). LiveAt world k live) here at) refl
          (λ next done. update_step world next command number plan reply is_update
          (plans_as number plan live at effect has reply next (subst (λ (k : ℕ). UpdatesAs world k effect (clone_at world k) reply next) (sym here) done)))
          does (subst (λ (k : ℕ). set running.clones k (states.Live new) ≡ clones) here turned) told

      -- its plan has too many solutions over the clone's triples
      pub update_too_large : HasTooMany live.pairs plan → Follows world command TooMany (stepped running)
      update_too_large many =
          let at : LiveAt world number live = live_at running world stands number live is in
          staying_follows command TooMany (update_step world world command number plan TooMany is_update
          (live_does world (clone_at world number) TooMany world _ (kept_by live at.base at.journal) at.held at.live
          (live.pairs, at.stands.pairs, is_too_large many (refl, refl))))

      -- its effect changes nothing
      pub update_nothing : (effect : EffectValue) → IsPlanEffect live.domain (next_dot live) live.pairs plan effect → ChangesNothing effect
          → Follows world command NoOperation (stepped running)
      update_nothing effect has none =
          update_local effect has live NoOperation [] running.clones running.messages (updates_nothing live effect none)
          (set_as_it_is running.clones number (states.Live live) is) (append-nil running.messages)

      -- its effect would give a subject a second value of a single-valued property
      pub update_single : (effect : EffectValue) → IsPlanEffect live.domain (next_dot live) live.pairs plan effect → ¬ ChangesNothing effect
          → (place : List ℕ × List ℕ) → IsFirstBreach live.properties live.pairs effect place
          → Follows world command (Single place.0 place.1) (stepped running)
      update_single effect has some place first =
          update_local effect has live (Single place.0 place.1) [] running.clones running.messages (update_breaks live effect place some first)
          (set_as_it_is running.clones number (states.Live live) is) (append-nil running.messages)

      -- the clone makes the operation of its effect, and the entry is sent
      pub update_made : (effect : EffectValue) → IsPlanEffect live.domain (next_dot live) live.pairs plan effect → ¬ ChangesNothing effect
          → BreaksNone live.properties live.pairs effect → (new : LocalClone) (entry : EntryValue) → LocallyMakes live effect new entry
          → Follows world command (Did (next_dot live) (length running.messages + 1)) (stepped_sending running number new entry)
      update_made effect has some fits new entry makes =
          update_local effect has new (Did (next_dot live) (length running.messages + 1)) (CarriesEntry entry ∷ []) (set running.clones number (states.Live new))
          (running.messages ++ CarriesEntry entry ∷ [])
          (updates live effect new entry some fits (plan_present live.domain plan (next_dot live) live.pairs effect has) makes) refl refl

    -- a clone that isn't live makes none
    pub update_missing : (state : RunningClone) (reply : Reply) → slice_get running.clones number ≡ Some state → IsMissingReply state reply
        → Follows world command reply (stepped running)
    update_missing state reply is missing =
        staying_follows command reply (update_step world world command number plan reply is_update
        (missing_replies world number state (clone_at world number) reply _ missing (stands.clones number state is)))

  -- ---- deliver

  -- no message of the number comes
  pub deliver_nothing : (message number : ℕ)
      → sent_message running message ≡ None → Follows world (Deliver message number) NoMessage (stepped running)
  unfolding Step
  deliver_nothing message number is =
      let P : Option Message → Type 0 = λ o. MatchOption o (Answers world NoMessage NoMessage world) (λ sent. Takes world number sent (clone_at world number) NoMessage world) in
      staying_follows (Deliver message number) NoMessage (subst P (sym (no_message running world stands message is)) (refl, refl))

  -- a message comes to a clone that is absent or down
  pub deliver_missing : (message number : ℕ) (what : MessageValue) (state : RunningClone) (reply : Reply)
      → sent_message running message ≡ Some what → slice_get running.clones number ≡ Some state → IsAwayReply state reply
      → Follows world (Deliver message number) reply (stepped running)
  deliver_missing message number what state reply told is away =
      let s : SentAs world what message = sent_as running world stands message what told in
      taking_follows (stepped running) world world message number s.other (clone_at world number) reply s.at refl
      (takes_away world number s.other state (clone_at world number) reply away (stands.clones number state is)) sound (stepped_stands running world stands)

  -- the clones of a running world where one of them has changed, and those of a world with the same history
  pub clones_set_stand : (number : ℕ) (new : RunningClone) (clone : Clone) (next : World)
      → next.history ≡ world.history → next.domain ≡ world.domain → next.properties ≡ world.properties → CloneStandsFor world number new clone
      → (other : ℕ) (state : RunningClone) → slice_get (set running.clones number new) other ≡ Some state
      → CloneStandsFor next other state (get_or (set world.clones number clone) other Absent)
  clones_set_stand number new clone next history domain properties now =
      clones_stand_set next running.clones world.clones number new clone (stands.count ∙ sym sound.count)
      (λ other state is. clone_stands_as world next other state (clone_at world other) history domain properties (stands.clones other state is))
      (clone_stands_as world next number new clone history domain properties now)

  -- a message comes to a clone that knows it
  pub deliver_known : (message number : ℕ) (entry : EntryValue) (live : LocalClone)
      → sent_message running message ≡ Some (CarriesEntry entry) → slice_get running.clones number ≡ Some (states.Live live) → IsKnownEntry live.ticks entry
      → Follows world (Deliver message number) AlreadyKnown (stepped running)
  deliver_known message number entry live sent is known =
      taking_stays running world stands sound message number (CarriesEntry entry) (states.Live live) AlreadyKnown sent is (live_at running world stands number live is)
      (knows_entry live entry known)

  -- a running world where one clone is in another state, and nothing else has changed
  pub into_stands : (number : ℕ) (state : RunningClone) (clone : Clone) → CloneStandsFor world number state clone
      → StandsFor (stepped_into running number state) (with_clone world number clone)
  into_stands number state clone now = record {
    domain = stands.domain;
    properties = stands.properties;
    count = length-set running.clones number state ∙ stands.count;
    clones = clones_set_stand number state clone (with_clone world number clone) refl refl refl now;
    messages = stands.messages;
    ticks = λ operation h. omega (arith, stands.ticks operation h);
  }

  -- a message comes to a clone that is ready for it
  pub deliver_taken : (message number : ℕ) (entry : EntryValue) (live new : LocalClone) (ranges : List Range)
      → sent_message running message ≡ Some (CarriesEntry entry) → slice_get running.clones number ≡ Some (states.Live live) → LocallyAccepts live entry new ranges
      → Follows world (Deliver message number) (Took ranges) (stepped_with running number new)
  deliver_taken message number entry live new ranges sent is locally =
      taking_turns running world stands sound message number (CarriesEntry entry) (states.Live live) (states.Live new) (Took ranges) sent (live_at running world stands number live is)
      (accepts_entry live entry new ranges locally)

  -- a message comes to a clone that holds one of its range already
  pub deliver_held_already : (message number : ℕ) (entry : EntryValue) (live : LocalClone)
      → sent_message running message ≡ Some (CarriesEntry entry) → slice_get running.clones number ≡ Some (states.Live live) → MustBeHeld live entry → Has (ranges_of live.held) entry.range
      → Follows world (Deliver message number) Held (stepped running)
  deliver_held_already message number entry live sent is must has =
      taking_stays running world stands sound message number (CarriesEntry entry) (states.Live live) Held sent is (live_at running world stands number live is)
      (holds_entry live entry live must (inl (has, refl)))

  -- a message comes to a clone that holds too many others back
  pub deliver_full : (message number : ℕ) (entry : EntryValue) (live : LocalClone)
      → sent_message running message ≡ Some (CarriesEntry entry) → slice_get running.clones number ≡ Some (states.Live live) → MustBeHeld live entry → IsFullFor live entry
      → Follows world (Deliver message number) HeldFull (stepped running)
  deliver_full message number entry live sent is must full =
      taking_stays running world stands sound message number (CarriesEntry entry) (states.Live live) HeldFull sent is (live_at running world stands number live is)
      (is_full live entry must full)

  -- a message comes to a clone that holds it back from now on
  pub deliver_held : (message number : ℕ) (entry : EntryValue) (live new : LocalClone)
      → sent_message running message ≡ Some (CarriesEntry entry) → slice_get running.clones number ≡ Some (states.Live live) → MustBeHeld live entry
      → ¬ Has (ranges_of live.held) entry.range → length live.held < held_limit → new ≡ record live { held = live.held ++ entry ∷ [] }
      → Follows world (Deliver message number) Held (stepped_with running number new)
  deliver_held message number entry live new sent is must lacks few same =
      taking_turns running world stands sound message number (CarriesEntry entry) (states.Live live) (states.Live new) Held sent (live_at running world stands number live is)
      (holds_entry live entry new must (inr (lacks, few, same)))

  -- an entry that was sent is none of a clone's own path beyond what the clone knows
  pub never_foreign : (message number : ℕ) (entry : EntryValue) (live : LocalClone)
      → sent_message running message ≡ Some (CarriesEntry entry) → slice_get running.clones number ≡ Some (states.Live live) → ¬ IsForeign live entry
  never_foreign message number entry live sent is =
      let s : SentAs world (CarriesEntry entry) message = sent_as running world stands message (CarriesEntry entry) sent in
      none_foreign world number live (CarriesEntry entry) s.other sound (live_at running world stands number live is) (record { sent = s.stands; stands = s.relates })

  -- ---- show

  -- a live clone shows its pairs
  pub show_follows : (number : ℕ) (live : LocalClone)
      → slice_get running.clones number ≡ Some (states.Live live) → Follows world (Show number) (Shows live.pairs) (stepped running)
  unfolding Step
  show_follows number live is =
      let at : LiveAt world number live = live_at running world stands number live is in
      staying_follows (Show number) (Shows live.pairs)
      (live_does world (clone_at world number) (Shows live.pairs) world _ (kept_by live at.base at.journal) at.held at.live
      (live.pairs, at.stands.pairs, (refl, refl)))

  -- a clone that isn't live shows no pairs
  pub show_missing : (number : ℕ) (state : RunningClone) (reply : Reply)
      → slice_get running.clones number ≡ Some state → IsMissingReply state reply → Follows world (Show number) reply (stepped running)
  unfolding Step
  show_missing number state reply is missing =
      staying_follows (Show number) reply
      (missing_replies world number state (clone_at world number) reply _ missing (stands.clones number state is))

  -- ---- query

  -- a live clone answers a query over the triples that are present
  pub query_follows : (number : ℕ) (read : ReadQuery) (live : LocalClone) (reply : Reply)
      → slice_get running.clones number ≡ Some (states.Live live) → AnswersQuery (present live.pairs) read reply
      → Follows world (Query number read) reply (stepped running)
  unfolding Step
  query_follows number read live reply is answers =
      let at : LiveAt world number live = live_at running world stands number live is in
      staying_follows (Query number read) reply
      (live_does world (clone_at world number) reply world _ (kept_by live at.base at.journal) at.held at.live
      (live.pairs, at.stands.pairs, answers, refl))

  -- a clone that isn't live answers none
  pub query_missing : (number : ℕ) (read : ReadQuery) (state : RunningClone) (reply : Reply)
      → slice_get running.clones number ≡ Some state → IsMissingReply state reply → Follows world (Query number read) reply (stepped running)
  unfolding Step
  query_missing number read state reply is missing =
      staying_follows (Query number read) reply
      (missing_replies world number state (clone_at world number) reply _ missing (stands.clones number state is))

  -- ---- compare

  -- two live clones compare
  pub compare_follows : (number second : ℕ) (live other : LocalClone) (reply : Reply)
      → slice_get running.clones number ≡ Some (states.Live live) → slice_get running.clones second ≡ Some (states.Live other) → LocallyCompares live other reply
      → Follows world (Compare number second) reply (stepped running)
  unfolding Step
  compare_follows number second live other reply is was compares =
      let a : LiveAt world number live = live_at running world stands number live is in
      let b : LiveAt world second other = live_at running world stands second other was in
      let one = within_alike world.history live other (kept_by live a.base a.journal) (kept_by other b.base b.journal) a.held b.held a.stands b.stands in
      let two = within_alike world.history other live (kept_by other b.base b.journal) (kept_by live a.base a.journal) b.held a.held b.stands a.stands in
      let stored : Stored = kept_by live a.base a.journal in
      let kept : Stored = kept_by other b.base b.journal in
      let found : Compares (known_of stored) (known_of kept) reply = compares_alike one two reply compares in
      staying_follows (Compare number second) reply
      (live_does world (clone_at world number) reply world _ stored a.held a.live
      (live_does world (clone_at world second) reply world _ kept b.held b.live (found, refl)))

  -- the first of two clones isn't live
  pub compare_missing_first : (number second : ℕ) (state : RunningClone) (reply : Reply)
      → slice_get running.clones number ≡ Some state → IsMissingReply state reply → Follows world (Compare number second) reply (stepped running)
  unfolding Step
  compare_missing_first number second state reply is missing =
      staying_follows (Compare number second) reply
      (missing_replies world number state (clone_at world number) reply _ missing (stands.clones number state is))

  -- the second of two clones isn't live
  pub compare_missing_second : (number second : ℕ) (live : LocalClone) (state : RunningClone) (reply : Reply)
      → slice_get running.clones number ≡ Some (states.Live live) → slice_get running.clones second ≡ Some state → IsMissingReply state reply
      → Follows world (Compare number second) reply (stepped running)
  unfolding Step
  compare_missing_second number second live state reply is was missing =
      let a : LiveAt world number live = live_at running world stands number live is in
      staying_follows (Compare number second) reply
      (live_does world (clone_at world number) reply world _ (kept_by live a.base a.journal) a.held a.live
      (missing_replies world second state (clone_at world second) reply _ missing (stands.clones second state was)))
