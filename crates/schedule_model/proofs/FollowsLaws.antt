-- A clone of a running world does a step of its own: the running world then stands for what the model's step makes.
use Rattle.std.proofs.Common.{◌≡◌, ℕ, zero, suc, ◌+◌, ◌<◌, ◌≤◌, List, [], ◌++◌, inl, inr, refl, sym, ◌∙◌, ap, arith, subst, length, get_or, set, Option, Some, append-nil}
use Rattle.std.specs.Prelude.{slice_get, MatchOption}
use Rattle.std.specs.List.{AllZip}
use Rattle.std.proofs.lemmas.Bool.{cases_eq}
use Rattle.std.proofs.lemmas.List.{get_or-set_same, get_or-set_other, length-set}
use Rattle.std.proofs.lemmas.Option.{slice_get_within, get_or_from_slice_get, slice_get-get_or}
use Rattle.tree_clock.specs.declared.dots.Dot.{Dot}
use Rattle.tree_clock.specs.Lists.{Has}
use Rattle.tree_clock.specs.Dot.{Knows}
use Rattle.mld_ops.specs.History.{Operation, IsDone, IsNext, dot_at}
use Rattle.mld_ops.specs.Messages.{MessageValue}
use Rattle.schedule_model.specs.declared.Command.{Command}
use Rattle.schedule_model.specs.declared.Command.TheVariants.{Deliver}
use Rattle.mld_model.specs.declared.CloneState.TheVariants as states
use Rattle.mld_model.specs.Clone.{Clone}
use Rattle.mld_model.specs.CloneStep.{Answers, Takes}
use Rattle.mld_model.specs.LocalStep.{Task, Take, LocalState, LocalStep, DoesTask, StandsAt, IsTaskIn, StepStands}
use Rattle.mld_model.specs.Reply.{Reply, NoMessage}
use Rattle.mld_model.specs.Sound.{IsSound}
use Rattle.mld_model.specs.StandsFor.{RunningClone, RunningWorld, CloneStandsFor, MessageStandsFor, StandsFor}
use Rattle.mld_model.specs.World.{World, Message, message_at, clone_at}
use Rattle.mld_model.proofs.LocalSteps.{local_steps}
use Rattle.mld_model.proofs.PairsLaws.{PairAt, pair_at, pairs_count, pairs_append}
use Rattle.mld_model.proofs.StandsForLaws.{clone_stands_as, clones_still_stand, messages_still_stand, set_as_it_is}
use Rattle.schedule_model.specs.Step.{Step, number_of_clone}
use Rattle.schedule_model.specs.WorldStep.{stepped, stepped_into, stepped_saying, sent_message, Follows}
use Rattle.schedule_model.proofs.ChangesLaws.{Grows, stays, grows_by, Changes, step_changes}

-- a clone alone as one of a running world: of one that is down nothing is in memory
abbrev pub in_world : LocalState → RunningClone
in_world (states.Absent blank) = states.Absent tt
in_world (states.Asking asker) = states.Asking asker
in_world (states.Down clone) = states.Down tt
in_world (states.Live clone) = states.Live clone

-- it stands for the same clone there
stands_in : (world : World) (number : ℕ) (state : LocalState) → StandsAt world number state → CloneStandsFor world number (in_world state) (clone_at world number)
stands_in world number (states.Absent blank) at = subst (λ (c : Clone). CloneStandsFor world number (states.Absent tt) c) (sym at) tt
stands_in world number (states.Asking asker) at = subst (λ (c : Clone). CloneStandsFor world number (states.Asking asker) c) (sym at.asking) at.is
stands_in world number (states.Down clone) at = subst (λ (c : Clone). CloneStandsFor world number (states.Down tt) c) (sym at.down) tt
stands_in world number (states.Live clone) at = subst (λ (c : Clone). CloneStandsFor world number (states.Live clone) c) (sym at.live) (at.is, at.stands)

-- the model's message of a number, and what stands for it
pub record SentAs (world : World) (message : MessageValue) (number : ℕ) : Type 0 where
  pub other : Message
  pub at : message_at world number ≡ Some other
  pub stands : Has world.messages other
  pub relates : MessageStandsFor world.history message other

-- a running world that stands for a world
module _ (running : RunningWorld) (world : World) (stands : StandsFor running world) where
  -- what was sent by a number stands for the model's message of that number
  pub sent_as : (number : ℕ) (message : MessageValue) → sent_message running number ≡ Some message → SentAs world message number
  sent_as zero message is = cc
  sent_as (suc before) message is =
      let p : PairAt (MessageStandsFor world.history) message world.messages before = pair_at (MessageStandsFor world.history) running.messages world.messages stands.messages before message is in
      record { other = p.other; at = p.at; stands = p.stands; relates = p.relates }

-- a running world that stands for a sound world
module _ (running : RunningWorld) (world : World) (stands : StandsFor running world) (sound : IsSound world) where
  -- ---- what a step leaves as it was

  -- the tick of an operation that comes next is at most the number of the step that makes it
  tick_within : (operation : Operation) → IsNext world.history operation → (tick : ℕ)
      → ((other : ℕ) → 1 ≤ other → other < tick → Knows operation.causes (dot_at operation.dot.path other)) → tick ≤ running.steps + 1
  tick_within operation is_next zero known = omega arith
  tick_within operation is_next (suc zero) known = omega arith
  tick_within operation is_next (suc (suc before)) known =
      let last : Dot = dot_at operation.dot.path (suc before) in
      let done : IsDone world.history last = is_next.causes.done last (known (suc before) (omega arith) (omega arith)) in
      omega (arith, stands.ticks done.operation done.stands, ap (λ (d : Dot). d.tick) done.is)

  pub ticks_grown : (after : List Operation) → Grows world.history after → (operation : Operation) → Has after operation → operation.dot.tick ≤ running.steps + 1
  ticks_grown after (stays same) operation h = omega (arith, stands.ticks operation (subst (λ (history : List Operation). Has history operation) same h))
  ticks_grown after (grows_by made is_next same) operation h = elim (subst (λ (history : List Operation). Has history operation) same h) [
    | inl it ↦ let P : Operation → Type 0 = λ o. o.dot.tick ≤ running.steps + 1 in subst P it (tick_within made is_next made.dot.tick is_next.ticks)
    | inr old ↦ omega (arith, stands.ticks operation old)
  ]

  pub messages_grown : (after : List Operation) → Grows world.history after → AllZip (MessageStandsFor after) running.messages world.messages
  messages_grown after (stays same) =
      subst (λ (history : List Operation). AllZip (MessageStandsFor history) running.messages world.messages) (sym same) stands.messages
  messages_grown after (grows_by made is_next same) =
      subst (λ (history : List Operation). AllZip (MessageStandsFor history) running.messages world.messages) (sym same)
      (messages_still_stand world.history made running.messages world.messages stands.messages sound.messages is_next)

  clone_grown : (next : World) → next.domain ≡ world.domain → next.properties ≡ world.properties → Grows world.history next.history
      → (number : ℕ) (state : RunningClone) → slice_get running.clones number ≡ Some state → CloneStandsFor next number state (clone_at world number)
  clone_grown next domain properties (stays same) number state is =
      clone_stands_as world next number state (clone_at world number) same domain properties (stands.clones number state is)
  clone_grown next domain properties (grows_by made is_next same) number state is =
      clones_still_stand running world next made stands sound is_next same domain properties number state is

  -- ---- a step

  -- the clone of the number is in another state, and the others are as they were
  pub clones_follow : (next : World) (number : ℕ) (new : RunningClone) → Changes world next number → CloneStandsFor next number new (clone_at next number)
      → (other : ℕ) (state : RunningClone) → slice_get (set running.clones number new) other ≡ Some state → CloneStandsFor next other state (clone_at next other)
  clones_follow next number new changes now other state is =
      let inside : other < length running.clones = omega (arith, slice_get_within (set running.clones number new) other state is, length-set running.clones number new) in
      elim (cases_eq other number) [
        | inl same ↦
            let here : number < length running.clones = omega (arith, inside, same) in
            let is_new : new ≡ state = sym (get_or-set_same running.clones number new state here)
            ∙ ap (λ k. get_or (set running.clones number new) k state) (sym same) ∙ get_or_from_slice_get (set running.clones number new) other state state is in
            subst (λ (k : ℕ). CloneStandsFor next k state (clone_at next k)) (sym same) (subst (λ (r : RunningClone). CloneStandsFor next number r (clone_at next number)) is_new now)
        | inr differs ↦
            let was : get_or running.clones other state ≡ state = sym (get_or-set_other running.clones number other new state differs)
            ∙ get_or_from_slice_get (set running.clones number new) other state state is in
            subst (λ (c : Clone). CloneStandsFor next other state c) (sym (changes.others other differs))
            (clone_grown next changes.domain changes.properties (changes.grows sound) other state
            (slice_get-get_or running.clones other state inside ∙ ap (λ (r : RunningClone). Some r) was))
      ]

  -- the command's clone does a step of its own, which is that of the command
  module _ (command : Command) (old new : LocalState) (task : Task MessageValue) (other : Task Message) (reply : Reply) (sent : List MessageValue) where
    pub local_follows : (clones : List RunningClone) (messages : List MessageValue)
        → StandsAt world (number_of_clone command) old → IsTaskIn world task other
        → ((next : World) → DoesTask world (number_of_clone command) other reply next → Step world command reply next)
        → LocalStep (length running.messages) old task reply sent new
        → set running.clones (number_of_clone command) (in_world new) ≡ clones → running.messages ++ sent ≡ messages
        → Follows world command reply (record running { clones = clones; messages = messages; steps = running.steps + 1 })
    local_follows clones messages at is steps does turned told =
        let number : ℕ = number_of_clone command in
        let counted : length running.messages ≡ length world.messages = pairs_count (MessageStandsFor world.history) running.messages world.messages stands.messages in
        let s : StepStands world number other reply sent new =
        local_steps world number old new task other reply sent sound at is (subst (λ (n : ℕ). LocalStep n old task reply sent new) counted does) in
        let next : World = s.next in
        let step : Step world command reply next = steps next s.does in
        let changes : Changes world next number = step_changes world command reply next step in
        let grows : Grows world.history next.history = changes.grows sound in
        let stand : StandsFor (record running { clones = set running.clones number (in_world new); messages = running.messages ++ sent; steps = running.steps + 1 }) next = record {
          domain = stands.domain ∙ sym changes.domain;
          properties = stands.properties ∙ sym changes.properties;
          count = length-set running.clones number (in_world new) ∙ stands.count;
          clones = clones_follow next number (in_world new) changes (stands_in next number new s.stands);
          messages = subst (λ (others : List Message). AllZip (MessageStandsFor next.history) (running.messages ++ sent) others) (sym s.tells.more)
              (pairs_append (MessageStandsFor next.history) running.messages world.messages sent s.tells.messages (messages_grown next.history grows) s.tells.stand);
          ticks = ticks_grown next.history grows;
        } in
        let P : List RunningClone → Type 0 = λ cs. StandsFor (record running { clones = cs; messages = running.messages ++ sent; steps = running.steps + 1 }) next in
        let Q : List MessageValue → Type 0 = λ ms. StandsFor (record running { clones = clones; messages = ms; steps = running.steps + 1 }) next in
        record { next = next; steps = step; sound = s.sound; stands = subst Q told (subst P turned stand) }

  -- it sends nothing
  pub turning : (command : Command) (old new : LocalState) (task : Task MessageValue) (other : Task Message) (reply : Reply)
      → StandsAt world (number_of_clone command) old → IsTaskIn world task other
      → ((next : World) → DoesTask world (number_of_clone command) other reply next → Step world command reply next)
      → LocalStep (length running.messages) old task reply [] new
      → Follows world command reply (stepped_into running (number_of_clone command) (in_world new))
  turning command old new task other reply at is steps does =
      local_follows command old new task other reply [] (set running.clones (number_of_clone command) (in_world new)) running.messages at is steps does
      refl (append-nil running.messages)

  -- a message of the number comes to a clone, which does a step of its own
  pub taking : (message number : ℕ) (what : MessageValue) (old new : LocalState) (reply : Reply) (sent : List MessageValue) (clones : List RunningClone)
      (messages : List MessageValue) → sent_message running message ≡ Some what → StandsAt world number old
      → LocalStep (length running.messages) old (Take what) reply sent new
      → set running.clones number (in_world new) ≡ clones → running.messages ++ sent ≡ messages
      → Follows world (Deliver message number) reply (record running { clones = clones; messages = messages; steps = running.steps + 1 })
  unfolding Step
  taking message number what old new reply sent clones messages told at does =
      let s : SentAs world what message = sent_as running world stands message what told in
      let P : World → Option Message → Type 0 = λ next o. MatchOption o (Answers world NoMessage reply next) (λ m. Takes world number m (clone_at world number) reply next) in
      local_follows (Deliver message number) old new (Take what) (Take s.other) reply sent clones messages at (record { sent = s.stands; stands = s.relates })
      (λ next takes. subst (P next) (sym s.at) takes) does

  -- it changes nothing
  pub taking_stays : (message number : ℕ) (what : MessageValue) (state : LocalState) (reply : Reply) → sent_message running message ≡ Some what
      → slice_get running.clones number ≡ Some (in_world state) → StandsAt world number state → LocalStep (length running.messages) state (Take what) reply [] state
      → Follows world (Deliver message number) reply (stepped running)
  taking_stays message number what state reply told is at does =
      taking message number what state state reply [] running.clones running.messages told at does
      (set_as_it_is running.clones number (in_world state) is) (append-nil running.messages)

  -- it is in another state
  pub taking_turns : (message number : ℕ) (what : MessageValue) (old new : LocalState) (reply : Reply) → sent_message running message ≡ Some what
      → StandsAt world number old → LocalStep (length running.messages) old (Take what) reply [] new
      → Follows world (Deliver message number) reply (stepped_into running number (in_world new))
  taking_turns message number what old new reply told at does =
      taking message number what old new reply [] (set running.clones number (in_world new)) running.messages told at does refl (append-nil running.messages)

  -- it sends messages
  pub taking_says : (message number : ℕ) (what : MessageValue) (state : LocalState) (reply : Reply) (sent : List MessageValue) → sent_message running message ≡ Some what
      → slice_get running.clones number ≡ Some (in_world state) → StandsAt world number state → LocalStep (length running.messages) state (Take what) reply sent state
      → Follows world (Deliver message number) reply (stepped_saying running sent)
  taking_says message number what state reply sent told is at does =
      taking message number what state state reply sent running.clones (running.messages ++ sent) told at does
      (set_as_it_is running.clones number (in_world state) is) refl
