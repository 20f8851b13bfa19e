-- A running world where a clone asks for a leaf, or gives one, or takes one, stands for what the model's step makes.
use Rattle.std.proofs.Common.{◌≡◌, ◌≢◌, ℕ, ◌+◌, ◌<◌, ◌≤◌, List, [], ◌∷◌, ◌++◌, refl, sym, ◌∙◌, ap, arith, subst, length, set, Some}
use Rattle.std.specs.Prelude.{slice_get}
use Rattle.std.proofs.lemmas.List.{length-set}
use Rattle.tree_clock.specs.Limits.{path_limit}
use Rattle.mld_ops.specs.Messages.{GiveValue, MessageValue, CarriesAsk, CarriesGive}
use Rattle.mld_ops.proofs.PickingLaws.{pairs_more}
use Rattle.schedule_model.specs.declared.Command.TheVariants.{Deliver, Join}
use Rattle.mld_model.specs.declared.CloneState.TheVariants as states
use Rattle.mld_model.specs.Clone.{Clone, Absent, Asking, Empty, Down, Stored}
use Rattle.mld_model.specs.World.{World, Message, JoinAsk, clone_at, clone_count, with_clone}
use Rattle.schedule_model.specs.Step.{Step}
use Rattle.mld_model.specs.CloneStep.{Joins, after_asking}
use Rattle.mld_model.specs.Reply.{Sent, Answer, Joined, Deep, Ignored, IsDown, IsLive}
use Rattle.mld_model.specs.Sound.{Keeps, IsSound}
use Rattle.mld_model.specs.Local.{LocalAsker, LocalClone, LocallyForks, joined_clone}
use Rattle.mld_model.specs.LocalStep.{LocalStep, Take, Join as AskLeaf, asks_itself, is_deep, forks_leaf, needs_no_leaf, adopts_leaf, passes_over, asks_for_leaf}
use Rattle.mld_model.specs.StandsFor.{RunningClone, RunningWorld, IsAskerOf, CloneStandsFor, MessageStandsFor, StandsFor, id_of}
use Rattle.mld_model.proofs.JoiningLaws.{asked_sound}
use Rattle.mld_model.proofs.PairsLaws.{pairs_count}
use Rattle.mld_model.proofs.StandsForLaws.{AskingAt, live_at, absent_at, asking_at, place_of_state, set_as_it_is}
use Rattle.schedule_model.proofs.WorldLaws.{stepped, stepped_with, stepped_stands, sent_message, clones_set_stand}
use Rattle.schedule_model.proofs.FollowsLaws.{local_follows, taking, taking_stays, taking_turns}
use Rattle.schedule_model.specs.WorldStep.{Follows}
pub use Rattle.schedule_model.specs.WorldStep.{stepped_telling}

-- in the model a clone that is down asks for none
joins_down : (world : World) (number : ℕ) (device : Unit {0}) (clone : Clone) → CloneStandsFor world number (states.Down device) clone → Joins world number clone IsDown world
joins_down world number device Empty stands = (refl, refl)
joins_down world number device (Down stored) stands = (refl, refl)
joins_down world number device clone stands = absurd stands

-- a running world that stands for a world
module _ (running : RunningWorld) (world : World) (stands : StandsFor running world) where
  -- as many messages were sent as in the model
  sent_count : length running.messages ≡ length world.messages
  sent_count = pairs_count (MessageStandsFor world.history) running.messages world.messages stands.messages

  -- the reply is that of the model
  asked_reply : Sent (length running.messages + 1) ≡ Sent (length world.messages + 1)
  asked_reply = ap (λ n. Sent (n + 1)) (sent_count)

-- a running world that stands for a sound world
module _ (running : RunningWorld) (world : World) (stands : StandsFor running world) (sound : IsSound world) where
  -- it stands for the world with that state of the clone and that message
  telling_stands : (number : ℕ) (state : RunningClone) (clone : Clone) (message : MessageValue) (other : Message)
      → CloneStandsFor world number state clone → MessageStandsFor world.history message other
      → StandsFor (stepped_telling running number state message) (record (with_clone world number clone) { messages = world.messages ++ other ∷ [] })
  telling_stands number state clone message other now told = record {
    domain = stands.domain;
    properties = stands.properties;
    count = length-set running.clones number state ∙ stands.count;
    clones = clones_set_stand running world stands sound number state clone (record (with_clone world number clone) { messages = world.messages ++ other ∷ [] }) refl refl refl now;
    messages = pairs_more (MessageStandsFor world.history) running.messages world.messages message other stands.messages told;
    ticks = λ operation h. omega (arith, stands.ticks operation h);
  }

  -- ---- join

  -- who has no leaf yet asks for one
  join_follows : (number : ℕ) (asker : LocalAsker) (clone : Clone) → number < clone_count
      → clone_at world number ≡ clone → ((stored : Stored) → ¬ Keeps clone stored) → Joins world number clone (Sent (length running.messages + 1)) (after_asking world number)
      → IsAskerOf world number asker
      → Follows world (Join number) (Sent (length running.messages + 1)) (stepped_telling running number (states.Asking asker) (CarriesAsk (id_of number)))
  unfolding Step
  join_follows number asker clone below at none joins is =
      let P : Clone → Type 0 = λ c. Joins world number c (Sent (length running.messages + 1)) (after_asking world number) in
      let Q : Clone → Type 0 = λ c. (stored : Stored) → ¬ Keeps c stored in
      record {
        next = after_asking world number;
        steps = subst P (sym at) joins;
        sound = asked_sound world number sound below (subst Q (sym at) none);
        stands = telling_stands number (states.Asking asker) Asking (CarriesAsk (id_of number)) (JoinAsk number) is refl;
      }

  -- an absent clone asks for a leaf
  pub join_absent : (number : ℕ) (blank : Unit {0}) (asker : LocalAsker)
      → slice_get running.clones number ≡ Some (states.Absent blank)
      → asker.id ≡ id_of number → asker.domain ≡ running.domain → asker.properties ≡ running.properties
      → Follows world (Join number) (Sent (length running.messages + 1)) (stepped_telling running number (states.Asking asker) (CarriesAsk (id_of number)))
  join_absent number blank asker none id domain properties =
      join_follows number asker Absent (place_of_state running world stands number (states.Absent blank) none)
      (absent_at running world stands number blank none) (λ stored keeps. absurd keeps) (asked_reply running world stands, refl)
      (record { id = id; domain = domain ∙ stands.domain; properties = properties ∙ stands.properties })

  -- a clone that asks already asks again, as this asker
  pub join_asking : (number : ℕ) (old asker : LocalAsker)
      → slice_get running.clones number ≡ Some (states.Asking old)
      → asker.id ≡ id_of number → asker.domain ≡ running.domain → asker.properties ≡ running.properties
      → Follows world (Join number) (Sent (length running.messages + 1)) (stepped_telling running number (states.Asking asker) (CarriesAsk (id_of number)))
  join_asking number old asker is id domain properties =
      join_follows number asker Asking (place_of_state running world stands number (states.Asking old) is)
      (asking_at running world stands number old is).asking (λ stored keeps. absurd keeps) (asked_reply running world stands, refl)
      (record { id = id; domain = domain ∙ stands.domain; properties = properties ∙ stands.properties })

  -- and it may stay the asker that it is: then no clone changes
  pub join_again : (number : ℕ) (asker : LocalAsker)
      → slice_get running.clones number ≡ Some (states.Asking asker)
      → Follows world (Join number) (Sent (length running.messages + 1))
      (record running { messages = running.messages ++ CarriesAsk (id_of number) ∷ []; steps = running.steps + 1 })
  unfolding Step
  join_again number asker is =
      let at : AskingAt world number asker = asking_at running world stands number asker is in
      local_follows running world stands sound (Join number) (states.Asking asker) (states.Asking asker) AskLeaf AskLeaf (Sent (length running.messages + 1)) (CarriesAsk asker.id ∷ [])
      running.clones (running.messages ++ CarriesAsk (id_of number) ∷ []) at refl (λ next joins. joins) (asks_for_leaf asker)
      (set_as_it_is running.clones number (states.Asking asker) is) (ap (λ (id : List ℕ). running.messages ++ CarriesAsk id ∷ []) at.is.id)

  -- a live clone doesn't
  pub join_live : (number : ℕ) (live : LocalClone)
      → slice_get running.clones number ≡ Some (states.Live live) → Follows world (Join number) IsLive (stepped running)
  unfolding Step
  join_live number live is =
      let P : Clone → Type 0 = λ c. Joins world number c IsLive world in
      record { next = world; steps = subst P (sym (live_at running world stands number live is).live) (refl, refl); sound = sound; stands = stepped_stands running world stands }

  -- so a clone that is down asks for none
  pub join_down : (number : ℕ) (device : Unit {0})
      → slice_get running.clones number ≡ Some (states.Down device) → Follows world (Join number) IsDown (stepped running)
  unfolding Step
  join_down number device is = record {
    next = world;
    steps = joins_down world number device (clone_at world number) (stands.clones number (states.Down device) is);
    sound = sound;
    stands = stepped_stands running world stands;
  }

  -- ---- a clone is asked for a leaf

  -- a live clone is asked by its own question
  pub deliver_ask_own : (message number : ℕ) (id : List ℕ) (live : LocalClone)
      → sent_message running message ≡ Some (CarriesAsk id) → slice_get running.clones number ≡ Some (states.Live live) → id ≡ live.id
      → Follows world (Deliver message number) Ignored (stepped running)
  deliver_ask_own message number id live told is own =
      taking_stays running world stands sound message number (CarriesAsk id) (states.Live live) Ignored told is (live_at running world stands number live is)
      (subst (λ (i : List ℕ). LocalStep (length running.messages) (states.Live live) (Take (CarriesAsk i)) Ignored [] (states.Live live)) (sym own) (asks_itself live))

  -- a live clone is asked whose leaf is too deep
  pub deliver_deep : (message number : ℕ) (id : List ℕ) (live : LocalClone)
      → sent_message running message ≡ Some (CarriesAsk id) → slice_get running.clones number ≡ Some (states.Live live) → id ≢ live.id → path_limit ≤ length live.path
      → Follows world (Deliver message number) Deep (stepped running)
  deliver_deep message number id live told is differs deep =
      taking_stays running world stands sound message number (CarriesAsk id) (states.Live live) Deep told is (live_at running world stands number live is)
      (is_deep live id differs deep)

  -- a live clone forks its leaf, and sends the right half of it
  pub deliver_ask : (message number : ℕ) (id : List ℕ) (live new : LocalClone) (give : GiveValue)
      → sent_message running message ≡ Some (CarriesAsk id) → slice_get running.clones number ≡ Some (states.Live live) → id ≢ live.id
      → LocallyForks live id new give
      → Follows world (Deliver message number) (Answer ((length running.messages + 1) ∷ [])) (stepped_telling running number (states.Live new) (CarriesGive give))
  deliver_ask message number id live new give told is differs gives =
      taking running world stands sound message number (CarriesAsk id) (states.Live live) (states.Live new) (Answer ((length running.messages + 1) ∷ [])) (CarriesGive give ∷ [])
      (set running.clones number (states.Live new)) (running.messages ++ CarriesGive give ∷ []) told (live_at running world stands number live is)
      (forks_leaf live id new give differs gives) refl refl

  -- ---- a leaf comes

  -- a live clone takes no leaf
  pub deliver_give_live : (message number : ℕ) (give : GiveValue) (live : LocalClone)
      → sent_message running message ≡ Some (CarriesGive give) → slice_get running.clones number ≡ Some (states.Live live)
      → Follows world (Deliver message number) Ignored (stepped running)
  deliver_give_live message number give live told is =
      taking_stays running world stands sound message number (CarriesGive give) (states.Live live) Ignored told is (live_at running world stands number live is)
      (needs_no_leaf live give)

  -- one who asks takes the leaf that was given for it
  pub deliver_joined : (message number : ℕ) (give : GiveValue) (asker : LocalAsker) (new : LocalClone)
      → sent_message running message ≡ Some (CarriesGive give) → slice_get running.clones number ≡ Some (states.Asking asker) → give.id ≡ asker.id
      → new ≡ joined_clone asker give
      → Follows world (Deliver message number) (Joined give.path) (stepped_with running number new)
  deliver_joined message number give asker new told is own joins =
      taking_turns running world stands sound message number (CarriesGive give) (states.Asking asker) (states.Live new) (Joined give.path) told
      (asking_at running world stands number asker is)
      (subst (λ (c : LocalClone). LocalStep (length running.messages) (states.Asking asker) (Take (CarriesGive give)) (Joined give.path) [] (states.Live c)) (sym joins)
      (adopts_leaf asker give own))

  -- one who asks takes no other message
  pub deliver_asking : (message number : ℕ) (what : MessageValue) (asker : LocalAsker)
      → sent_message running message ≡ Some what → slice_get running.clones number ≡ Some (states.Asking asker) → ((give : GiveValue) → what ≡ CarriesGive give → give.id ≢ asker.id)
      → Follows world (Deliver message number) Ignored (stepped running)
  deliver_asking message number what asker told is none =
      taking_stays running world stands sound message number what (states.Asking asker) Ignored told is (asking_at running world stands number asker is)
      (passes_over asker what none)

  -- one who asks takes no leaf that was given for another
  pub deliver_give_other : (message number : ℕ) (give : GiveValue) (asker : LocalAsker)
      → sent_message running message ≡ Some (CarriesGive give) → slice_get running.clones number ≡ Some (states.Asking asker) → give.id ≢ asker.id
      → Follows world (Deliver message number) Ignored (stepped running)
  deliver_give_other message number give asker told is differs =
      deliver_asking message number (CarriesGive give) asker told is (λ other same own. differs (ids_alike give other same ∙ own))
    where
      ids_alike : (one other : GiveValue) → CarriesGive one ≡ CarriesGive other → one.id ≡ other.id
      ids_alike one other same = cc
