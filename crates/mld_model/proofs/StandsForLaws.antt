-- A running world that stands for a sound world of the model: its clones and messages, one by one.
use Rattle.std.proofs.Common.{◌≡◌, ℕ, ◌<◌, List, ◌∷◌, inl, inr, refl, sym, ◌∙◌, ap, arith, subst, length, get_or, set, Some}
use Rattle.std.specs.Prelude.{slice_get}
use Rattle.std.proofs.lemmas.Option.{slice_get_within, get_or_from_slice_get, slice_get-get_or}
use Rattle.std.proofs.lemmas.Bool.{cases_eq}
use Rattle.std.proofs.lemmas.List.{get_or-set_same, get_or-set_other, length-set, set-get_or}
use Rattle.tree_clock.specs.declared.dots.Range.{Range}
use Rattle.tree_clock.specs.Lists.{Has}
use Rattle.mld_ops.specs.History.{Operation, IsClosed, IsNext}
use Rattle.mld_ops.proofs.MeaningLaws.{meaning_with_unknown}
use Rattle.std.specs.List.{AllZip}
use Rattle.mld_ops.proofs.PickingLaws.{pairs_as}
use Rattle.mld_ops.specs.Messages.{MessageValue, CarriesEntry, CarriesWant, CarriesSnapshot, CarriesAsk, CarriesGive, SnapshotValue, IsGoodSnapshot, IsGoodMessage}
use Rattle.mld_model.specs.Clone.{Clone, Absent, Asking, Empty, Down, Live, Stored}
use Rattle.mld_model.specs.World.{World, Message, RangeOf, Want, SnapshotOf, JoinAsk, JoinGive, clone_at, clone_count}
use Rattle.mld_model.specs.Local.{LocalAsker, LocalClone, IsSameClone}
use Rattle.mld_model.proofs.PairsLaws.{PairAt, pair_at}
use Rattle.mld_model.specs.Sound.{IsSoundMessage, IsSound}
use Rattle.mld_model.specs.declared.CloneState.TheVariants as states
pub use Rattle.mld_model.specs.StandsFor.{LiveAt, AskingAt}
use Rattle.mld_model.specs.StandsFor.{RunningClone, RunningWorld, IsCloneOf, LocalStandsFor, CloneStandsFor, SnapshotStandsFor, MessageStandsFor, StandsFor, id_of}
use Rattle.mld_model.proofs.SoundLaws.{live_sound}
use Rattle.mld_model.proofs.JournalLaws.{journal_done}
use Rattle.mld_model.proofs.HistoryLaws.{done_not_fresh}
use Rattle.mld_model.proofs.LocalLaws.{kept_by, entry_still_stands, local_still_stands}

-- ---- clones, one by one

-- the clone of a number
module _ (world : World) (number : ℕ) where
  pub live_from : (running : LocalClone) (clone : Clone) → clone_at world number ≡ clone → CloneStandsFor world number (states.Live running) clone
      → LiveAt world number running
  live_from running (Live stored held) at stands =
      let same : kept_by running stored.base stored.journal ≡ stored = λ i. record { path = stands.1.kept.path i; base = stored.base; journal = stored.journal } in
      record {
        base = stored.base;
        journal = stored.journal;
        held = held;
        live = at ∙ ap (λ (s : Stored). Live s held) (sym same);
        is = stands.0;
        stands = subst (λ (s : Stored). LocalStandsFor world.history running s held) (sym same) stands.1;
      }
  live_from running clone at stands = absurd stands

  absent_from : (blank : Unit {0}) (clone : Clone) → CloneStandsFor world number (states.Absent blank) clone → clone ≡ Absent
  absent_from blank Absent stands = refl
  absent_from blank clone stands = absurd stands

  asking_from : (running : LocalAsker) (clone : Clone) → clone_at world number ≡ clone → CloneStandsFor world number (states.Asking running) clone
      → AskingAt world number running
  asking_from running Asking at stands = record { asking = at; is = stands }
  asking_from running clone at stands = absurd stands

-- a running world that stands for a world
module _ (running : RunningWorld) (world : World) (stands : StandsFor running world) where
  -- where a clone runs, the model has a live clone for which it stands
  pub live_at : (number : ℕ) (live : LocalClone) → slice_get running.clones number ≡ Some (states.Live live) → LiveAt world number live
  live_at number live is =
      live_from world number live (clone_at world number) refl (stands.clones number (states.Live live) is)

  -- where a clone is absent, the model's clone is
  pub absent_at : (number : ℕ) (blank : Unit {0}) → slice_get running.clones number ≡ Some (states.Absent blank) → clone_at world number ≡ Absent
  absent_at number blank is =
      absent_from world number blank (clone_at world number) (stands.clones number (states.Absent blank) is)

  -- where one asks, the model's clone of that number asks
  pub asking_at : (number : ℕ) (asker : LocalAsker) → slice_get running.clones number ≡ Some (states.Asking asker) → AskingAt world number asker
  asking_at number asker is =
      asking_from world number asker (clone_at world number) refl (stands.clones number (states.Asking asker) is)

  -- a clone in whatever state stands at one of the places
  pub place_of_state : (number : ℕ) (state : RunningClone) → slice_get running.clones number ≡ Some state → number < clone_count
  place_of_state number state is = omega (arith, slice_get_within running.clones number state is, stands.count)

-- a list of clones doesn't change where one of them is set to the state that it has
pub set_as_it_is : (clones : List RunningClone) (number : ℕ) (state : RunningClone) → slice_get clones number ≡ Some state → set clones number state ≡ clones
set_as_it_is clones number state is =
    ap (λ (s : RunningClone). set clones number s) (sym (get_or_from_slice_get clones number state state is)) ∙ set-get_or clones number state

-- the same clone in a world of the same history, domain and properties
pub clone_stands_as : (world next : World) (number : ℕ) (running : RunningClone) (clone : Clone)
    → next.history ≡ world.history → next.domain ≡ world.domain → next.properties ≡ world.properties
    → CloneStandsFor world number running clone → CloneStandsFor next number running clone
clone_stands_as world next number (states.Absent blank) Absent history domain properties stands = tt
clone_stands_as world next number (states.Down device) Empty history domain properties stands = tt
clone_stands_as world next number (states.Down device) (Down stored) history domain properties stands = tt
clone_stands_as world next number (states.Asking running) Asking history domain properties stands =
    record { id = stands.id; domain = stands.domain ∙ sym domain; properties = stands.properties ∙ sym properties }
clone_stands_as world next number (states.Live running) (Live stored held) history domain properties stands = (
  record { id = stands.0.id; domain = stands.0.domain ∙ sym domain; properties = stands.0.properties ∙ sym properties },
  subst (λ (h : List Operation). LocalStandsFor h running stored held) (sym history) stands.1,
)
clone_stands_as world next number running clone history domain properties stands = absurd stands

-- a clone that is still the one of its number
pub still_clone_of : (world next : World) (number : ℕ) (old new : LocalClone) → IsSameClone old new → next.domain ≡ world.domain → next.properties ≡ world.properties
    → IsCloneOf world number old → IsCloneOf next number new
still_clone_of world next number old new same domain properties is = record {
  id = same.id ∙ is.id;
  domain = same.domain ∙ is.domain ∙ sym domain;
  properties = same.properties ∙ is.properties ∙ sym properties;
}

-- the clones still stand for each other once one on each side is replaced by such a pair
pub clones_stand_set : (next : World) (running : List RunningClone) (clones : List Clone) (number : ℕ) (new : RunningClone) (clone : Clone)
    → length running ≡ length clones
    → ((other : ℕ) (state : RunningClone) → slice_get running other ≡ Some state → CloneStandsFor next other state (get_or clones other Absent))
    → CloneStandsFor next number new clone
    → (other : ℕ) (state : RunningClone) → slice_get (set running number new) other ≡ Some state
    → CloneStandsFor next other state (get_or (set clones number clone) other Absent)
clones_stand_set next running clones number new clone count stands now other state is =
    let inside : other < length running = omega (arith, slice_get_within (set running number new) other state is, length-set running number new) in
    elim (cases_eq other number) [
      | inl same ↦
          let here : number < length running = omega (arith, inside, same) in
          let is_new : new ≡ state = sym (get_or-set_same running number new state here)
          ∙ ap (λ k. get_or (set running number new) k state) (sym same) ∙ get_or_from_slice_get (set running number new) other state state is in
          subst (λ (k : ℕ). CloneStandsFor next k state (get_or (set clones number clone) k Absent)) (sym same)
          (subst (λ (c : Clone). CloneStandsFor next number state c) (sym (get_or-set_same clones number clone Absent (omega (arith, here, count))))
          (subst (λ (r : RunningClone). CloneStandsFor next number r clone) is_new now))
      | inr differs ↦
          let was : get_or running other state ≡ state = sym (get_or-set_other running number other new state differs) ∙ get_or_from_slice_get (set running number new) other state state is in
          subst (λ (c : Clone). CloneStandsFor next other state c) (sym (get_or-set_other clones number other clone Absent differs))
          (stands other state (slice_get-get_or running other state inside ∙ ap (λ (r : RunningClone). Some r) was))
    ]

clone_still_stands : (world next : World) (operation : Operation) (number : ℕ) (running : RunningClone) (clone : Clone)
    → IsSound world → IsNext world.history operation → next.history ≡ operation ∷ world.history → next.domain ≡ world.domain → next.properties ≡ world.properties
    → clone_at world number ≡ clone → CloneStandsFor world number running clone → CloneStandsFor next number running clone
clone_still_stands world next operation number (states.Absent blank) Absent sound is_next history domain properties at stands = tt
clone_still_stands world next operation number (states.Down device) Empty sound is_next history domain properties at stands = tt
clone_still_stands world next operation number (states.Down device) (Down stored) sound is_next history domain properties at stands = tt
clone_still_stands world next operation number (states.Asking running) Asking sound is_next history domain properties at stands =
    record { id = stands.id; domain = stands.domain ∙ sym domain; properties = stands.properties ∙ sym properties }
clone_still_stands world next operation number (states.Live running) (Live stored held) sound is_next history domain properties at stands =
    let whole = live_sound world number stored held sound at in (
      record { id = stands.0.id; domain = stands.0.domain ∙ sym domain; properties = stands.0.properties ∙ sym properties },
      subst (λ (h : List Operation). LocalStandsFor h running stored held) (sym history)
          (local_still_stands world.history operation running stored held is_next
          (λ known. done_not_fresh world.history operation operation.dot is_next (whole.closed.done operation.dot known) refl)
          (journal_done world.history stored.base stored.journal whole.journal)
          (sound.held number stored held at) stands.1),
    )
clone_still_stands world next operation number running clone sound is_next history domain properties at stands = absurd stands

-- the clones of a world stand for the same clones once an operation was made
pub clones_still_stand : (running : RunningWorld) (world next : World) (operation : Operation) → StandsFor running world → IsSound world
    → IsNext world.history operation → next.history ≡ operation ∷ world.history → next.domain ≡ world.domain → next.properties ≡ world.properties
    → (number : ℕ) (state : RunningClone) → slice_get running.clones number ≡ Some state → CloneStandsFor next number state (clone_at world number)
clones_still_stand running world next operation stands sound is_next history domain properties number state is =
    clone_still_stands world next operation number state (clone_at world number) sound is_next history domain properties refl (stands.clones number state is)

-- ---- messages, one by one

-- a history, and an operation that comes next
module _ (history : List Operation) (next : Operation) where
  -- a snapshot of closed dots stands for them in the longer history too
  snapshot_still_stands : (snapshot : SnapshotValue) (dots : List Range) → IsNext history next → IsClosed history dots → SnapshotStandsFor history snapshot dots
      → SnapshotStandsFor (next ∷ history) snapshot dots
  snapshot_still_stands snapshot dots is_next closed stands = record {
    known = stands.known;
    pairs = meaning_with_unknown history dots next snapshot.pairs stands.pairs (λ k. done_not_fresh history next next.dot is_next (closed.done next.dot k) refl);
  }

  message_still_stands : (message : MessageValue) (other : Message) → IsNext history next → IsSoundMessage history other → MessageStandsFor history message other
      → MessageStandsFor (next ∷ history) message other
  message_still_stands (CarriesEntry entry) (RangeOf range) is_next sound stands = entry_still_stands history next entry range is_next sound stands
  message_still_stands (CarriesWant ticks) (Want dots) is_next sound stands = stands
  message_still_stands (CarriesSnapshot snapshot) (SnapshotOf dots) is_next sound stands = snapshot_still_stands snapshot dots is_next sound stands
  message_still_stands (CarriesAsk id) (JoinAsk number) is_next sound stands = stands
  message_still_stands (CarriesGive give) (JoinGive number path dots) is_next sound stands = record {
    id = stands.id;
    leaf = stands.leaf;
    snapshot = snapshot_still_stands give.snapshot dots is_next sound.1 stands.snapshot;
  }
  message_still_stands message other is_next sound stands = absurd stands

  -- messages stand for the same messages in the longer history
  pub messages_still_stand : (messages : List MessageValue) (others : List Message) → AllZip (MessageStandsFor history) messages others
      → ((message : Message) → Has others message → IsSoundMessage history message) → IsNext history next → AllZip (MessageStandsFor (next ∷ history)) messages others
  messages_still_stand messages others all sound is_next =
      pairs_as (MessageStandsFor history) (MessageStandsFor (next ∷ history)) messages others all
      (λ message other h stands. message_still_stands message other is_next (sound other h) stands)

-- a snapshot that stands for dots is a good one
pub good_snapshot : (history : List Operation) (snapshot : SnapshotValue) (dots : List Range) → SnapshotStandsFor history snapshot dots → IsGoodSnapshot snapshot
good_snapshot history snapshot dots stands = record {
  ascending = stands.pairs.ascending;
  covered = λ pair h. (stands.known pair.dot).1 (stands.pairs.sound pair h).covered;
}

-- a message that stands for one of the model is a good one: its snapshot is, where it has one
good_message : (history : List Operation) (message : MessageValue) (other : Message) → MessageStandsFor history message other → IsGoodMessage message
good_message history (CarriesSnapshot snapshot) (SnapshotOf dots) stands = good_snapshot history snapshot dots stands
good_message history (CarriesGive give) (JoinGive number path dots) stands = good_snapshot history give.snapshot dots stands.snapshot
good_message history (CarriesEntry entry) other stands = tt
good_message history (CarriesWant ticks) other stands = tt
good_message history (CarriesAsk id) other stands = tt
good_message history message other stands = absurd stands

-- each message that was sent is a good one
pub good_sent : (running : RunningWorld) (world : World) → StandsFor running world → IsSound world → (number : ℕ) (message : MessageValue)
    → slice_get running.messages number ≡ Some message → IsGoodMessage message
good_sent running world stands sound number message is =
    let at : PairAt (MessageStandsFor world.history) message world.messages number =
    pair_at (MessageStandsFor world.history) running.messages world.messages stands.messages number message is in
    good_message world.history message at.other at.relates

-- ---- ids

-- two numbers of one byte have different ids
pub same_number : (one other : ℕ) → one < 256 → other < 256 → id_of one ≡ id_of other → one ≡ other
same_number one other below under same =
    let last : get_or (id_of one) 15 0 ≡ get_or (id_of other) 15 0 = ap (λ (bytes : List ℕ). get_or bytes 15 0) same in
    omega (arith, last)
