-- A running world where a clone stops or opens stands for what the model's step makes.
use Rattle.std.proofs.Common.{◌≡◌, ℕ, [], refl, sym, subst, Some, None}
use Rattle.std.specs.Prelude.{slice_get}
use Rattle.schedule_model.specs.declared.Command.TheVariants.{Stop, Open}
use Rattle.mld_model.specs.declared.CloneState.TheVariants as states
use Rattle.mld_model.specs.Clone.{Clone, Absent, Asking, Empty, Down, Live, Stored, kept_of}
use Rattle.mld_model.specs.World.{World, clone_at, with_clone}
use Rattle.mld_model.specs.CloneStep.{Reopens}
use Rattle.mld_model.specs.Reply.{Reply, IsAsking, Stopped, Opened}
use Rattle.mld_model.specs.Sound.{IsSound}
use Rattle.mld_model.specs.Local.{LocalAsker, LocalClone, IsSameClone, stored_of, IsLocal}
use Rattle.mld_model.specs.LocalStep.{Stop as StopClone, Open as OpenClone, stops, opens}
use Rattle.mld_model.specs.StandsFor.{RunningClone, RunningWorld, IsCloneOf, IsAskerOf, StoredStandsFor, CloneStandsFor, StandsFor}
use Rattle.mld_model.proofs.StandsForLaws.{live_at}
use Rattle.mld_model.proofs.StoredLaws.{opened_empty_sound}
use Rattle.schedule_model.specs.Step.{Step}
use Rattle.schedule_model.specs.WorldStep.{stepped, stepped_into, Follows, IsMissingReply, IsStandingReply}
use Rattle.schedule_model.proofs.WorldLaws.{missing_replies, staying_follows, into_stands}
use Rattle.schedule_model.proofs.FollowsLaws.{turning}
pub use Rattle.schedule_model.proofs.ChangesLaws.{step_keeps_domain, step_keeps_others, kept_still_stands}

-- where the running clone isn't down, the model's is in the same state, and answers by it
standing_replies : (world : World) (number : ℕ) (state : RunningClone) (clone : Clone) (reply : Reply)
    → IsStandingReply state reply → CloneStandsFor world number state clone → Reopens world number clone reply world
standing_replies world number (states.Absent blank) Absent reply is stands = (is, refl)
standing_replies world number (states.Asking asker) Asking reply is stands = (is, refl)
standing_replies world number (states.Live live) (Live stored held) reply is stands = (is, refl)
standing_replies world number (states.Down device) clone reply is stands = absurd is
standing_replies world number state clone reply is stands = absurd stands

-- where the running clone is down, the model's is down with what it keeps
down_from : (world : World) (number : ℕ) (device : Unit {0}) (clone : Clone) (stored : Stored) → CloneStandsFor world number (states.Down device) clone
    → kept_of clone ≡ Some stored → clone ≡ Down stored
down_from world number device Empty stored stands kept = absurd (cc kept)
down_from world number device (Down other) stored stands kept = let same : other ≡ stored = cc in (λ i. Down (same i))
down_from world number device clone stored stands kept = absurd stands

-- or it keeps nothing
empty_from : (world : World) (number : ℕ) (device : Unit {0}) (clone : Clone) → CloneStandsFor world number (states.Down device) clone
    → kept_of clone ≡ None → clone ≡ Empty
empty_from world number device Empty stands kept = refl
empty_from world number device (Down other) stands kept = absurd (cc kept)
empty_from world number device clone stands kept = absurd stands

-- a running world that stands for a sound world
module _ (running : RunningWorld) (world : World) (stands : StandsFor running world) (sound : IsSound world) where
  -- ---- stop

  -- a live clone stops, and its model then is down with what it kept
  pub stop_live : (number : ℕ) (live : LocalClone)
      → slice_get running.clones number ≡ Some (states.Live live) → Follows world (Stop number) Stopped (stepped_into running number (states.Down tt))
  unfolding Step
  stop_live number live is =
      turning running world stands sound (Stop number) (states.Live live) (states.Down live) StopClone StopClone Stopped (live_at running world stands number live is) refl (λ next does. does)
      (stops live)

  -- a clone that isn't live stops nothing
  pub stop_missing : (number : ℕ) (state : RunningClone) (reply : Reply)
      → slice_get running.clones number ≡ Some state → IsMissingReply state reply → Follows world (Stop number) reply (stepped running)
  unfolding Step
  stop_missing number state reply is missing =
      staying_follows running world stands sound (Stop number) reply
      (missing_replies world number state (clone_at world number) reply _ missing (stands.clones number state is))

  -- ---- open

  -- a clone that isn't down answers by its state
  pub open_standing : (number : ℕ) (state : RunningClone) (reply : Reply)
      → slice_get running.clones number ≡ Some state → IsStandingReply state reply → Follows world (Open number) reply (stepped running)
  unfolding Step
  open_standing number state reply is standing =
      staying_follows running world stands sound (Open number) reply
      (standing_replies world number state (clone_at world number) reply standing (stands.clones number state is))

  -- a clone that is down opens with what its device has of it
  pub open_stored : (number : ℕ) (device : Unit {0}) (stored : Stored) (local : LocalClone)
      → slice_get running.clones number ≡ Some (states.Down device) → kept_of (clone_at world number) ≡ Some stored
      → IsCloneOf world number local → IsLocal local → local.held ≡ [] → StoredStandsFor world.history (stored_of local) stored
      → Follows world (Open number) Opened (stepped_into running number (states.Live local))
  unfolding Step
  open_stored number device stored local is kept of whole none has =
      let down : clone_at world number ≡ Down stored = down_from world number device (clone_at world number) stored (stands.clones number (states.Down device) is) kept in
      let same : IsSameClone local local = record { id = refl; domain = refl; properties = refl; path = refl; base = refl; base_pairs = refl } in
      turning running world stands sound (Open number) (states.Down local) (states.Live local) OpenClone OpenClone Opened
      (record { stored = stored; down = down; is = of; stands = has }) refl (λ next does. does)
      (opens local local (record { same = same; entries = refl; held = none; local = whole }))

  -- one that keeps nothing asks from then on
  pub open_empty : (number : ℕ) (device : Unit {0}) (asker : LocalAsker)
      → slice_get running.clones number ≡ Some (states.Down device) → kept_of (clone_at world number) ≡ None → IsAskerOf world number asker
      → Follows world (Open number) IsAsking (stepped_into running number (states.Asking asker))
  unfolding Step
  open_empty number device asker is kept of =
      let down : clone_at world number ≡ Empty = empty_from world number device (clone_at world number) (stands.clones number (states.Down device) is) kept in
      let next : World = with_clone world number Asking in
      record {
        next = next;
        steps = subst (λ (c : Clone). Reopens world number c IsAsking next) (sym down) (refl, refl);
        sound = opened_empty_sound world number sound down;
        stands = into_stands running world stands sound number (states.Asking asker) Asking of;
      }
