-- The states of a world's clones. `take_state` and `new_asker` cite it.
use Rattle.std.specs.Prelude.{◌≡◌, ℕ, List, slice_get, slice_set, Some}
use Rattle.mld_model.specs.Reply.{Reply, IsAbsent, IsAsking, IsDown, IsLive}
use Rattle.mld_model.specs.Local.{LocalAsker}
use Rattle.mld_model.specs.StandsFor.{RunningClone, id_of}
use Rattle.mld_ops.specs.Properties.{AreKept}
use Rattle.mld_model.specs.declared.CloneState.TheVariants as states
use Rattle.crash_laws.specs.schedule_model.WorldStep.{IsMissingReply}

-- the clone of the number is in this state
abbrev pub HasState : {X : Type 0} → List X → ℕ → X → Type 0
HasState clones number state = slice_get clones number ≡ Some state

-- the clone of the number was in one state, and is in another now; the others are as they were
pub record Becomes {X : Type 0} (old new : List X) (number : ℕ) (before after : X) : Type 0 where
  pub was : HasState old number before
  pub now : new ≡ slice_set old number after

-- the reply that says the state of a clone
abbrev pub reply_of_state : RunningClone → Reply
reply_of_state (states.Absent blank) = IsAbsent
reply_of_state (states.Asking asker) = IsAsking
reply_of_state (states.Down device) = IsDown
reply_of_state (states.Live live) = IsLive

-- the clone of the number isn't live, and this is the reply that says its state
pub record IsMissingAt (clones : List RunningClone) (number : ℕ) (reply : Reply) : Type 0 where
  pub state : RunningClone
  pub at : HasState clones number state
  pub is : IsMissingReply state reply

-- one who asks begins with the id of its number, this domain, and these properties as they are kept
pub record IsNewAsker (domain : List ℕ) (properties : List (List ℕ)) (number : ℕ) (asker : LocalAsker) : Type 0 where
  pub id : asker.id ≡ id_of number
  pub domain_is : asker.domain ≡ domain
  pub kept : AreKept properties asker.properties
