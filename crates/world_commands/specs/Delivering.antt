-- What a clone does with a message that comes to it, by what it answers. The private calls behind `deliver` cite it.
use Rattle.std.specs.Prelude.{◌≡◌, ◌≢◌, ℕ, ◌+◌, ◌-◌, ◌^◌, List, ◌++◌, None, length, map, Result, Ok, Err}
use Rattle.mld_ops.specs.Messages.{MessageValue, give_value, message_value, IsGoodMessage}
use Rattle.mld_ops.specs.declared.messages.Give.{Give}
use Rattle.mld_ops.specs.declared.messages.Message.{Message}
use Rattle.mld_model.specs.declared.CloneState.TheVariants as states
use Rattle.mld_model.specs.Local.{LocalAsker, LocalClone, joined_clone}
use Rattle.mld_model.specs.LocalStep.{IsForeignTo}
use Rattle.mld_model.specs.StandsFor.{RunningClone}
use Rattle.crash_laws.specs.schedule_model.WorldStep.{IsAwayReply}
use Rattle.crash_laws.specs.clone_core.Banked.{BankedClone}
use Rattle.crash_laws.specs.clone_core.CloneCalls.{LocallyReceives, Refuses}
use Rattle.crash_laws.specs.clone_core.Joining.{IsGiveFor, GivesNone}
use Rattle.crash_laws.specs.clone_core.declared.askers.Adopted.{Adopted}
use Rattle.crash_laws.specs.clone_core.declared.askers.Adopted.TheVariants as adopted
use Rattle.crash_laws.specs.clone_parts.declared.answers.Got.TheVariants as got
use Rattle.crash_laws.specs.clone_parts.declared.faults.ReceiveFault.TheVariants as fault
use Rattle.world_commands.specs.declared.deliver.Received.{Received}
use Rattle.world_commands.specs.declared.deliver.Received.TheVariants as received
use Rattle.world_commands.specs.declared.faults.WorldFault.{WorldFault}
use Rattle.schedule_replies.specs.declared.replies.Reply.{Reply}
use Rattle.schedule_replies.specs.declared.replies.Reply.TheVariants as replies
use Rattle.schedule_replies.specs.Replies.{reply_value}
use Rattle.world_commands.specs.States.{HasState, Becomes}
use Rattle.world_commands.specs.WorldFaults.{fault_of_made}
use Rattle.world_commands.specs.WorldBanks.{BankedState}

-- the message says no more of the path of the clone of the number than that clone knows, which is open and has a generation left; and the
-- message's snapshot, where it has one, is a good one
pub record IsFitFor {B : Type 0} (clones : List (BankedState B)) (number : ℕ) (sent : MessageValue) : Type 0 where
  pub own : (live : BankedClone B) → HasState clones number (states.Live live) → ¬ IsForeignTo live.local sent
  pub opened : (live : BankedClone B) → HasState clones number (states.Live live) → live.closed ≡ None
  pub left : (live : BankedClone B) → HasState clones number (states.Live live) → live.generation ≢ 2 ^ 64 - 1
  pub good : IsGoodMessage sent

-- what a live clone does with a message
abbrev pub ReceivesLive : LocalClone → Message → LocalClone → Received → Type 0
ReceivesLive old sent new (received.Told (replies.Took ranges)) = LocallyReceives old sent (got.Took ranges) new
ReceivesLive old sent new (received.Told (replies.Merged ranges)) = LocallyReceives old sent (got.Merged ranges) new
ReceivesLive old sent new (received.Told replies.Held) = LocallyReceives old sent got.Held new
ReceivesLive old sent new (received.Told replies.Known) = LocallyReceives old sent got.Known new
ReceivesLive old sent new (received.Told replies.Ignored) = LocallyReceives old sent got.Ignored new
ReceivesLive old sent new (received.Told replies.Nothing) = LocallyReceives old sent got.Nothing new
ReceivesLive old sent new (received.Told replies.HeldFull) = Refuses old sent fault.HeldFull × (new ≡ old)
ReceivesLive old sent new (received.Told replies.Deep) = Refuses old sent fault.Deep × (new ≡ old)
ReceivesLive old sent new (received.Sends answers) = LocallyReceives old sent (got.Answer answers) new
ReceivesLive old sent new other = ⊥

-- one who asks took the leaf that the message gives it, and lives at the path
pub record LivesAt (old new : RunningClone) (sent : Message) (path : List ℕ) : Type 0 where
  pub asker : LocalAsker
  pub was : old ≡ states.Asking asker
  pub give : Give
  pub is : IsGiveFor asker sent give
  pub live : LocalClone
  pub joins : live ≡ joined_clone asker (give_value give)
  pub now : new ≡ states.Live live
  pub at : path ≡ live.path

-- one who asks got no leaf by the message
pub record PassesOver (old new : RunningClone) (sent : Message) : Type 0 where
  pub asker : LocalAsker
  pub was : old ≡ states.Asking asker
  pub none : GivesNone asker sent
  pub same : new ≡ old

-- what one who asks does with a message
abbrev pub ReceivesAsking : RunningClone → RunningClone → Message → Received → Type 0
ReceivesAsking old new sent (received.Told (replies.Joined path)) = LivesAt old new sent path
ReceivesAsking old new sent (received.Told replies.Ignored) = PassesOver old new sent
ReceivesAsking old new sent other = ⊥

-- what one who asked is now, and its answer: by what became of the message
abbrev pub IsToldOf : {B : Type 0} → ℕ → Adopted B → BankedState B × Result Received WorldFault → Type 0
IsToldOf number (adopted.Joined clone) told = (told.0 ≡ states.Live clone) × (told.1 ≡ Ok (received.Told (replies.Joined clone.local.path)))
IsToldOf number (adopted.Ignored asking) told = (told.0 ≡ states.Asking asking) × (told.1 ≡ Ok (received.Told replies.Ignored))
IsToldOf number (adopted.Refused fault banks) told = (told.0 ≡ states.Down banks) × (told.1 ≡ Err (fault_of_made number fault))

-- a clone that is absent or down answers by its state
abbrev pub StaysAway : RunningClone → Received → Type 0
StaysAway state (received.Told reply) = IsAwayReply state (reply_value reply)
StaysAway state other = ⊥

-- what the clone of the number does with a message, by its state
pub data ReceivesAt (old new : List RunningClone) (number : ℕ) (sent : Message) (answer : Received) : Type 0 where
  WhereAway : (state : RunningClone) → HasState old number state → StaysAway state answer → new ≡ old → ReceivesAt old new number sent answer
  WhereLive : (before after : LocalClone) → Becomes old new number (states.Live before) (states.Live after) → ReceivesLive before sent after answer
      → ReceivesAt old new number sent answer
  WhereAsking : (before after : RunningClone) → Becomes old new number before after → ReceivesAsking before after sent answer → ReceivesAt old new number sent answer

-- the answers are the next messages, and the reply names their numbers
abbrev pub SendsAnswers : List MessageValue → List Message → List MessageValue → Reply → Type 0
SendsAnswers messages answers sent (replies.Answer first end) =
    (sent ≡ messages ++ map message_value answers) × (first ≡ length messages + 1) × (end ≡ first + length answers)
SendsAnswers messages answers sent reply = ⊥
