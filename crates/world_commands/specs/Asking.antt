-- How a clone asks for a leaf. `send_question` cites it.
use Rattle.std.specs.Prelude.{◌≡◌, ℕ, ◌+◌, List, [], ◌∷◌, ◌++◌, length}
use Rattle.mld_ops.specs.Messages.{MessageValue, message_value}
use Rattle.mld_ops.specs.declared.messages.Message.{Message}
use Rattle.mld_ops.specs.declared.messages.Message.TheVariants as kinds
use Rattle.mld_model.specs.declared.CloneState.TheVariants as states
use Rattle.crash_laws.specs.clone_core.Banked.{BankedAsker}
use Rattle.schedule_replies.specs.declared.replies.Reply.{Reply}
use Rattle.schedule_replies.specs.declared.replies.Reply.TheVariants as replies
use Rattle.world_commands.specs.States.{IsNewAsker, Becomes}
use Rattle.world_commands.specs.WorldBanks.{BankedState}

-- one who wasn't there asks from now on, on the banks that it had, by this message
pub record AsksFirst {B : Type 0} (domain : List ℕ) (properties : List (List ℕ)) (number : ℕ) (old new : List (BankedState B)) (question : Message) : Type 0 where
  pub blank : B
  pub asking : BankedAsker B
  pub becomes : Becomes old new number (states.Absent blank) (states.Asking asking)
  pub banks : asking.banks ≡ blank
  pub begins : IsNewAsker domain properties number asking.asker
  pub is : question ≡ kinds.JoinAsk asking.asker.id

-- the question is the next message, and the reply names its number
abbrev pub SendsQuestion : List MessageValue → Message → List MessageValue → Reply → Type 0
SendsQuestion messages question sent (replies.Sent number) = (sent ≡ messages ++ message_value question ∷ []) × (number ≡ length messages + 1)
SendsQuestion messages question sent reply = ⊥
