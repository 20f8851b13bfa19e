-- What `ask` does is the model's step.
use Rattle.std.proofs.Common.{◌≡◌, ℕ, ◌+◌, List, [], ◌∷◌, ◌++◌, Option, Result, Ok, Err, IfOk, refl, sym, ◌∙◌, ap, length, map}
use Rattle.mld_io.specs.Arm.{Meter}
use Rattle.mld_io.specs.Disk.{Log}
use Rattle.mld_ops.specs.Messages.{MessageValue, CarriesWant, message_value}
use Rattle.mld_ops.specs.declared.messages.Message.{Message}
use Rattle.mld_model.specs.declared.CloneState.TheVariants as states
use Rattle.mld_model.specs.Reply.{Sent}
use Rattle.mld_model.specs.Local.{LocalClone}
use Rattle.mld_model.specs.StandsFor.{RunningClone, RunningWorld}
use Rattle.crash_laws.specs.schedule_model.declared.Command.TheVariants.{Ask}
use Rattle.crash_laws.specs.schedule_model.WorldStep.{IsMissingReply}
use Rattle.crash_laws.proofs.of_schedule_model.AskLaws.{ask_follows, ask_missing}
use Rattle.crash_laws.specs.clone_core.Banked.{BankedClone}
use Rattle.world_commands.specs.declared.faults.WorldFault.{WorldFault}
use Rattle.world_commands.specs.declared.parts.Parts.{Parts}
use Rattle.schedule_replies.specs.declared.replies.Reply.{Reply as CodeReply}
use Rattle.schedule_replies.specs.declared.replies.Reply.TheVariants as replies
use Rattle.world_commands.specs.Asking.{SendsQuestion}
use Rattle.schedule_replies.specs.Replies.{reply_value}
use Rattle.world_commands.specs.States.{HasState}
use Rattle.world_commands.specs.WorldBanks.{BankedState, in_memory, memory_of}
use Rattle.world_commands.specs.WorldParts.{running_of, Does}
use Rattle.world_commands.specs.Worlds.{Moves}
use Rattle.world_commands.proofs.BankLemmas.{memory_at}
use Rattle.world_commands.proofs.WorldLemmas.{after_step, moved, does_still}

-- a live clone asks for what it lacks
asks_for : (running : RunningWorld) (number : ℕ) (live : LocalClone) (want : Message) (new : List RunningClone) (sent : List MessageValue) (reply : CodeReply) → HasState running.clones number (states.Live live)
    → message_value want ≡ CarriesWant live.ticks → new ≡ running.clones → SendsQuestion running.messages want sent reply → Moves running (Ask number) (reply_value reply) (after_step running new sent)
asks_for running number live want new sent (replies.Sent message) at is same sends =
    moved running (Ask number) (Sent (length running.messages + 1)) (Sent message) running.clones new (running.messages ++ CarriesWant live.ticks ∷ []) sent
    (λ i. Sent (sym sends.1 i)) (sym same) (sym (sends.0 ∙ ap (λ (m : MessageValue). running.messages ++ m ∷ []) is))
    (λ world stands sound. ask_follows running world stands sound number live at)
asks_for running number live want new sent reply at is same sends = absurd sends

-- ---- with banks

module _ {B : Type 0} (log : B → Option Log) (meter : B → Meter) (old new : Parts B) (domain : new.domain ≡ old.domain) (properties : new.properties ≡ old.properties) (number : ℕ) (same : new.clones.items ≡ old.clones.items) where
  -- a live clone asked
  pub ask_done : (live : BankedClone B) (want : Message) (r : Result CodeReply WorldFault) → HasState old.clones.items number (states.Live live) → message_value want ≡ CarriesWant live.local.ticks
      → IfOk r (SendsQuestion (map message_value old.messages.items) want (map message_value new.messages.items)) → IfOk r (Does log old (Ask number) new)
  ask_done live want (Err fault) at is sends = tt
  ask_done live want (Ok reply) at is sends =
      does_still log meter old new domain properties (Ask number) reply
      (λ steps. asks_for (memory_of (running_of old steps)) number live.local want (map in_memory new.clones.items) (map message_value new.messages.items) reply
      (memory_at old.clones.items number (states.Live live) at) is (ap (λ (l : List (BankedState B)). map in_memory l) same) sends)
      tt same

  -- a clone that isn't live did not
  pub ask_missing_done : (state : BankedState B) (reply : CodeReply) → HasState old.clones.items number state → new.messages.items ≡ old.messages.items
      → IsMissingReply (in_memory state) (reply_value reply) → Does log old (Ask number) new reply
  ask_missing_done state reply at sent missing =
      does_still log meter old new domain properties (Ask number) reply
      (λ steps. moved (memory_of (running_of old steps)) (Ask number) (reply_value reply) (reply_value reply) (map in_memory old.clones.items) (map in_memory new.clones.items)
      (map message_value old.messages.items) (map message_value new.messages.items) refl
      (ap (λ (l : List (BankedState B)). map in_memory l) (sym same)) (ap (λ (m : List Message). map message_value m) (sym sent))
      (λ world stands sound. ask_missing (memory_of (running_of old steps)) world stands sound number (in_memory state) (reply_value reply) (memory_at old.clones.items number state at) missing)) tt same
