-- What `join` does is the model's step.
use Rattle.std.proofs.Common.{◌≡◌, ℕ, ◌+◌, List, [], ◌∷◌, ◌++◌, Option, Result, Ok, Err, IfOk, IfErr, refl, sym, ◌∙◌, ap, subst, length, map, set}
use Rattle.mld_io.specs.Arm.{Meter}
use Rattle.mld_io.specs.Disk.{Log}
use Rattle.mld_ops.specs.Messages.{MessageValue, CarriesAsk, message_value}
use Rattle.mld_ops.proofs.PropertiesLaws.{kept_same}
use Rattle.mld_ops.specs.declared.messages.Message.{Message}
use Rattle.mld_ops.specs.declared.messages.Message.TheVariants as kinds
use Rattle.mld_model.specs.declared.CloneState.TheVariants as states
use Rattle.mld_model.specs.Reply.{Reply, Sent, IsLive, IsDown}
use Rattle.mld_model.specs.Local.{LocalAsker, IsNamed}
use Rattle.mld_model.specs.StandsFor.{RunningClone, RunningWorld, id_of}
use Rattle.mld_model.proofs.StandsForLaws.{asking_at}
use Rattle.crash_laws.specs.schedule_model.declared.Command.TheVariants.{Join}
use Rattle.crash_laws.proofs.of_schedule_model.WorldLaws.{stepped}
use Rattle.crash_laws.proofs.of_schedule_model.JoinLaws.{join_absent, join_again, join_live, join_down}
use Rattle.crash_laws.specs.clone_core.Banked.{BankedAsker}
use Rattle.world_commands.specs.declared.faults.WorldFault.{WorldFault}
use Rattle.world_commands.specs.declared.faults.WorldFault.TheVariants as faults
use Rattle.world_commands.specs.declared.parts.Parts.{Parts}
use Rattle.schedule_replies.specs.declared.replies.Reply.{Reply as CodeReply}
use Rattle.schedule_replies.specs.declared.replies.Reply.TheVariants as replies
use Rattle.world_commands.specs.Asking.{AsksFirst, SendsQuestion}
use Rattle.world_commands.specs.States.{IsNewAsker, HasState, reply_of_state}
use Rattle.schedule_replies.specs.Replies.{reply_value}
use Rattle.world_commands.specs.WorldBanks.{BankedState, in_memory, banks_of_state, memory_of, MeterGoesOn, HadNoFault, HasFaultsFor}
use Rattle.world_commands.specs.WorldParts.{running_of, KeepsDomain, Does}
use Rattle.world_commands.specs.Worlds.{Moves}
use Rattle.world_commands.proofs.BankLemmas.{memory_at, memory_becomes, goes_on_same, memory_at_one, faults_set}
use Rattle.world_commands.proofs.WorldLemmas.{after_step, moved, does_carried, does_still, keeps_set}

-- one who asks already asks again
pub asks_again : (running : RunningWorld) (number : ℕ) (asker : LocalAsker) (question : Message) (sent : List MessageValue) (reply : CodeReply) → HasState running.clones number (states.Asking asker)
    → question ≡ kinds.JoinAsk asker.id → SendsQuestion running.messages question sent reply → Moves running (Join number) (reply_value reply) (after_step running running.clones sent)
asks_again running number asker question sent (replies.Sent message) at is sends = λ world stands sound.
    let id : asker.id ≡ id_of number = (asking_at running world stands number asker at).is.id in
    moved running (Join number) (Sent (length running.messages + 1)) (Sent message) running.clones running.clones (running.messages ++ CarriesAsk (id_of number) ∷ []) sent
    (λ i. Sent (sym sends.1 i)) refl
    (sym (sends.0 ∙ ap (λ (m : Message). running.messages ++ message_value m ∷ []) is ∙ ap (λ (d : List ℕ). running.messages ++ CarriesAsk d ∷ []) id))
    (λ w s o. join_again running w s o number asker at) world stands sound
asks_again running number asker question sent reply at is sends = absurd sends

-- one who wasn't there asks
pub asks_first : (running : RunningWorld) (number : ℕ) (blank : Unit {0}) (asker : LocalAsker) (question : Message) (new : List RunningClone) (sent : List MessageValue) (reply : CodeReply)
    → IsNamed running.domain running.properties → HasState running.clones number (states.Absent blank) → IsNewAsker running.domain running.properties number asker → question ≡ kinds.JoinAsk asker.id
    → new ≡ set running.clones number (states.Asking asker) → SendsQuestion running.messages question sent reply → Moves running (Join number) (reply_value reply) (after_step running new sent)
asks_first running number blank asker question new sent (replies.Sent message) named at begins is clones sends =
    moved running (Join number) (Sent (length running.messages + 1)) (Sent message) (set running.clones number (states.Asking asker)) new (running.messages ++ CarriesAsk (id_of number) ∷ []) sent
    (λ i. Sent (sym sends.1 i)) (sym clones)
    (sym (sends.0 ∙ ap (λ (m : Message). running.messages ++ message_value m ∷ []) is ∙ ap (λ (d : List ℕ). running.messages ++ CarriesAsk d ∷ []) begins.id))
    (λ world stands sound. join_absent running world stands sound number blank asker at begins.id begins.domain_is
    (kept_same running.properties asker.properties begins.kept named.ascending))
asks_first running number blank asker question new sent reply named at begins is clones sends = absurd sends

-- a clone that has a leaf, live or down, answers by its state
pub settled : {B : Type 0} (running : RunningWorld) (number : ℕ) (state : BankedState B) (reply : Reply) → reply ≡ reply_of_state (in_memory state) → HasState running.clones number (in_memory state)
    → ((asking : BankedAsker B) → state ≡ states.Asking asking → ⊥) → ((blank : B) → state ≡ states.Absent blank → ⊥) → Moves running (Join number) reply (stepped running)
settled running number (states.Live live) reply is at busy absent =
    moved running (Join number) IsLive reply running.clones running.clones running.messages running.messages (sym is) refl refl
    (λ world stands sound. join_live running world stands sound number live.local at)
settled running number (states.Down banks) reply is at busy absent =
    moved running (Join number) IsDown reply running.clones running.clones running.messages running.messages (sym is) refl refl
    (λ world stands sound. join_down running world stands sound number tt at)
settled running number (states.Asking asking) reply is at busy absent = absurd (busy asking refl)
settled running number (states.Absent banks) reply is at busy absent = absurd (absent banks refl)

-- ---- with banks

module _ {B : Type 0} (log : B → Option Log) (meter : B → Meter) (old new : Parts B) (domain : new.domain ≡ old.domain) (properties : new.properties ≡ old.properties) (number : ℕ) where
  -- one who asks already asked again
  pub join_again_done : (asking : BankedAsker B) (question : Message) (r : Result CodeReply WorldFault) → HasState old.clones.items number (states.Asking asking) → question ≡ kinds.JoinAsk asking.asker.id
      → new.clones.items ≡ old.clones.items → IfOk r (SendsQuestion (map message_value old.messages.items) question (map message_value new.messages.items)) → IfOk r (Does log old (Join number) new)
  join_again_done asking question (Err fault) at is same sends = tt
  join_again_done asking question (Ok reply) at is same sends =
      does_still log meter old new domain properties (Join number) reply
      (λ steps. subst (λ (l : List (BankedState B)). Moves (memory_of (running_of old steps)) (Join number) (reply_value reply) (after_step (memory_of (running_of old steps)) (map in_memory l) (map message_value new.messages.items))) (sym same)
      (asks_again (memory_of (running_of old steps)) number asking.asker question (map message_value new.messages.items) reply (memory_at old.clones.items number (states.Asking asking) at) is sends)) tt same

  -- one who wasn't there asked
  pub join_first_done : (question : Message) (r : Result CodeReply WorldFault) → IsNamed old.domain old.properties.items → AsksFirst old.domain old.properties.items number old.clones.items new.clones.items question
      → IfOk r (SendsQuestion (map message_value old.messages.items) question (map message_value new.messages.items)) → IfOk r (Does log old (Join number) new)
  join_first_done question (Err fault) named asks sends = tt
  join_first_done question (Ok reply) named asks sends =
      let becomes = memory_becomes old.clones.items new.clones.items number (states.Absent asks.blank) (states.Asking asks.asking) asks.becomes in
      does_carried log meter old new domain properties (Join number) reply
      (λ steps. asks_first (memory_of (running_of old steps)) number tt asks.asking.asker question (map in_memory new.clones.items) (map message_value new.messages.items) reply
      named becomes.was asks.begins asks.is becomes.now sends)
      tt (record { state = states.Asking asks.asking; now = asks.becomes.now; carried = tt })

  -- its banks were not used
  pub join_first_keeps : (question : Message) → AsksFirst old.domain old.properties.items number old.clones.items new.clones.items question → KeepsDomain meter number old new
  join_first_keeps question asks =
      keeps_set log meter old new domain properties number (states.Absent asks.blank) (states.Asking asks.asking) asks.becomes
      (subst (λ (b : B). MeterGoesOn (meter asks.blank) (meter b)) (sym asks.banks) (goes_on_same (meter asks.blank)))

  -- a clone that has a leaf answered by its state
  pub join_settled_done : (state : BankedState B) (reply : CodeReply) → reply_value reply ≡ reply_of_state (in_memory state) → HasState old.clones.items number state
      → ((asking : BankedAsker B) → state ≡ states.Asking asking → ⊥) → ((blank : B) → state ≡ states.Absent blank → ⊥) → new.clones.items ≡ old.clones.items → new.messages.items ≡ old.messages.items
      → Does log old (Join number) new reply
  join_settled_done state reply is at busy absent same sent =
      does_still log meter old new domain properties (Join number) reply
      (λ steps. moved (memory_of (running_of old steps)) (Join number) (reply_value reply) (reply_value reply) (map in_memory old.clones.items) (map in_memory new.clones.items)
      (map message_value old.messages.items) (map message_value new.messages.items) refl
      (ap (λ (l : List (BankedState B)). map in_memory l) (sym same)) (ap (λ (m : List Message). map message_value m) (sym sent))
      (settled (memory_of (running_of old steps)) number state (reply_value reply) is (memory_at old.clones.items number state at) busy absent)) tt same

-- one who begins to ask uses no banks, and memory ran out at most
pub join_first_faults : {B T : Type 0} (meter : B → Meter) (domain : List ℕ) (properties : List (List ℕ)) (old new : List (BankedState B)) (number : ℕ) (question : Message)
    (r : Result T WorldFault) → AsksFirst domain properties number old new question → IfErr r (λ fault. fault ≡ faults.NoMemory)
    → HasFaultsFor number meter (map banks_of_state old) (map banks_of_state new) r
join_first_faults {B = B} meter domain properties old new number question r asks none =
    let same : HadNoFault (meter asks.blank) (meter asks.asking.banks) = ap (λ (b : B). (meter b).real_faults) asks.banks in
    faults_set meter old new number (states.Absent asks.blank) (states.Asking asks.asking) r asks.becomes
    (memory_at_one number (meter asks.blank) (meter asks.asking.banks) r same none)
