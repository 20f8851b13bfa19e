-- What commands do with the parts of a running world is the model's step.
use Rattle.std.proofs.Common.{◌≡◌, ◌≢◌, ℕ, ◌+◌, ◌-◌, ◌^◌, ◌<◌, List, Option, None, refl, sym, ◌∙◌, arith, subst, map, set}
use Rattle.std.proofs.lemmas.List.{length-map}
use Rattle.mld_io.specs.Arm.{Meter}
use Rattle.mld_io.specs.Disk.{Log}
use Rattle.tree_clock.specs.Limits.{tick_limit}
use Rattle.tree_clock.specs.Clock.{ticks_of}
use Rattle.mld_ops.specs.Messages.{MessageValue, message_value}
use Rattle.mld_model.specs.declared.CloneState.TheVariants as states
use Rattle.mld_model.specs.Reply.{Reply}
use Rattle.mld_model.specs.Sound.{IsSound}
use Rattle.mld_model.specs.StandsFor.{RunningClone, RunningWorld, StandsFor}
use Rattle.mld_model.specs.World.{World}
use Rattle.mld_model.proofs.StandsForLaws.{live_at}
use Rattle.crash_laws.specs.schedule_model.declared.Command.{Command}
use Rattle.crash_laws.specs.schedule_model.Step.{Step, number_of_clone}
use Rattle.crash_laws.specs.schedule_model.WorldStep.{Follows, IsMissingReply}
use Rattle.crash_laws.proofs.of_schedule_model.WorldLaws.{next_tick_within}
use Rattle.crash_laws.specs.clone_core.Banked.{BankedClone}
use Rattle.world_commands.specs.declared.parts.Parts.{Parts}
use Rattle.schedule_replies.specs.declared.replies.Reply.{Reply as CodeReply}
use Rattle.world_commands.specs.WorldParts.{running_of, HasStepLeft, KeepsDomain, Does}
use Rattle.schedule_replies.specs.Replies.{reply_value}
use Rattle.world_commands.specs.States.{HasState, Becomes, reply_of_state}
use Rattle.world_commands.specs.WorldBanks.{BankedState, in_memory, banks_of_state, memory_of, IsOpenAt, IsBacked, StandsOnBanks, MeterGoesOn}
use Rattle.world_commands.specs.OneCall.{UsesBanksOf, IsCarriedAt}
use Rattle.world_commands.specs.Worlds.{Moves}
use Rattle.world_commands.proofs.BankLemmas.{memory_at, uses_same, uses_set, StaysShut, moves_at, moves_still, moves_carried}

-- ---- the world

-- a clone of parts that stand for a sound world with a step left has a tick left
pub has_next_tick : {B : Type 0} (log : B → Option Log) (parts : Parts B) (number : ℕ) (live : BankedClone B) → HasStepLeft log parts
    → HasState parts.clones.items number (states.Live live) → ticks_of live.local.ticks live.local.path < tick_limit
has_next_tick log parts number live left at =
    let running : RunningWorld = memory_of (running_of parts left.steps) in
    let stands : StandsFor running left.standing.world = left.standing.stands.memory in
    omega (
      arith,
      next_tick_within running left.standing.world stands left.standing.sound number live.local
          (live_at running left.standing.world stands number live.local (memory_at parts.clones.items number (states.Live live) at)),
      left.few,
    )

-- and is open
pub is_open : {B : Type 0} (log : B → Option Log) (parts : Parts B) (number : ℕ) (live : BankedClone B) → HasStepLeft log parts → HasState parts.clones.items number (states.Live live)
    → live.closed ≡ None
is_open log parts number live left at = (left.standing.stands.backed number (states.Live live) at).opened

-- and has a generation left
pub has_generation : {B : Type 0} (log : B → Option Log) (parts : Parts B) (number : ℕ) (live : BankedClone B) → HasStepLeft log parts → HasState parts.clones.items number (states.Live live)
    → live.generation ≢ 2 ^ 64 - 1
has_generation log parts number live left at same =
    let backed : IsOpenAt left.steps live = left.standing.stands.backed number (states.Live live) at in
    omega (arith, backed.reached, left.few, same)

-- ---- steps

-- the world with these clones and messages after one more step
abbrev pub after_step : RunningWorld → List RunningClone → List MessageValue → RunningWorld
after_step running clones messages = record { domain = running.domain; properties = running.properties; clones = clones; messages = messages; steps = running.steps + 1 }

-- the same step, said of an equal reply, and of equal clones and messages
pub moved : (running : RunningWorld) (command : Command) (told reply : Reply) (clones new : List RunningClone) (messages sent : List MessageValue) → told ≡ reply → clones ≡ new → messages ≡ sent
    → Moves running command told (after_step running clones messages) → Moves running command reply (after_step running new sent)
moved running command told reply clones new messages sent same are were moves world stands sound =
    let P : Reply → Type 0 = λ r. Follows world command r (after_step running clones messages) in
    let Q : RunningWorld → Type 0 = λ n. Follows world command reply n in
    subst Q (λ i. after_step running (are i) (were i)) (subst P same (moves world stands sound))

-- ---- parts that moved

module _ {B : Type 0} (log : B → Option Log) (meter : B → Meter) (old new : Parts B) (domain : new.domain ≡ old.domain) (properties : new.properties ≡ old.properties) where
  -- what the parts are in memory after a step that keeps the domain
  in_memory_after : (steps : ℕ) → after_step (memory_of (running_of old steps)) (map in_memory new.clones.items) (map message_value new.messages.items) ≡ memory_of (running_of new (steps + 1))
  in_memory_after steps = λ i. record {
    domain = sym domain i;
    properties = (sym properties i).items;
    clones = map in_memory new.clones.items;
    messages = map message_value new.messages.items;
    steps = steps + 1;
  }

  parts_moved : (command : Command) (reply : Reply) (steps : ℕ)
      → Moves (memory_of (running_of old steps)) command reply (after_step (memory_of (running_of old steps)) (map in_memory new.clones.items) (map message_value new.messages.items))
      → Moves (memory_of (running_of old steps)) command reply (memory_of (running_of new (steps + 1)))
  parts_moved command reply steps moves world stands sound =
      subst (λ (r : RunningWorld). Follows world command reply r) (in_memory_after steps) (moves world stands sound)

  -- the clone that the command says of is in another state, which may be carried
  pub does_carried : (command : Command) (reply : CodeReply)
      → ((steps : ℕ) → Moves (memory_of (running_of old steps)) command (reply_value reply)
      (after_step (memory_of (running_of old steps)) (map in_memory new.clones.items) (map message_value new.messages.items)))
      → StaysShut command → IsCarriedAt old.clones.items new.clones.items (number_of_clone command) → Does log old command new reply
  does_carried command reply moves shut carried = record {
    moves = λ steps. moves_carried log (running_of old steps) (running_of new (steps + 1)) command (reply_value reply) refl (parts_moved command (reply_value reply) steps (moves steps)) shut carried;
  }

  -- each clone is in the state in which it was
  pub does_still : (command : Command) (reply : CodeReply)
      → ((steps : ℕ) → Moves (memory_of (running_of old steps)) command (reply_value reply)
      (after_step (memory_of (running_of old steps)) (map in_memory new.clones.items) (map message_value new.messages.items)))
      → StaysShut command → new.clones.items ≡ old.clones.items → Does log old command new reply
  does_still command reply moves shut same = record {
    moves = λ steps. moves_still log (running_of old steps) (running_of new (steps + 1)) command (reply_value reply) refl (parts_moved command (reply_value reply) steps (moves steps)) same shut;
  }

  -- the clone that the command says of is in another state, of which more is known
  pub does_at : (command : Command) (reply : CodeReply) (after : BankedState B)
      → ((steps : ℕ) (world : World) → StandsOnBanks log (running_of old steps) world → IsSound world → Follows world command (reply_value reply)
      (after_step (memory_of (running_of old steps)) (map in_memory new.clones.items) (map message_value new.messages.items)))
      → new.clones.items ≡ set old.clones.items (number_of_clone command) after
      → ((steps : ℕ) (world next : World) → StandsOnBanks log (running_of old steps) world → IsSound world → Step world command (reply_value reply) next → IsBacked log next (steps + 1) (number_of_clone command) after)
      → Does log old command new reply
  does_at command reply after follows same backs = record {
    moves = λ steps. moves_at log (running_of old steps) (running_of new (steps + 1)) command (reply_value reply) refl after
        (λ world stands sound. subst (λ (r : RunningWorld). Follows world command (reply_value reply) r) (in_memory_after steps) (follows steps world stands sound)) same (backs steps);
  }

  -- ---- what each command keeps

  -- where it is known how the banks went on
  pub keeps_banks : (number : ℕ) → UsesBanksOf meter number (map banks_of_state old.clones.items) (map banks_of_state new.clones.items) → KeepsDomain meter number old new
  keeps_banks number banks = record {
    domain = domain;
    properties = properties;
    count = sym (length-map new.clones.items banks_of_state) ∙ banks.meters.count ∙ length-map old.clones.items banks_of_state;
    banks = banks;
  }

  -- where one clone is in another state, or was used
  pub keeps_set : (number : ℕ) (before after : BankedState B) → Becomes old.clones.items new.clones.items number before after
      → MeterGoesOn (meter (banks_of_state before)) (meter (banks_of_state after)) → KeepsDomain meter number old new
  keeps_set number before after becomes on = keeps_banks number (uses_set meter old.clones.items new.clones.items number before after becomes on)

  -- where no clone is
  pub keeps_still : (number : ℕ) → new.clones.items ≡ old.clones.items → KeepsDomain meter number old new
  keeps_still number same =
      keeps_banks number (subst (λ (l : List (BankedState B)). UsesBanksOf meter number (map banks_of_state old.clones.items) (map banks_of_state l)) (sym same)
      (uses_same meter old.clones.items number))

-- the reply of a clone that isn't live is that of its state
pub missing_reply : {B : Type 0} (state : BankedState B) (reply : Reply) → reply ≡ reply_of_state (in_memory state) → ((live : BankedClone B) → state ≢ states.Live live)
    → IsMissingReply (in_memory state) reply
missing_reply (states.Absent banks) reply is none = is
missing_reply (states.Asking asking) reply is none = is
missing_reply (states.Down banks) reply is none = is
missing_reply (states.Live live) reply is none = absurd (none live refl)
