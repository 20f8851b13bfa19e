-- What `show`, `query` and `compare` do is the model's step.
use Rattle.std.proofs.Common.{◌≡◌, ℕ, List, Option, Bor, Result, Ok, Err, IfOk, refl, sym, map}
use Rattle.graph_index.specs.Graphs.{GraphValue}
use Rattle.mld_io.specs.Arm.{Meter}
use Rattle.mld_io.specs.Disk.{Log}
use Rattle.mld_ops.specs.declared.tagged.Tagged.{Tagged}
use Rattle.mld_model.specs.declared.CloneState.TheVariants as states
use Rattle.mld_model.specs.Reply.{Reply, Shows}
use Rattle.mld_model.specs.Local.{LocalClone}
use Rattle.mld_model.specs.StandsFor.{RunningWorld}
use Rattle.mld_ops.specs.Present.{present}
use Rattle.crash_laws.specs.schedule_model.jrql_patterns.declared.queries.ReadQuery.{ReadQuery}
use Rattle.crash_laws.specs.schedule_model.Querying.{AnswersQuery}
use Rattle.crash_laws.specs.schedule_model.declared.Command.{Command}
use Rattle.crash_laws.specs.schedule_model.declared.Command.TheVariants.{Show, Query, Compare}
use Rattle.crash_laws.proofs.of_schedule_model.WorldLaws.{LocallyCompares, stepped, show_follows, show_missing, query_follows, query_missing, compare_follows, compare_missing_first, compare_missing_second}
use Rattle.crash_laws.specs.clone_core.Banked.{BankedClone}
use Rattle.world_commands.specs.declared.faults.WorldFault.{WorldFault}
use Rattle.world_commands.specs.declared.parts.Parts.{Parts}
use Rattle.schedule_replies.specs.declared.replies.Reply.{Reply as CodeReply}
use Rattle.schedule_replies.specs.declared.replies.Reply.TheVariants as replies
use Rattle.schedule_replies.specs.Replies.{reply_value}
use Rattle.world_commands.specs.States.{HasState, IsMissingAt}
use Rattle.world_commands.specs.WorldBanks.{in_memory, memory_of}
use Rattle.world_commands.specs.WorldParts.{running_of, Does}
use Rattle.world_commands.specs.Worlds.{Moves}
use Rattle.world_commands.proofs.BankLemmas.{memory_at, StaysShut}
use Rattle.world_commands.proofs.WorldLemmas.{moved, does_still}

pub shown : (running : RunningWorld) (number : ℕ) (live : LocalClone) (pairs : List Tagged) → HasState running.clones number (states.Live live) → pairs ≡ live.pairs
    → Moves running (Show number) (Shows pairs) (stepped running)
shown running number live pairs at are =
    moved running (Show number) (Shows live.pairs) (Shows pairs) running.clones running.clones running.messages running.messages (λ i. Shows (sym are i)) refl refl
    (λ world stands sound. show_follows running world stands sound number live at)

pub not_shown : (running : RunningWorld) (number : ℕ) (reply : Reply) → IsMissingAt running.clones number reply → Moves running (Show number) reply (stepped running)
not_shown running number reply missing world stands sound = show_missing running world stands sound number missing.state reply missing.at missing.is

-- a live clone answers a query
answers_so : (running : RunningWorld) (number : ℕ) (read : ReadQuery) (live : LocalClone) (reply : Reply) → HasState running.clones number (states.Live live)
    → AnswersQuery (present live.pairs) read reply → Moves running (Query number read) reply (stepped running)
answers_so running number read live reply at answers world stands sound = query_follows running world stands sound number read live reply at answers

not_answered : (running : RunningWorld) (number : ℕ) (read : ReadQuery) (reply : Reply) → IsMissingAt running.clones number reply
    → Moves running (Query number read) reply (stepped running)
not_answered running number read reply missing world stands sound = query_missing running world stands sound number read missing.state reply missing.at missing.is

pub weighed : (running : RunningWorld) (number second : ℕ) (live other : LocalClone) (reply : Reply) → HasState running.clones number (states.Live live) → HasState running.clones second (states.Live other)
    → LocallyCompares live other reply → Moves running (Compare number second) reply (stepped running)
weighed running number second live other reply is was compares world stands sound = compare_follows running world stands sound number second live other reply is was compares

pub first_missing : (running : RunningWorld) (number second : ℕ) (reply : Reply) → IsMissingAt running.clones number reply → Moves running (Compare number second) reply (stepped running)
first_missing running number second reply missing world stands sound = compare_missing_first running world stands sound number second missing.state reply missing.at missing.is

pub second_missing : (running : RunningWorld) (number second : ℕ) (live : LocalClone) (reply : Reply) → HasState running.clones number (states.Live live) → IsMissingAt running.clones second reply
    → Moves running (Compare number second) reply (stepped running)
second_missing running number second live reply is missing world stands sound =
    compare_missing_second running world stands sound number second live missing.state reply is missing.at missing.is

-- ---- with banks

module _ {B : Type 0} (log : B → Option Log) (meter : B → Meter) (parts : Parts B) where
  -- nothing changes
  looks : (command : Command) (reply : CodeReply) → StaysShut command → ((steps : ℕ) → Moves (memory_of (running_of parts steps)) command (reply_value reply) (stepped (memory_of (running_of parts steps))))
      → Does log parts command parts reply
  looks command reply shut moves = does_still log meter parts parts refl refl command reply moves shut refl

  pub show_done : (number : ℕ) (live : BankedClone B) (pairs : Bor GraphValue) → HasState parts.clones.items number (states.Live live) → pairs.now.pairs ≡ live.local.pairs → Does log parts (Show number) parts (replies.Shows pairs)
  show_done number live pairs at are =
      looks (Show number) (replies.Shows pairs) tt
      (λ steps. shown (memory_of (running_of parts steps)) number live.local pairs.now.pairs (memory_at parts.clones.items number (states.Live live) at) are)

  pub show_missing_done : (number : ℕ) (reply : CodeReply) → IsMissingAt (map in_memory parts.clones.items) number (reply_value reply) → Does log parts (Show number) parts reply
  show_missing_done number reply missing = looks (Show number) reply tt (λ steps. not_shown (memory_of (running_of parts steps)) number (reply_value reply) missing)

  pub query_done : (number : ℕ) (read : ReadQuery) (live : BankedClone B) (r : Result CodeReply WorldFault) → HasState parts.clones.items number (states.Live live)
      → IfOk r (λ reply. AnswersQuery (present live.local.pairs) read (reply_value reply)) → IfOk r (Does log parts (Query number read) parts)
  query_done number read live (Err fault) at answers = tt
  query_done number read live (Ok reply) at answers =
      looks (Query number read) reply tt
      (λ steps. answers_so (memory_of (running_of parts steps)) number read live.local (reply_value reply) (memory_at parts.clones.items number (states.Live live) at) answers)

  pub query_missing_done : (number : ℕ) (read : ReadQuery) (reply : CodeReply) → IsMissingAt (map in_memory parts.clones.items) number (reply_value reply)
      → Does log parts (Query number read) parts reply
  query_missing_done number read reply missing =
      looks (Query number read) reply tt (λ steps. not_answered (memory_of (running_of parts steps)) number read (reply_value reply) missing)

  pub compare_done : (number second : ℕ) (live other : BankedClone B) (reply : CodeReply) → HasState parts.clones.items number (states.Live live) → HasState parts.clones.items second (states.Live other)
      → LocallyCompares live.local other.local (reply_value reply) → Does log parts (Compare number second) parts reply
  compare_done number second live other reply is was compares =
      looks (Compare number second) reply tt
      (λ steps. weighed (memory_of (running_of parts steps)) number second live.local other.local (reply_value reply)
      (memory_at parts.clones.items number (states.Live live) is) (memory_at parts.clones.items second (states.Live other) was) compares)

  pub compare_first_missing_done : (number second : ℕ) (reply : CodeReply) → IsMissingAt (map in_memory parts.clones.items) number (reply_value reply) → Does log parts (Compare number second) parts reply
  compare_first_missing_done number second reply missing =
      looks (Compare number second) reply tt (λ steps. first_missing (memory_of (running_of parts steps)) number second (reply_value reply) missing)

  pub compare_second_missing_done : (number second : ℕ) (live : BankedClone B) (reply : CodeReply) → HasState parts.clones.items number (states.Live live)
      → IsMissingAt (map in_memory parts.clones.items) second (reply_value reply) → Does log parts (Compare number second) parts reply
  compare_second_missing_done number second live reply is missing =
      looks (Compare number second) reply tt
      (λ steps. second_missing (memory_of (running_of parts steps)) number second live.local (reply_value reply) (memory_at parts.clones.items number (states.Live live) is) missing)
