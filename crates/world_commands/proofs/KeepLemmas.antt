-- What `compact` and `truncate` do is the model's step.
use Rattle.std.proofs.Common.{◌≡◌, ℕ, ◌+◌, ◌-◌, ◌≤◌, List, Option, Some, Result, Ok, Err, IfOk, OnOk, None, refl, sym, ap, arith, subst, length, map, set, take, drop}
use Rattle.std.specs.Prelude.{slice_get}
use Rattle.mld_io.specs.Arm.{Meter}
use Rattle.mld_io.specs.Disk.{Log}
use Rattle.mld_ops.specs.Messages.{message_value}
use Rattle.mld_ops.specs.declared.messages.Message.{Message}
use Rattle.mld_model.specs.declared.CloneState.TheVariants as states
use Rattle.mld_model.specs.Reply.{Reply, Kept}
use Rattle.mld_model.specs.Local.{LocalClone, LeadsTo, LocallyCompacts, LocallyTruncates}
use Rattle.mld_model.specs.Sound.{IsSound}
use Rattle.mld_model.specs.StandsFor.{RunningClone, RunningWorld, StandsFor}
use Rattle.mld_model.specs.World.{World}
use Rattle.crash_laws.specs.schedule_model.Step.{number_of_clone}
use Rattle.crash_laws.specs.schedule_model.WorldStep.{Follows, IsMissingReply, stepped, stepped_with}
use Rattle.crash_laws.proofs.of_schedule_model.AskLaws.{compact_follows, compact_missing}
use Rattle.crash_laws.proofs.of_schedule_model.SnapshotLaws.{truncate_follows, truncate_missing}
use Rattle.schedule_replies.specs.declared.replies.Reply.{Reply as CodeReply}
use Rattle.schedule_replies.specs.declared.replies.Reply.TheVariants as replies
use Rattle.schedule_replies.specs.Replies.{reply_value}
use Rattle.crash_laws.specs.clone_core.Banked.{BankedClone}
use Rattle.crash_laws.specs.clone_core.Keeping.{KeepsCompacted, KeepsTruncated, nothing_to_fuse, swapped, nothing_to_cut, cut}
use Rattle.world_commands.specs.declared.faults.WorldFault.{WorldFault}
use Rattle.world_commands.specs.declared.keeping.Keeping.{Keeping}
use Rattle.world_commands.specs.declared.keeping.Keeping.TheVariants as keepings
use Rattle.world_commands.specs.declared.parts.Parts.{Parts}
use Rattle.world_commands.specs.Doings.{KeepsLocally}
use Rattle.world_commands.specs.KeptJournals.{keeping_command, KeepsBy, KeepsAs}
use Rattle.world_commands.specs.States.{HasState, Becomes}
use Rattle.world_commands.specs.WorldBanks.{BankedState, in_memory, memory_of}
use Rattle.world_commands.specs.OneCall.{is_next, IsCarriedAt}
use Rattle.world_commands.specs.WorldParts.{running_of, Does}
use Rattle.world_commands.proofs.BankLemmas.{memory_at, memory_becomes, StaysShut}
use Rattle.world_commands.proofs.WorldLemmas.{moved, does_carried, does_still}

-- a journal that has no more entries stays
keeps_all : (clone : LocalClone) (count : ℕ) → length clone.entries ≤ count → LocallyTruncates clone count clone
keeps_all clone count few =
    let none : length clone.entries - count ≡ 0 = omega (arith, few) in
    record {
      leads = subst (λ (n : ℕ). LeadsTo clone.base clone.base_pairs (take n clone.entries) clone.base clone.base_pairs) (sym none) (refl, refl);
      rest = ap (λ (n : ℕ). record clone { entries = drop n clone.entries }) (sym none);
    }

-- whether something was swapped or not
compacts : {B : Type 0} (old new : BankedClone B) → KeepsCompacted old new → LocallyCompacts old.local new.local
compacts {B = B} old new (nothing_to_fuse fused same) =
    subst (λ (c : BankedClone B). LocallyCompacts old.local c.local) (sym same) (record { fused = fused; rest = refl })
compacts old new (swapped done neighbours opened generation) = done

truncates : {B : Type 0} (old : BankedClone B) (count : ℕ) (new : BankedClone B) → KeepsTruncated old count new → LocallyTruncates old.local count new.local
truncates {B = B} old count new (nothing_to_cut few same) =
    subst (λ (c : BankedClone B). LocallyTruncates old.local count c.local) (sym same) (keeps_all old.local count few)
truncates old count new (cut more done opened generation) = done

pub keeps_locally : {B : Type 0} (keeping : Keeping) (old new : BankedClone B) → KeepsBy keeping old new → KeepsLocally keeping old.local new.local
keeps_locally keepings.Compacted old new keeps = compacts old new keeps
keeps_locally (keepings.Last count) old new keeps = truncates old count new keeps

-- the generation is the same, or the next one
same_at_most : {B : Type 0} (old new : BankedClone B) → new ≡ old → new.generation ≤ old.generation + 1
same_at_most {B = B} old new same = let equal : new.generation ≡ old.generation = ap (λ (c : BankedClone B). c.generation) same in omega (arith, equal)

next_at_most : {B : Type 0} (keeping : Keeping) (old new : BankedClone B) → KeepsBy keeping old new → new.generation ≤ old.generation + 1
next_at_most keepings.Compacted old new (nothing_to_fuse fused same) = same_at_most old new same
next_at_most keepings.Compacted old new (swapped done neighbours opened generation) = omega (arith, generation)
next_at_most (keepings.Last count) old new (nothing_to_cut few same) = same_at_most old new same
next_at_most (keepings.Last count) old new (cut more done opened generation) = omega (arith, generation)

-- the command is of the clone of the number, and opens none
of_clone : (number : ℕ) (keeping : Keeping) → number ≡ number_of_clone (keeping_command number keeping)
of_clone number keepings.Compacted = refl
of_clone number (keepings.Last count) = refl

opens_none : (number : ℕ) (keeping : Keeping) → StaysShut (keeping_command number keeping)
opens_none number keepings.Compacted = tt
opens_none number (keepings.Last count) = tt

module _ (running : RunningWorld) (world : World) (stands : StandsFor running world) (sound : IsSound world) where
  keep_follows : (keeping : Keeping) (number : ℕ) (live new : LocalClone) → slice_get running.clones number ≡ Some (states.Live live) → KeepsLocally keeping live new
      → Follows world (keeping_command number keeping) (Kept (length new.entries)) (stepped_with running number new)
  keep_follows keepings.Compacted number live new is keeps = compact_follows running world stands sound number live new is keeps
  keep_follows (keepings.Last count) number live new is keeps = truncate_follows running world stands sound number count live new is keeps

  keep_missing : (keeping : Keeping) (number : ℕ) (state : RunningClone) (reply : Reply) → slice_get running.clones number ≡ Some state → IsMissingReply state reply
      → Follows world (keeping_command number keeping) reply (stepped running)
  keep_missing keepings.Compacted number state reply is missing = compact_missing running world stands sound number state reply is missing
  keep_missing (keepings.Last count) number state reply is missing = truncate_missing running world stands sound number count state reply is missing

module _ {B : Type 0} (log : B → Option Log) (meter : B → Meter) (old new : Parts B) (domain : new.domain ≡ old.domain) (properties : new.properties ≡ old.properties) (number : ℕ) (keeping : Keeping) (sent : new.messages.items ≡ old.messages.items) where
  -- a live clone keeps so much of its journal
  keeps_journal : (before after : BankedClone B) (reply : CodeReply) → Becomes old.clones.items new.clones.items number (states.Live before) (states.Live after)
      → KeepsAs keeping before after reply → after.closed ≡ None → Does log old (keeping_command number keeping) new reply
  keeps_journal before after (replies.Kept count) becomes keeps opened =
      does_carried log meter old new domain properties (keeping_command number keeping) (replies.Kept count)
      (λ steps. moved (memory_of (running_of old steps)) (keeping_command number keeping) (Kept (length after.local.entries)) (Kept count)
      (set (map in_memory old.clones.items) number (states.Live after.local)) (map in_memory new.clones.items) (map message_value old.messages.items) (map message_value new.messages.items)
      (λ i. Kept (sym keeps.1 i)) (sym (memory_becomes old.clones.items new.clones.items number (states.Live before) (states.Live after) becomes).now)
      (ap (λ (m : List Message). map message_value m) (sym sent))
      (λ world stands sound. keep_follows (memory_of (running_of old steps)) world stands sound keeping number before.local after.local
      (memory_at old.clones.items number (states.Live before) becomes.was) (keeps_locally keeping before after keeps.0)))
      (opens_none number keeping)
      (subst (λ (n : ℕ). IsCarriedAt old.clones.items new.clones.items n) (of_clone number keeping)
      (record { state = states.Live after; now = becomes.now; carried = record { opened = opened; next = is_next before becomes.was (next_at_most keeping before after keeps.0) } }))
  keeps_journal before after reply becomes keeps opened = absurd keeps

  pub keep_done : (before after : BankedClone B) (r : Result CodeReply WorldFault) → Becomes old.clones.items new.clones.items number (states.Live before) (states.Live after)
      → IfOk r (KeepsAs keeping before after) → OnOk r (after.closed ≡ None) → IfOk r (Does log old (keeping_command number keeping) new)
  keep_done before after (Err fault) becomes keeps opened = tt
  keep_done before after (Ok reply) becomes keeps opened = keeps_journal before after reply becomes keeps opened

  -- a clone that isn't live did not
  pub keep_missing_done : (state : BankedState B) (reply : CodeReply) → HasState old.clones.items number state → new.clones.items ≡ old.clones.items
      → IsMissingReply (in_memory state) (reply_value reply) → Does log old (keeping_command number keeping) new reply
  keep_missing_done state reply at same missing =
      does_still log meter old new domain properties (keeping_command number keeping) reply
      (λ steps. moved (memory_of (running_of old steps)) (keeping_command number keeping) (reply_value reply) (reply_value reply) (map in_memory old.clones.items) (map in_memory new.clones.items)
      (map message_value old.messages.items) (map message_value new.messages.items) refl
      (ap (λ (l : List (BankedState B)). map in_memory l) (sym same)) (ap (λ (m : List Message). map message_value m) (sym sent))
      (λ world stands sound. keep_missing (memory_of (running_of old steps)) world stands sound keeping number (in_memory state) (reply_value reply) (memory_at old.clones.items number state at) missing))
      (opens_none number keeping) same
