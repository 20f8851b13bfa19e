-- What `add`, `remove` and `update` do is the model's step.
use Rattle.std.proofs.Common.{◌≡◌, ℕ, ◌+◌, List, [], ◌∷◌, ◌++◌, Option, Result, Ok, Err, IfOk, OnOk, refl, sym, ◌∙◌, ap, subst, length, map, set}
use Rattle.mld_io.specs.Arm.{Meter}
use Rattle.mld_io.specs.Disk.{Log}
use Rattle.rdf_terms.specs.declared.terms.Triple.{Triple}
use Rattle.mld_ops.specs.Effects.{EffectValue}
use Rattle.mld_ops.specs.Entry.{EntryValue}
use Rattle.mld_ops.specs.Ready.{last_dot}
use Rattle.mld_ops.specs.Messages.{MessageValue, CarriesEntry, message_value}
use Rattle.mld_ops.specs.declared.messages.Message.{Message}
use Rattle.jrql_ast.specs.declared.plans.UpdatePlan.{UpdatePlan}
use Rattle.jrql_ast.specs.Templates.{insertion_of, deletion_of}
use Rattle.mld_model.specs.declared.CloneState.TheVariants as states
use Rattle.mld_model.specs.Reply.{Reply, Did, NoOperation, Single, TooMany}
use Rattle.mld_model.specs.Local.{LocalClone, next_dot, LocallyMakes}
use Rattle.mld_model.specs.Sound.{IsSound}
use Rattle.mld_model.specs.StandsFor.{RunningClone, RunningWorld, StandsFor}
use Rattle.mld_model.specs.World.{World}
use Rattle.crash_laws.specs.schedule_model.declared.Command.{Command}
use Rattle.crash_laws.specs.schedule_model.declared.Command.TheVariants.{Add, Remove, Update}
use Rattle.crash_laws.specs.schedule_model.Step.{Step}
use Rattle.crash_laws.specs.schedule_model.WorldStep.{Follows, IsMissingReply, stepped}
use Rattle.crash_laws.proofs.of_schedule_model.WorldLaws.{update_too_large, update_nothing, update_single, update_made, update_missing}
use Rattle.crash_laws.specs.clone_core.Banked.{BankedClone}
use Rattle.crash_laws.specs.clone_core.CloneClosing.{StaysOpen}
use Rattle.world_commands.specs.declared.faults.WorldFault.{WorldFault}
use Rattle.world_commands.specs.declared.parts.Parts.{Parts}
use Rattle.schedule_replies.specs.declared.replies.Reply.{Reply as CodeReply}
use Rattle.schedule_replies.specs.declared.replies.Reply.TheVariants as replies
use Rattle.world_commands.specs.Changes.{UpdatesAsReplied}
use Rattle.schedule_replies.specs.Replies.{reply_value}
use Rattle.world_commands.specs.States.{HasState, Becomes}
use Rattle.world_commands.specs.WorldBanks.{BankedState, in_memory, memory_of}
use Rattle.world_commands.specs.WorldParts.{running_of, Does}
use Rattle.world_commands.specs.Worlds.{Moves, FollowsOnBanks}
use Rattle.world_commands.proofs.Places.{set_again}
use Rattle.world_commands.proofs.BankLemmas.{memory_at, memory_becomes, stays_next}
use Rattle.world_commands.proofs.WorldLemmas.{after_step, moved, does_carried, does_still}

-- the dot of the entry of an effect
made_dot : (before : LocalClone) (effect : EffectValue) (after : LocalClone) (entry : EntryValue) → LocallyMakes before effect after entry → next_dot before ≡ last_dot entry.range
made_dot before effect after entry makes = λ i. last_dot (sym (ap (λ (e : EntryValue). e.range) makes.carries) i)

-- ---- in memory

module _ (running : RunningWorld) (number : ℕ) (plan : UpdatePlan) where
  -- a step that leaves the clones and messages as they were
  still : (told : Reply) (new : List RunningClone) (sent : List MessageValue) → new ≡ running.clones → sent ≡ running.messages
      → ((world : World) → StandsFor running world → IsSound world → Follows world (Update number plan) told (stepped running))
      → Moves running (Update number plan) told (after_step running new sent)
  still told new sent same sends follows =
      moved running (Update number plan) told told running.clones new running.messages sent refl (sym same) (sym sends) (λ world stands sound. follows world stands sound)

  module _ (before after : LocalClone) (new : List RunningClone) (sent : List MessageValue)
      (at : HasState running.clones number (states.Live before)) (clones : new ≡ set running.clones number (states.Live after)) where
    -- the clones are as they were where this one is
    unchanged : after ≡ before → new ≡ running.clones
    unchanged same = clones ∙ ap (λ (l : LocalClone). set running.clones number (states.Live l)) same ∙ set_again running.clones number (states.Live before) at

    -- a live clone updates, by its reply
    updated : (reply : CodeReply) → UpdatesAsReplied before running.messages plan after sent reply
        → Moves running (Update number plan) (reply_value reply) (after_step running new sent)
    updated (replies.Did dot message) p =
        let next : next_dot before ≡ dot = made_dot before p.makes.effect after p.entry p.makes.updates.1 ∙ sym p.sends.1 in
        moved running (Update number plan) (Did (next_dot before) (length running.messages + 1)) (Did dot message)
        (set running.clones number (states.Live after)) new (running.messages ++ CarriesEntry p.entry ∷ []) sent
        (λ i. Did (next i) (sym p.sends.2 i)) (sym clones) (sym p.sends.0)
        (λ world stands sound. update_made running world stands sound (Update number plan) number plan (refl, refl) before at
        p.makes.effect p.makes.has p.makes.updates.0.some p.makes.updates.0.single after p.entry p.makes.updates.1)
    updated replies.NoOperation p =
        still NoOperation new sent (unchanged p.makes.updates.1) p.sends
        (λ world stands sound. update_nothing running world stands sound (Update number plan) number plan (refl, refl) before at
        p.makes.effect p.makes.has p.makes.updates.0)
    updated replies.TooMany p =
        still TooMany new sent (unchanged p.same) p.sends
        (λ world stands sound. update_too_large running world stands sound (Update number plan) number plan (refl, refl) before at p.refuses)
    updated (replies.Single subject property) p =
        still (Single subject property) new sent (unchanged p.same) p.sends
        (λ world stands sound. update_single running world stands sound (Update number plan) number plan (refl, refl) before at
        p.refuses.effect p.refuses.has p.refuses.some (subject, property) p.refuses.first)
    updated reply p = absurd p.sends

  -- a clone that isn't live doesn't
  not_updated : (state : RunningClone) (new : List RunningClone) (sent : List MessageValue) (reply : Reply) → HasState running.clones number state
      → new ≡ running.clones → sent ≡ running.messages → IsMissingReply state reply → Moves running (Update number plan) reply (after_step running new sent)
  not_updated state new sent reply at same sends missing =
      still reply new sent same sends
      (λ world stands sound. update_missing running world stands sound (Update number plan) number plan (refl, refl) state reply at missing)

-- ---- with banks

module _ {B : Type 0} (log : B → Option Log) (meter : B → Meter) (old new : Parts B) (domain : new.domain ≡ old.domain) (properties : new.properties ≡ old.properties) (number : ℕ) (plan : UpdatePlan) where
  -- a live clone was told to update
  pub update_done : (before after : BankedClone B) (r : Result CodeReply WorldFault) → Becomes old.clones.items new.clones.items number (states.Live before) (states.Live after)
      → IfOk r (UpdatesAsReplied before.local (map message_value old.messages.items) plan after.local (map message_value new.messages.items)) → OnOk r (StaysOpen before after)
      → IfOk r (Does log old (Update number plan) new)
  update_done before after (Err fault) becomes updates opened = tt
  update_done before after (Ok reply) becomes updates opened =
      does_carried log meter old new domain properties (Update number plan) reply
      (λ steps. updated (memory_of (running_of old steps)) number plan before.local after.local
      (map in_memory new.clones.items) (map message_value new.messages.items)
      (memory_at old.clones.items number (states.Live before) becomes.was)
      (memory_becomes old.clones.items new.clones.items number (states.Live before) (states.Live after) becomes).now reply updates)
      tt (record { state = states.Live after; now = becomes.now; carried = stays_next old.clones.items number before after becomes.was opened })

  -- a clone that isn't live was
  pub update_missing_done : (state : BankedState B) (reply : CodeReply) → HasState old.clones.items number state → new.clones.items ≡ old.clones.items → new.messages.items ≡ old.messages.items
      → IsMissingReply (in_memory state) (reply_value reply) → Does log old (Update number plan) new reply
  update_missing_done state reply at same sent missing =
      does_still log meter old new domain properties (Update number plan) reply
      (λ steps. not_updated (memory_of (running_of old steps)) number plan (in_memory state) (map in_memory new.clones.items) (map message_value new.messages.items) (reply_value reply)
      (memory_at old.clones.items number state at) (ap (λ (l : List (BankedState B)). map in_memory l) same) (ap (λ (m : List Message). map message_value m) sent) missing)
      tt same

-- ---- of one triple

-- a step of the plan that inserts a triple is one that adds it
add_step : (world : World) (number : ℕ) (triple : Triple) (reply : Reply) (next : World) → Step world (Update number (insertion_of triple)) reply next → Step world (Add number triple) reply next
unfolding Step
add_step world number triple reply next step = step

-- and one of the plan that deletes it removes it
remove_step : (world : World) (number : ℕ) (triple : Triple) (reply : Reply) (next : World) → Step world (Update number (deletion_of triple)) reply next → Step world (Remove number triple) reply next
unfolding Step
remove_step world number triple reply next step = step

module _ {B : Type 0} (log : B → Option Log) (old new : Parts B) where
  -- what was done by one command was done by another with the same steps
  does_alike : (command other : Command) → ((world : World) (reply : Reply) (next : World) → Step world command reply next → Step world other reply next)
      → (r : Result CodeReply WorldFault) → IfOk r (Does log old command new) → IfOk r (Does log old other new)
  does_alike command other alike (Err fault) does = tt
  does_alike command other alike (Ok reply) does = record {
    moves = λ steps world stands sound.
        let f : FollowsOnBanks log world command (reply_value reply) (running_of new (steps + 1)) = does.moves steps world stands sound in
        record { next = f.next; steps = alike world (reply_value reply) f.next f.steps; sound = f.sound; stands = f.stands };
  }

  module _ (number : ℕ) (triple : Triple) (plan : UpdatePlan) (r : Result CodeReply WorldFault) where
    pub add_done : plan ≡ insertion_of triple → IfOk r (Does log old (Update number plan) new) → IfOk r (Does log old (Add number triple) new)
    add_done is does =
        does_alike (Update number (insertion_of triple)) (Add number triple) (λ world reply next. add_step world number triple reply next) r
        (subst (λ (p : UpdatePlan). IfOk r (Does log old (Update number p) new)) is does)

    pub remove_done : plan ≡ deletion_of triple → IfOk r (Does log old (Update number plan) new) → IfOk r (Does log old (Remove number triple) new)
    remove_done is does =
        does_alike (Update number (deletion_of triple)) (Remove number triple) (λ world reply next. remove_step world number triple reply next) r
        (subst (λ (p : UpdatePlan). IfOk r (Does log old (Update number p) new)) is does)
