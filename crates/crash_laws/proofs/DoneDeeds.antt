-- What a clone answered is a deed of the model whose durable steps the changes of its banks carry.
use Rattle.std.proofs.Common.{◌≡◌, ℕ, ◌+◌, ◌<◌, ◌≤◌, List, [], ◌∷◌, inl, inr, refl, sym, arith, subst, length, map, Some, Ok}
use Rattle.std.specs.List.{range_with_len}
use Rattle.mld_io.specs.declared.banks.Side.{Side}
use Rattle.mld_ops.specs.declared.messages.Message.TheVariants as message
use Rattle.mld_ops.specs.declared.messages.Message.{Message as Told}
use Rattle.mld_ops.specs.Breaches.{IsFirstBreach}
use Rattle.mld_ops.specs.Held.{ranges_of}
use Rattle.mld_ops.specs.Messages.{MessageValue, CarriesEntry, CarriesWant, CarriesSnapshot, CarriesAsk, CarriesGive, message_value, snapshot_value, give_value}
use Rattle.op_fusion.specs.Compacting.{AreCompacted, AreFusedRuns, HasNeighbours}
use Rattle.op_fusion.proofs.Runs.{fused_runs_are_compacted}
use Rattle.clone_core.specs.journal_sides.Pairs.{Keeps}
use Rattle.jrql_ast.specs.declared.plans.UpdatePlan.{UpdatePlan}
use Rattle.jrql_eval.specs.PlanEffects.{IsPlanEffect, HasTooMany}
use Rattle.mld_model.specs.declared.CloneState.TheVariants as states
use Rattle.mld_model.specs.Clone.{known_of}
use Rattle.mld_model.specs.CloneStep.{changes_nothing, breaks_single, is_too_large, has_effect}
use Rattle.mld_model.specs.Local.{LocalClone, next_dot, LocallyCompacts, LocallyTruncates}
use Rattle.mld_model.specs.LocalStep.{Take, LocalStep, IsSentAs, StepStands, knows_entry, holds_entry, is_full, knows_snapshot, sends_nothing, sends_entries, sends_all, asks_itself, is_deep, needs_no_leaf}
use Rattle.mld_model.specs.Reply.{Reply, NoOperation, Single, TooMany, Held, HeldFull, AlreadyKnown, Answer, NothingToSend, Deep, Ignored}
use Rattle.mld_model.specs.Sound.{IsSound}
use Rattle.mld_model.specs.StandsFor.{kept_by, LiveAt}
use Rattle.mld_model.specs.World.{World, Message, Want, message_at, clone_at}
use Rattle.mld_model.proofs.LocalLaws.{next_tick_of}
use Rattle.mld_model.proofs.LocalSteps.{local_steps}
use Rattle.mld_model.proofs.StateLaws.{live_does}
use Rattle.schedule_model.specs.declared.Command.{Command}
use Rattle.schedule_model.specs.declared.Command.TheVariants.{Deliver, Compact, Truncate}
use Rattle.schedule_model.specs.PlainDurable.{MakesDurably, message_steps}
use Rattle.schedule_model.specs.Updating.{UpdatesByPlan}
use Rattle.schedule_model.specs.WorldStep.{IsUpdateOf}
use Rattle.clone_core.specs.clone_parts.declared.answers.Got.{Got}
use Rattle.clone_core.specs.clone_parts.declared.answers.Got.TheVariants as got
use Rattle.clone_core.specs.clone_parts.declared.answers.Done.{Done}
use Rattle.clone_core.specs.clone_parts.declared.answers.Done.TheVariants as done
use Rattle.clone_core.specs.clone_parts.declared.faults.ReceiveFault.TheVariants as fault
use Rattle.clone_core.specs.clone_parts.KeptSteps.{KeptStep, Forked, appends}
use Rattle.clone_core.specs.Banked.{BankedClone, kept_as}
use Rattle.clone_core.specs.CloneCalls.{LocallyReceives, Refuses}
use Rattle.clone_core.specs.CloneUpdates.{LocallyUpdatesBy, BreaksSingle}
use Rattle.clone_core.specs.DurableCalls.{OwnSteps, ReceivedSteps, KeepSteps, merged_steps}
use Rattle.clone_core.specs.Keeping.{KeepsCompacted, nothing_to_fuse, swapped, KeepsTruncated, nothing_to_cut, cut}
use Rattle.clone_core.specs.Wants.{SendsLacked, sends_entries as SentEntries, sends_snapshot as SentSnapshot}
use Rattle.crash_laws.specs.Deeds.{CarriedDeed, TellsOfNone}
use Rattle.crash_laws.proofs.KeepingDeeds.{neighbours_fused, none_carried, uncompacted_deed, untruncated_deed}
use Rattle.crash_laws.proofs.OtherDeeds.{quiet_deed, none_kept}
use Rattle.crash_laws.proofs.OwnDeeds.{plain_update, update_durably}
use Rattle.crash_laws.proofs.ReceivedDeeds.{delivered, taken_deed, forked_deed, merged_deed}
use Rattle.crash_laws.proofs.ToldDeeds.{named_as, made_deed, compacts_deed, truncates_deed}

module _ (world : World) (number : ℕ) (old : LocalClone) (sound : IsSound world) (at : LiveAt world number old) (side : Side) (generation : ℕ) where
  -- ---- updates

  -- the plan has an effect, by which nothing is made
  unmade : (command : Command) (plan : UpdatePlan) (reply : Reply) → IsUpdateOf command number plan → UpdatesByPlan world number plan (clone_at world number) reply world
      → ((next : World) → MakesDurably world reply next []) → CarriedDeed world command number (Keeps (kept_as side generation old)) []
  unmade command plan reply is does none =
      quiet_deed world command number (Keeps (kept_as side generation old)) reply world (plain_update world world command number plan reply is does)
      (update_durably world world command number plan reply [] is (none world)) (none_carried world number old sound at side generation)

  -- an update that was done
  pub updated_deed : (command : Command) (plan : UpdatePlan) (answer : Done) (new : LocalClone) (steps : List KeptStep) (Would : List KeptStep → Type 0) → IsUpdateOf command number plan
      → LocallyUpdatesBy old plan answer new → OwnSteps Would (Ok answer) steps → CarriedDeed world command number (Keeps (kept_as side generation old)) steps
  updated_deed command plan done.Nothing new steps Would is made same =
      named_as world number old sound at side generation command steps [] same
      (unmade command plan NoOperation is
      (live_does world (clone_at world number) NoOperation world _ (kept_by old at.base at.journal) at.held at.live (
        old.pairs,
        at.stands.pairs,
        has_effect (next_dot old).tick (next_tick_of old (known_of (kept_by old at.base at.journal)) at.stands.known) made.effect
            (subst (λ (domain : List ℕ). IsPlanEffect domain (next_dot old) old.pairs plan made.effect) at.is.domain made.has)
            (changes_nothing made.updates.0 (refl, refl)),
      )) (λ next. refl))
  updated_deed command plan (done.Made entry) new steps Would is made same =
      made_deed world number old sound at side generation command plan entry new steps is made same

  -- one whose plan has too many solutions, and one that would give a subject a second value of a single-valued property
  pub too_many_deed : (command : Command) (plan : UpdatePlan) → IsUpdateOf command number plan → HasTooMany old.pairs plan
      → CarriedDeed world command number (Keeps (kept_as side generation old)) []
  too_many_deed command plan is many =
      unmade command plan TooMany is
      (live_does world (clone_at world number) TooMany world _ (kept_by old at.base at.journal) at.held at.live
      (old.pairs, at.stands.pairs, is_too_large many (refl, refl))) (λ next. refl)

  pub single_deed : (command : Command) (plan : UpdatePlan) (place : List ℕ × List ℕ) → IsUpdateOf command number plan → BreaksSingle old plan place
      → CarriedDeed world command number (Keeps (kept_as side generation old)) []
  single_deed command plan place is breaks =
      unmade command plan (Single place.0 place.1) is
      (live_does world (clone_at world number) (Single place.0 place.1) world _ (kept_by old at.base at.journal) at.held at.live (
        old.pairs,
        at.stands.pairs,
        has_effect (next_dot old).tick (next_tick_of old (known_of (kept_by old at.base at.journal)) at.stands.known) breaks.effect
            (subst (λ (domain : List ℕ). IsPlanEffect domain (next_dot old) old.pairs plan breaks.effect) at.is.domain breaks.has)
            (breaks_single breaks.some place
            (subst (λ (properties : List (List ℕ)). IsFirstBreach properties old.pairs breaks.effect place) at.is.properties breaks.first) (refl, refl)),
      )) (λ next. refl)

  -- ---- messages

  -- a message that the clone answers, with no durable steps
  heard : (place : ℕ) (what : MessageValue) (sent : Message) (new : LocalClone) (reply : Reply) (said : List MessageValue) → message_at world place ≡ Some sent → IsSentAs world what sent
      → LocalStep (length world.messages) (states.Live old) (Take what) reply said (states.Live new) → message_steps (clone_at world number) sent reply ≡ []
      → CarriedDeed world (Deliver place number) number (Keeps (kept_as side generation old)) []
  heard place what sent new reply said is s step none =
      let does : StepStands world number (Take sent) reply said (states.Live new) =
      local_steps world number (states.Live old) (states.Live new) (Take what) (Take sent) reply said sound at s step in
      delivered world place number sent (Keeps (kept_as side generation old)) [] reply does.next [] is does.does (sym none)
      (none_carried world number old sound at side generation) tt

  -- and so with this reply
  heard_as : (place : ℕ) (what : MessageValue) (sent : Message) (new : LocalClone) (reply : Reply) (said : List MessageValue) → message_at world place ≡ Some sent → IsSentAs world what sent
      → LocalStep (length world.messages) (states.Live old) (Take what) reply said (states.Live new) → TellsOfNone reply
      → CarriedDeed world (Deliver place number) number (Keeps (kept_as side generation old)) []
  heard_as place what sent new reply said is s step none = heard place what sent new reply said is s step (none_kept (clone_at world number) sent reply none)

  -- a want has none, whatever it is answered
  wanted : (place : ℕ) (ticks : List (List ℕ × ℕ)) (sent : Message) (new : LocalClone) (reply : Reply) (said : List MessageValue) → message_at world place ≡ Some sent
      → IsSentAs world (CarriesWant ticks) sent → LocalStep (length world.messages) (states.Live old) (Take (CarriesWant ticks)) reply said (states.Live new)
      → CarriedDeed world (Deliver place number) number (Keeps (kept_as side generation old)) []
  wanted place ticks (Want dots) new reply said is s step = heard place (CarriesWant ticks) (Want dots) new reply said is s step refl
  wanted place ticks sent new reply said is s step = absurd s.stands

  lacked : (place : ℕ) (ticks : List (List ℕ × ℕ)) (sent : Message) (messages : List Told) → message_at world place ≡ Some sent → IsSentAs world (CarriesWant ticks) sent
      → SendsLacked old ticks messages → CarriedDeed world (Deliver place number) number (Keeps (kept_as side generation old)) []
  lacked place ticks sent messages is s (SentEntries entries answers some carry) =
      wanted place ticks sent old (Answer (range_with_len (length world.messages + 1) (length entries))) (map CarriesEntry entries) is s (sends_entries old ticks entries some answers)
  lacked place ticks sent messages is s (SentSnapshot snapshot answers same) =
      wanted place ticks sent old (Answer ((length world.messages + 1) ∷ [])) (CarriesSnapshot (snapshot_value snapshot) ∷ []) is s (sends_all old ticks (snapshot_value snapshot) answers)

  -- the clone asked itself
  itself : (place : ℕ) (id : List ℕ) (sent : Message) → message_at world place ≡ Some sent → IsSentAs world (CarriesAsk id) sent → id ≡ old.id
      → CarriedDeed world (Deliver place number) number (Keeps (kept_as side generation old)) []
  itself place id sent is s own =
      heard_as place (CarriesAsk old.id) sent old Ignored [] is (subst (λ (one : List ℕ). IsSentAs world (CarriesAsk one) sent) own s) (asks_itself old) tt

  -- a message that was received
  pub answered_deed : (told : Told) (place : ℕ) (sent : Message) (answer : Got) (new : LocalClone) (steps : List KeptStep) → message_at world place ≡ Some sent
      → IsSentAs world (message_value told) sent → LocallyReceives old told answer new → ReceivedSteps told answer old new steps
      → CarriedDeed world (Deliver place number) number (Keeps (kept_as side generation old)) steps
  answered_deed (message.Range entry) place sent got.Known new steps is s was same =
      named_as world number old sound at side generation (Deliver place number) steps [] same
      (heard_as place (CarriesEntry entry) sent old AlreadyKnown [] is s (knows_entry old entry was.1.0) tt)
  answered_deed (message.Range entry) place sent (got.Took ranges) new steps is s was same =
      named_as world number old sound at side generation (Deliver place number) steps (appends same.0) same.2
      (taken_deed world number place sound side generation old new entry ranges same.0 at sent is s was.1 same.1)
  answered_deed (message.Range entry) place sent got.Held new steps is s was same =
      named_as world number old sound at side generation (Deliver place number) steps [] same
      (heard_as place (CarriesEntry entry) sent new Held [] is s (holds_entry old entry new was.1.0 was.1.1) tt)
  answered_deed (message.Range entry) place sent (got.Merged ranges) new steps is s was same = absurd was.1
  answered_deed (message.Range entry) place sent (got.Answer messages) new steps is s was same = absurd was.1
  answered_deed (message.Range entry) place sent got.Nothing new steps is s was same = absurd was.1
  answered_deed (message.Range entry) place sent got.Ignored new steps is s was same = absurd was.1
  answered_deed (message.JoinAsk id) place sent got.Ignored new steps is s was same =
      named_as world number old sound at side generation (Deliver place number) steps [] same (itself place id sent is s was.0)
  answered_deed (message.JoinAsk id) place sent (got.Answer messages) new steps is s was same =
      named_as world number old sound at side generation (Deliver place number) steps (Forked ∷ []) same
      (forked_deed world number place sound side generation old id at sent is s was.0 was.1.2.room)
  answered_deed (message.JoinAsk id) place sent got.Known new steps is s was same = absurd was
  answered_deed (message.JoinAsk id) place sent (got.Took ranges) new steps is s was same = absurd was
  answered_deed (message.JoinAsk id) place sent (got.Merged ranges) new steps is s was same = absurd was
  answered_deed (message.JoinAsk id) place sent got.Held new steps is s was same = absurd was
  answered_deed (message.JoinAsk id) place sent got.Nothing new steps is s was same = absurd was
  answered_deed (message.Want clock) place sent got.Nothing new steps is s was same =
      named_as world number old sound at side generation (Deliver place number) steps [] same
      (wanted place clock.ticks sent old NothingToSend [] is s (sends_nothing old clock.ticks was.0))
  answered_deed (message.Want clock) place sent (got.Answer messages) new steps is s was same =
      named_as world number old sound at side generation (Deliver place number) steps [] same (lacked place clock.ticks sent messages is s was.0)
  answered_deed (message.Want clock) place sent got.Known new steps is s was same = absurd was
  answered_deed (message.Want clock) place sent (got.Took ranges) new steps is s was same = absurd was
  answered_deed (message.Want clock) place sent (got.Merged ranges) new steps is s was same = absurd was
  answered_deed (message.Want clock) place sent got.Held new steps is s was same = absurd was
  answered_deed (message.Want clock) place sent got.Ignored new steps is s was same = absurd was
  answered_deed (message.Snapshot snapshot) place sent got.Known new steps is s was same =
      named_as world number old sound at side generation (Deliver place number) steps [] same
      (heard_as place (CarriesSnapshot (snapshot_value snapshot)) sent old AlreadyKnown [] is s (knows_snapshot old (snapshot_value snapshot) was.1.0) tt)
  answered_deed (message.Snapshot snapshot) place sent (got.Merged ranges) new steps is s was same =
      named_as world number old sound at side generation (Deliver place number) steps (merged_steps new) same
      (merged_deed world number place sound side generation old new (snapshot_value snapshot) ranges at sent is s was.1)
  answered_deed (message.Snapshot snapshot) place sent (got.Took ranges) new steps is s was same = absurd was.1
  answered_deed (message.Snapshot snapshot) place sent got.Held new steps is s was same = absurd was.1
  answered_deed (message.Snapshot snapshot) place sent (got.Answer messages) new steps is s was same = absurd was.1
  answered_deed (message.Snapshot snapshot) place sent got.Nothing new steps is s was same = absurd was.1
  answered_deed (message.Snapshot snapshot) place sent got.Ignored new steps is s was same = absurd was.1
  answered_deed (message.JoinGive give) place sent answer new steps is s was same =
      named_as world number old sound at side generation (Deliver place number) steps [] (unkept answer same)
      (heard_as place (CarriesGive (give_value give)) sent old Ignored [] is s (needs_no_leaf old (give_value give)) tt)
    where
      unkept : (answer : Got) → ReceivedSteps (message.JoinGive give) answer old new steps → steps ≡ []
      unkept got.Known same = same
      unkept (got.Took ranges) same = same
      unkept (got.Merged ranges) same = same
      unkept got.Held same = same
      unkept (got.Answer messages) same = same
      unkept got.Nothing same = same
      unkept got.Ignored same = same

  -- one that was refused: too many are held back, or the leaf is too deep to be forked
  pub full_deed : (told : Told) (place : ℕ) (sent : Message) → message_at world place ≡ Some sent → IsSentAs world (message_value told) sent → Refuses old told fault.HeldFull
      → CarriedDeed world (Deliver place number) number (Keeps (kept_as side generation old)) []
  full_deed (message.Range entry) place sent is s was = heard_as place (CarriesEntry entry) sent old HeldFull [] is s (is_full old entry was.1 was.2) tt
  full_deed (message.JoinAsk id) place sent is s was = absurd was
  full_deed (message.Want clock) place sent is s was = absurd was
  full_deed (message.Snapshot snapshot) place sent is s was = absurd was
  full_deed (message.JoinGive give) place sent is s was = absurd was

  pub deep_deed : (told : Told) (place : ℕ) (sent : Message) → message_at world place ≡ Some sent → IsSentAs world (message_value told) sent → Refuses old told fault.Deep
      → CarriedDeed world (Deliver place number) number (Keeps (kept_as side generation old)) []
  deep_deed (message.JoinAsk id) place sent is s was = heard_as place (CarriesAsk id) sent old Deep [] is s (is_deep old id was.0 (omega (arith, was.1))) tt
  deep_deed (message.Range entry) place sent is s was = absurd was
  deep_deed (message.Want clock) place sent is s was = absurd was
  deep_deed (message.Snapshot snapshot) place sent is s was = absurd was
  deep_deed (message.JoinGive give) place sent is s was = absurd was

  -- ---- keeping a journal

  -- a journal that was compacted, or was so already
  pub compaction_deed : {B T : Type 0} (was now : BankedClone B) (count : T) (steps : List KeptStep) → was.local ≡ old → KeepsCompacted was now
      → KeepSteps {T = T} (HasNeighbours old.entries) (LocallyCompacts old) now.local (Ok count) steps → CarriedDeed world (Compact number) number (Keeps (kept_as side generation old)) steps
  compaction_deed was now count steps same (nothing_to_fuse fused stays) (inl none) =
      named_as world number old sound at side generation (Compact number) steps [] none.1
      (uncompacted_deed world number old sound at (subst (λ (c : LocalClone). AreFusedRuns c.entries c.entries) same fused) side generation)
  compaction_deed was now count steps same (nothing_to_fuse fused stays) (inr due) =
      absurd (neighbours_fused old.entries due.0
      (subst (λ (c : LocalClone). AreCompacted (ranges_of c.entries) (ranges_of c.entries)) same
      (fused_runs_are_compacted was.local.entries was.local.entries fused)))
  compaction_deed was now count steps same (swapped compacts due opened next) (inl none) =
      absurd (none.0 (subst (λ (c : LocalClone). HasNeighbours c.entries) same due))
  compaction_deed was now count steps same (swapped compacts due opened next) (inr made) =
      compacts_deed world number old sound at side generation now.local steps made.0 (subst (λ (c : LocalClone). LocallyCompacts c now.local) same compacts) made.1

  -- one that was truncated, or has no more entries
  pub truncation_deed : {B T : Type 0} (was now : BankedClone B) (keep : ℕ) (count : T) (steps : List KeptStep) → was.local ≡ old → KeepsTruncated was keep now
      → KeepSteps {T = T} (keep < length old.entries) (LocallyTruncates old keep) now.local (Ok count) steps
      → CarriedDeed world (Truncate number keep) number (Keeps (kept_as side generation old)) steps
  truncation_deed was now keep count steps same (nothing_to_cut few stays) (inl none) =
      named_as world number old sound at side generation (Truncate number keep) steps [] none.1
      (untruncated_deed world number old sound at keep (subst (λ (c : LocalClone). length c.entries ≤ keep) same few) side generation)
  truncation_deed was now keep count steps same (nothing_to_cut few stays) (inr due) =
      absurd (omega (arith, due.0, subst (λ (c : LocalClone). length c.entries ≤ keep) same few))
  truncation_deed was now keep count steps same (cut more truncates opened next) (inl none) =
      absurd (none.0 (subst (λ (c : LocalClone). keep < length c.entries) same more))
  truncation_deed was now keep count steps same (cut more truncates opened next) (inr made) =
      truncates_deed world number old sound at side generation keep now.local steps made.0 (subst (λ (c : LocalClone). LocallyTruncates c keep now.local) same truncates) made.1
