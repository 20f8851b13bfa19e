-- What the calls of a clone tell of their changes, done or refused in the middle, is a deed of the model whose durable steps they carry.
use Rattle.std.proofs.Common.{◌≡◌, ℕ, ◌<◌, List, [], ◌∷◌, sym, subst, length, Some}
use Rattle.mld_io.specs.declared.banks.Side.{Side}
use Rattle.mld_ops.specs.declared.entries.Entry.{Entry}
use Rattle.mld_ops.specs.declared.messages.Give.{Give}
use Rattle.mld_ops.specs.declared.messages.Message.TheVariants as message
use Rattle.mld_ops.specs.declared.messages.Message.{Message as Told}
use Rattle.mld_ops.specs.Messages.{MessageValue, message_value, snapshot_value, give_value}
use Rattle.op_fusion.specs.Compacting.{HasNeighbours}
use Rattle.clone_core.specs.journal_sides.Pairs.{KeepsNone, Keeps}
use Rattle.jrql_ast.specs.declared.plans.UpdatePlan.{UpdatePlan}
use Rattle.mld_model.specs.Local.{LocalAsker, LocalClone, joined_clone, LocallyCompacts, LocallyTruncates}
use Rattle.mld_model.specs.declared.CloneState.TheVariants as states
use Rattle.mld_model.specs.Clone.{Asking}
use Rattle.mld_model.specs.LocalStep.{Take, IsSentAs, GivesNoLeaf, StepStands, passes_over}
use Rattle.mld_model.specs.Reply.{Ignored}
use Rattle.mld_model.specs.Sound.{IsSound}
use Rattle.mld_model.specs.StandsFor.{LiveAt, AskingAt}
use Rattle.mld_model.specs.World.{World, Message, message_at, clone_at}
use Rattle.mld_model.proofs.LocalSteps.{local_steps}
use Rattle.schedule_model.specs.declared.Command.{Command}
use Rattle.schedule_model.specs.declared.Command.TheVariants.{Deliver, Compact, Truncate}
use Rattle.schedule_model.specs.WorldStep.{IsUpdateOf}
use Rattle.clone_core.specs.clone_parts.declared.answers.Done.TheVariants as done
use Rattle.clone_core.specs.clone_parts.KeptSteps.{KeptStep, Created, Appended, Forked, Swapped, appends}
use Rattle.clone_core.specs.Banked.{BankedClone, head_of, kept_as}
use Rattle.clone_core.specs.CloneUpdates.{LocallyUpdatesBy}
use Rattle.clone_core.specs.Due.{HasToMake, IsDueMessage}
use Rattle.clone_core.specs.Joining.{IsGiveFor}
use Rattle.clone_core.specs.DurableCalls.{AppendsPlanned, WouldReceive, SwapsTo, merged_steps}
use Rattle.crash_laws.specs.Deeds.{CarriedDeed}
use Rattle.crash_laws.proofs.KeepingDeeds.{compacted_deed, truncated_deed}
use Rattle.crash_laws.proofs.OwnDeeds.{update_deed}
use Rattle.crash_laws.proofs.Kept.{carried_at}
use Rattle.crash_laws.proofs.OtherDeeds.{none_kept}
use Rattle.crash_laws.proofs.ReceivedDeeds.{delivered, taken_deed, forked_deed, merged_deed, adopted_deed}

module _ (world : World) (number : ℕ) (old : LocalClone) (sound : IsSound world) (at : LiveAt world number old) (side : Side) (generation : ℕ) where
  -- the changes are others by name alone
  pub named_as : (command : Command) (steps same : List KeptStep) → steps ≡ same → CarriedDeed world command number (Keeps (kept_as side generation old)) same
      → CarriedDeed world command number (Keeps (kept_as side generation old)) steps
  named_as command steps same is carried = subst (CarriedDeed world command number (Keeps (kept_as side generation old))) (sym is) carried

  -- ---- an update

  -- one that was due and would have been appended
  pub planned_deed : (command : Command) (plan : UpdatePlan) (steps : List KeptStep) → IsUpdateOf command number plan → AppendsPlanned old plan steps
      → CarriedDeed world command number (Keeps (kept_as side generation old)) steps
  planned_deed command plan steps is would =
      named_as command steps (Appended would.appends.0 ∷ []) would.appends.2
      (update_deed world number old plan would.due.effect would.appends.0 sound at would.due.has would.due.may.some would.due.may.own would.due.may.single
      would.appends.1.may.ordered would.appends.1.time would.appends.1.carries command is side generation)

  -- one that was made
  pub made_deed : (command : Command) (plan : UpdatePlan) (entry : Entry) (new : LocalClone) (steps : List KeptStep)
      → IsUpdateOf command number plan → LocallyUpdatesBy old plan (done.Made entry) new → steps ≡ Appended entry ∷ []
      → CarriedDeed world command number (Keeps (kept_as side generation old)) steps
  made_deed command plan entry new steps is made same =
      named_as command steps (Appended entry ∷ []) same
      (update_deed world number old plan made.effect entry sound at made.has made.updates.0.some made.updates.0.own made.updates.0.single
      made.updates.1.ordered made.updates.1.time made.updates.1.carries command is side generation)

  -- ---- a message

  -- what would have been received
  pub received_deed : (told : Told) (place : ℕ) (sent : Message) (steps : List KeptStep) → message_at world place ≡ Some sent → IsSentAs world (message_value told) sent
      → HasToMake old told → WouldReceive old told steps → CarriedDeed world (Deliver place number) number (Keeps (kept_as side generation old)) steps
  received_deed (message.Range entry) place sent steps is s may would =
      named_as (Deliver place number) steps (appends would.3.0) would.3.2
      (taken_deed world number place sound side generation old would.0 entry would.1 would.3.0 at sent is s would.2 would.3.1)
  received_deed (message.JoinAsk id) place sent steps is s may would =
      named_as (Deliver place number) steps (Forked ∷ []) would
      (forked_deed world number place sound side generation old id at sent is s may.other may.room)
  received_deed (message.Snapshot snapshot) place sent steps is s may would =
      named_as (Deliver place number) steps (merged_steps would.0) would.3
      (merged_deed world number place sound side generation old would.0 (snapshot_value snapshot) would.1 at sent is s would.2)
  received_deed (message.Want clock) place sent steps is s may would = absurd would
  received_deed (message.JoinGive give) place sent steps is s may would = absurd would

  -- ---- keeping a journal

  -- what the banks would have been swapped for
  pub compacts_deed : (next : LocalClone) (steps : List KeptStep) → HasNeighbours old.entries → LocallyCompacts old next → SwapsTo next steps
      → CarriedDeed world (Compact number) number (Keeps (kept_as side generation old)) steps
  compacts_deed next steps due compacts is =
      named_as (Compact number) steps (Swapped (head_of next) next.entries ∷ []) is (compacted_deed world number old sound at next compacts due side generation)

  pub truncates_deed : (keep : ℕ) (next : LocalClone) (steps : List KeptStep) → keep < length old.entries → LocallyTruncates old keep next → SwapsTo next steps
      → CarriedDeed world (Truncate number keep) number (Keeps (kept_as side generation old)) steps
  truncates_deed keep next steps due truncates is =
      named_as (Truncate number keep) steps (Swapped (head_of next) next.entries ∷ []) is (truncated_deed world number old sound at keep next truncates due side generation)

-- what is due by a message a clone has to make, whatever its generation is
pub has_to_make : {B : Type 0} (clone : BankedClone B) (told : Told) → IsDueMessage clone told → HasToMake clone.local told
has_to_make clone (message.Range entry) due = due
has_to_make clone (message.JoinAsk id) due = due
has_to_make clone (message.Snapshot snapshot) due = due.due
has_to_make clone (message.Want clock) due = absurd due
has_to_make clone (message.JoinGive give) due = absurd due

-- one who asks would have been given a leaf, or was
pub adopts_deed : (world : World) (number place : ℕ) (asker : LocalAsker) (told : Told) (give : Give) (sent : Message) → IsSound world → AskingAt world number asker
    → message_at world place ≡ Some sent → IsSentAs world (message_value told) sent → IsGiveFor asker told give
    → CarriedDeed world (Deliver place number) number KeepsNone (Created (head_of (joined_clone asker (give_value give))) ∷ [])
adopts_deed world number place asker told give sent sound at is s gives =
    adopted_deed world number place asker (give_value give) sent sound at is (subst (λ (m : Told). IsSentAs world (message_value m) sent) gives.is s) gives.own

-- one who asks passes over any other message
pub passed_deed : (world : World) (number place : ℕ) (asker : LocalAsker) (what : MessageValue) (sent : Message) → IsSound world → AskingAt world number asker
    → message_at world place ≡ Some sent → IsSentAs world what sent → GivesNoLeaf asker what → CarriedDeed world (Deliver place number) number KeepsNone []
passed_deed world number place asker what sent sound at is s none =
    let does : StepStands world number (Take sent) Ignored [] (states.Asking asker) =
    local_steps world number (states.Asking asker) (states.Asking asker) (Take what) (Take sent) Ignored [] sound at s (passes_over asker what none) in
    delivered world place number sent KeepsNone [] Ignored does.next [] is does.does (sym (none_kept (clone_at world number) sent Ignored tt))
    (carried_at world number Asking KeepsNone [] [] at.asking tt) tt
