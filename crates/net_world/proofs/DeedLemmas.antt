-- What the clone of a crash line may do on its banks is the deed of its command in the model.
use Rattle.std.proofs.Common.{◌≡◌, ℕ, zero, suc, List, [], ◌∷◌, Some, None, inl, inr, refl, sym, ◌∙◌, ap, subst, map}
use Rattle.mld_io.specs.declared.banks.Side.{Side}
use Rattle.clone_core.specs.journal_sides.Pairs.{KeepsNone, Keeps}
use Rattle.jrql_ast.specs.declared.plans.UpdatePlan.{UpdatePlan}
use Rattle.jrql_ast.specs.Templates.{insertion_of, deletion_of}
use Rattle.mld_ops.specs.Messages.{GiveValue, MessageValue, message_value, give_value}
use Rattle.mld_ops.specs.declared.messages.Give.{Give}
use Rattle.mld_ops.specs.declared.messages.Message.{Message}
use Rattle.mld_ops.specs.declared.messages.Message.TheVariants as kinds
use Rattle.mld_model.specs.Clone.{kept_of, Asking}
use Rattle.mld_model.specs.Local.{LocalAsker, LocalClone, joined_clone}
use Rattle.mld_model.specs.LocalStep.{IsSentAs, GivesNoLeaf}
use Rattle.mld_model.specs.Sound.{IsSound}
use Rattle.mld_model.specs.StandsFor.{RunningWorld, StandsFor, LiveAt, AskingAt}
use Rattle.mld_model.specs.World.{World, clone_at, numbered, message_at}
use Rattle.mld_model.specs.declared.CloneState.TheVariants as states
use Rattle.schedule_text.specs.schedule_model.Tasks.{command_of, number_of_task}
use Rattle.schedule_text.specs.schedule_model.WorldStep.{IsUpdateOf, sent_message}
use Rattle.schedule_text.specs.schedule_model.declared.Command.{Command}
use Rattle.schedule_text.specs.schedule_model.declared.Command.TheVariants.{Add, Remove, Update, Deliver}
use Rattle.schedule_text.specs.schedule_model.declared.CrashTask.{CrashTask}
use Rattle.schedule_text.specs.schedule_model.declared.CrashTask.TheVariants as tasks
use Rattle.schedule_text.proofs.of_schedule_model.FollowsLaws.{SentAs, sent_as}
use Rattle.schedule_text.proofs.of_schedule_model.WorldLaws.{no_message}
use Rattle.clone_core.specs.clone_parts.declared.answers.Done.TheVariants as done
use Rattle.clone_core.specs.clone_parts.KeptSteps.{KeptStep, Created, Appended}
use Rattle.clone_core.specs.Banked.{head_of, kept_as}
use Rattle.clone_core.specs.DurableCalls.{AppendsPlanned}
use Rattle.clone_core.specs.Joining.{GivesNone}
use Rattle.world_commands.specs.crash_laws.CarriedSteps.{owner_at, StandsRead}
use Rattle.world_commands.specs.crash_laws.Deeds.{CarriedDeed}
use Rattle.world_commands.proofs.of_crash_laws.DoneDeeds.{updated_deed, too_many_deed, single_deed, answered_deed, full_deed, deep_deed}
use Rattle.world_commands.proofs.of_crash_laws.Kept.{carried_at}
use Rattle.world_commands.proofs.of_crash_laws.KeepingDeeds.{none_carried, uncompacted_deed, untruncated_deed}
use Rattle.world_commands.proofs.of_crash_laws.OtherDeeds.{opened_deed, unsent_deed, asking_deed}
use Rattle.world_commands.proofs.of_crash_laws.OwnDeeds.{update_deed}
use Rattle.world_commands.proofs.of_crash_laws.ToldDeeds.{named_as, received_deed, compacts_deed, truncates_deed, adopts_deed, passed_deed}
use Rattle.world_commands.specs.Doings.{AppendsDue, UpdatesNone, changes_nothing, has_too_many, breaks_single, ReceivesNone, received_none, held_full, too_deep}
use Rattle.world_commands.proofs.DeliverLemmas.{value_at, no_value_at}
use Rattle.net_world.specs.CrashedWorlds.{doing_task}

-- ---- messages

same_message : (running : RunningWorld) (number : ℕ) → numbered running.messages number ≡ sent_message running number
same_message running zero = refl
same_message running (suc before) = refl

-- the message of a number in the model
module _ (running : RunningWorld) (world : World) (stands : StandsFor running world) (messages : List Message) (are : running.messages ≡ map message_value messages) (place : ℕ) where
  sent_there : (sent : Message) → numbered messages place ≡ Some sent → SentAs world (message_value sent) place
  sent_there sent is =
      sent_as running world stands place (message_value sent)
      (sym (same_message running place) ∙ ap (λ (l : List MessageValue). numbered l place) are ∙ value_at messages place sent is)

  none_there : numbered messages place ≡ None → message_at world place ≡ None
  none_there none =
      no_message running world stands place
      (sym (same_message running place) ∙ ap (λ (l : List MessageValue). numbered l place) are ∙ no_value_at messages place none)

told_as : (world : World) (sent : Message) (place : ℕ) → (s : SentAs world (message_value sent) place) → IsSentAs world (message_value sent) s.other
told_as world sent place s = record { sent = s.stands; stands = s.relates }

-- a message that gives the one who asks no leaf is of no value that does
gives_no_leaf : (asker : LocalAsker) (sent : Message) → GivesNone asker sent → GivesNoLeaf asker (message_value sent)
gives_no_leaf asker (kinds.JoinGive give) none leaf is own =
    let same : give_value give ≡ leaf = cc is in
    none give (record { is = refl; own = subst (λ (l : GiveValue). l.id ≡ asker.id) (sym same) own })
gives_no_leaf asker (kinds.Range entry) none leaf is own = absurd (cc is)
gives_no_leaf asker (kinds.Want clock) none leaf is own = absurd (cc is)
gives_no_leaf asker (kinds.Snapshot snapshot) none leaf is own = absurd (cc is)
gives_no_leaf asker (kinds.JoinAsk id) none leaf is own = absurd (cc is)

-- ---- a live clone

module _ (world : World) (number : ℕ) (old : LocalClone) (sound : IsSound world) (at : LiveAt world number old) (side : Side) (generation : ℕ) where
  -- an update that was made, or would have been
  due_deed : (command : Command) (plan : UpdatePlan) (steps : List KeptStep) → IsUpdateOf command number plan → AppendsDue old plan steps
      → CarriedDeed world command number (Keeps (kept_as side generation old)) steps
  due_deed command plan steps is would =
      named_as world number old sound at side generation command steps (Appended would.entry ∷ []) would.appends
      (update_deed world number old plan would.due.effect would.entry sound at would.due.has would.due.may.some would.due.may.own would.due.may.single
      would.ordered would.time would.carries command is side generation)

  -- one that made nothing
  unmade_deed : (command : Command) (plan : UpdatePlan) → IsUpdateOf command number plan → UpdatesNone old plan
      → CarriedDeed world command number (Keeps (kept_as side generation old)) []
  unmade_deed command plan is (changes_nothing new by) = updated_deed world number old sound at side generation command plan done.Nothing new [] (AppendsPlanned old plan) is by refl
  unmade_deed command plan is (has_too_many many) = too_many_deed world number old sound at side generation command plan is many
  unmade_deed command plan is (breaks_single place breaks) = single_deed world number old sound at side generation command plan place is breaks

  -- a message that changed nothing
  unchanged_deed : (sent : Message) (place : ℕ) → SentAs world (message_value sent) place → ReceivesNone old sent
      → CarriedDeed world (Deliver place number) number (Keeps (kept_as side generation old)) []
  unchanged_deed sent place s (received_none answer new receives none) =
      answered_deed world number old sound at side generation sent place s.other answer new [] s.at (told_as world sent place s) receives none
  unchanged_deed sent place s (held_full full) = full_deed world number old sound at side generation sent place s.other s.at (told_as world sent place s) full
  unchanged_deed sent place s (too_deep deep) = deep_deed world number old sound at side generation sent place s.other s.at (told_as world sent place s) deep

-- ---- the command of a crash line

module _ (running : RunningWorld) (world : World) (stands : StandsFor running world) (sound : IsSound world) (messages : List Message) (are : running.messages ≡ map message_value messages) where
  -- changes of a live clone
  pub changes_deed : (task : CrashTask) (old : LocalClone) (steps : List KeptStep) (side : Side) (generation : ℕ) → LiveAt world (number_of_task task) old → (doing_task messages task).changes old steps
      → CarriedDeed world (command_of task) (number_of_task task) (Keeps (kept_as side generation old)) steps
  changes_deed (tasks.Add number triple) old steps side generation at made = due_deed world number old sound at side generation (Add number triple) (insertion_of triple) steps (refl, refl) made
  changes_deed (tasks.Remove number triple) old steps side generation at made = due_deed world number old sound at side generation (Remove number triple) (deletion_of triple) steps (refl, refl) made
  changes_deed (tasks.Update number plan) old steps side generation at made = due_deed world number old sound at side generation (Update number plan) plan steps (refl, refl) made
  changes_deed (tasks.Deliver place number) old steps side generation at made =
      let s : SentAs world (message_value made.0) place = sent_there running world stands messages are place made.0 made.1 in
      received_deed world number old sound at side generation made.0 place s.other steps s.at (told_as world made.0 place s) made.2.0 made.2.1
  changes_deed (tasks.Compact number) old steps side generation at made = compacts_deed world number old sound at side generation made.0 steps made.1 made.2 made.3
  changes_deed (tasks.Truncate number keep) old steps side generation at made = truncates_deed world number old sound at side generation keep made.0 steps made.1 made.2 made.3
  changes_deed (tasks.Open number) old steps side generation at made = absurd made

  -- a live clone that had nothing to do
  pub idle_deed : (task : CrashTask) (old : LocalClone) (side : Side) (generation : ℕ) → LiveAt world (number_of_task task) old → (doing_task messages task).idles (states.Live old)
      → CarriedDeed world (command_of task) (number_of_task task) (Keeps (kept_as side generation old)) []
  idle_deed (tasks.Add number triple) old side generation at idle = unmade_deed world number old sound at side generation (Add number triple) (insertion_of triple) (refl, refl) idle
  idle_deed (tasks.Remove number triple) old side generation at idle = unmade_deed world number old sound at side generation (Remove number triple) (deletion_of triple) (refl, refl) idle
  idle_deed (tasks.Update number plan) old side generation at idle = unmade_deed world number old sound at side generation (Update number plan) plan (refl, refl) idle
  idle_deed (tasks.Deliver place number) old side generation at idle = elim idle [
    | inl none ↦ unsent_deed world number place (Keeps (kept_as side generation old)) (none_there running world stands messages are place none) (none_carried world number old sound at side generation)
    | inr sent ↦ unchanged_deed world number old sound at side generation sent.0 place (sent_there running world stands messages are place sent.0 sent.1) sent.2
  ]
  idle_deed (tasks.Compact number) old side generation at idle = uncompacted_deed world number old sound at idle side generation
  idle_deed (tasks.Truncate number keep) old side generation at idle = untruncated_deed world number old sound at keep idle side generation
  idle_deed (tasks.Open number) old side generation at idle = opened_deed world number (Keeps (kept_as side generation old)) (none_carried world number old sound at side generation)

  -- ---- one who asks

  asking_stands : (number : ℕ) (asker : LocalAsker) → AskingAt world number asker → StandsRead (owner_at world number) world.history KeepsNone (kept_of (clone_at world number))
  asking_stands number asker at = carried_at world number Asking KeepsNone [] [] at.asking tt

  -- that took a leaf
  pub takes_deed : (task : CrashTask) (asker : LocalAsker) (leaf : GiveValue) → AskingAt world (number_of_task task) asker → (doing_task messages task).takes asker leaf
      → CarriedDeed world (command_of task) (number_of_task task) KeepsNone (Created (head_of (joined_clone asker leaf)) ∷ [])
  takes_deed (tasks.Deliver place number) asker leaf at took =
      let s : SentAs world (message_value took.0) place = sent_there running world stands messages are place took.0 took.1 in
      let give : Give = took.2.0 in
      subst (λ (l : GiveValue). CarriedDeed world (Deliver place number) number KeepsNone (Created (head_of (joined_clone asker l)) ∷ [])) (sym took.2.2)
      (adopts_deed world number place asker took.0 give s.other sound at s.at (told_as world took.0 place s)
      (record { is = took.2.1; own = subst (λ (l : GiveValue). l.id ≡ asker.id) took.2.2 took.2.3 }))
  takes_deed (tasks.Add number triple) asker leaf at took = absurd took
  takes_deed (tasks.Remove number triple) asker leaf at took = absurd took
  takes_deed (tasks.Update number plan) asker leaf at took = absurd took
  takes_deed (tasks.Compact number) asker leaf at took = absurd took
  takes_deed (tasks.Truncate number keep) asker leaf at took = absurd took
  takes_deed (tasks.Open number) asker leaf at took = absurd took

  -- that had nothing to do
  pub waits_deed : (task : CrashTask) (asker : LocalAsker) → AskingAt world (number_of_task task) asker → (doing_task messages task).idles (states.Asking asker)
      → CarriedDeed world (command_of task) (number_of_task task) KeepsNone []
  waits_deed (tasks.Deliver place number) asker at idle = elim idle [
    | inl none ↦ unsent_deed world number place KeepsNone (none_there running world stands messages are place none) (asking_stands number asker at)
    | inr sent ↦
        let s : SentAs world (message_value sent.0) place = sent_there running world stands messages are place sent.0 sent.1 in
        passed_deed world number place asker (message_value sent.0) s.other sound at s.at (told_as world sent.0 place s) (gives_no_leaf asker sent.0 sent.2)
  ]
  waits_deed (tasks.Add number triple) asker at idle = asking_deed world (tasks.Add number triple) tt at.asking
  waits_deed (tasks.Remove number triple) asker at idle = asking_deed world (tasks.Remove number triple) tt at.asking
  waits_deed (tasks.Update number plan) asker at idle = asking_deed world (tasks.Update number plan) tt at.asking
  waits_deed (tasks.Compact number) asker at idle = asking_deed world (tasks.Compact number) tt at.asking
  waits_deed (tasks.Truncate number keep) asker at idle = asking_deed world (tasks.Truncate number keep) tt at.asking
  waits_deed (tasks.Open number) asker at idle = asking_deed world (tasks.Open number) tt at.asking
