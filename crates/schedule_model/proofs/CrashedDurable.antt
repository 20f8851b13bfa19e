-- The durable steps of a command lead to the next world, those of a crash line that stand too; and by each choice they are one list, with one
-- reply and one world after the step.
use Rattle.std.specs.Prelude.{◌≡◌, ℕ, ◌<◌, List, Bool, false, length}
use Rattle.std.proofs.Common.{sym, ◌∙◌, ap, subst, arith}
use Rattle.std.proofs.lemmas.List.{get_or-set_same, get_or-set_other}
use Rattle.schedule_model.specs.declared.Command.{Command}
use Rattle.schedule_model.specs.declared.Command.TheVariants.{Add, Remove, Update, Deliver, Show, Query, Compare, Join, Ask, Compact, Truncate, Stop, Open, Crash}
use Rattle.schedule_model.specs.declared.CrashTask.{CrashTask}
use Rattle.mld_model.specs.Clone.{Clone, Absent, kept_of}
use Rattle.mld_model.specs.World.{World, clone_at, clone_count}
use Rattle.mld_model.specs.Reply.{Reply, ThenCrashed}
use Rattle.mld_model.specs.Durable.{DurableStep, kept_after}
use Rattle.mld_model.specs.CrashFronts.{standing_front, down_with, with_clone_down, after_crash}
use Rattle.mld_model.proofs.CrashedLaws.{down_keeps}
use Rattle.schedule_model.specs.Tasks.{command_of, number_of_task}
use Rattle.schedule_model.specs.PlainStep.{PlainStep}
use Rattle.schedule_model.specs.PlainDurable.{PlainDurableSteps}
use Rattle.schedule_model.specs.Step.{IsTaskInForm, IsCommandInForm, HasCloneNumbers, number_of_clone, IsCrash, Step, StepBy}
use Rattle.schedule_model.specs.Crashing.{task_calls, Deed, Crashes, isnt_armed, is_caught, isnt_caught}
use Rattle.schedule_model.specs.DurableSteps.{DurableSteps, DurableStepsBy, LeadsDurably, DurableStepsLead, OneDurableList}
use Rattle.schedule_model.specs.Laws.{OneStep, StepsByChoice}
use Rattle.schedule_model.proofs.ScheduleLaws.{HasPlanInForm, task_has_plan}
use Rattle.schedule_model.proofs.StepLaws.{plain_once}
use Rattle.schedule_model.proofs.DurableLaws.{Leads, PlainlyLeads, plain_leads, plain_list_once}
use Rattle.schedule_model.proofs.CrashedSteps.{task_number_is, inside_after}

-- ---- they lead to the next world

-- the durable steps of a plain command that are given lead there
given_leads : (world : World) (command : Command) (reply : Reply) (next : World) (steps : List DurableStep) → number_of_clone command < length world.clones
    → PlainStep world command reply next → PlainDurableSteps world command reply next steps → Leads world (number_of_clone command) steps next
given_leads world command reply next steps inside does are =
    let found : PlainlyLeads world command reply next = plain_leads world command reply next inside does in
    subst (λ (s : List DurableStep). Leads world (number_of_clone command) s next) (plain_list_once world command reply next found.0 steps found.1 are) found.2

-- and so do those of the command of a crash line
task_leads : (world : World) (task : CrashTask) (reply : Reply) (next : World) (steps : List DurableStep) → number_of_task task < length world.clones
    → PlainStep world (command_of task) reply next → PlainDurableSteps world (command_of task) reply next steps → Leads world (number_of_task task) steps next
task_leads world task reply next steps inside does are =
    subst (λ (n : ℕ). Leads world n steps next) (task_number_is task)
    (given_leads world (command_of task) reply next steps (subst (λ (n : ℕ). n < length world.clones) (sym (task_number_is task)) inside) does are)

-- those that a crash left standing
caught_leads : (world : World) (number : ℕ) (steps : List DurableStep) (next : World) → number < length world.clones → next ≡ after_crash world number steps
    → Leads world number steps next
caught_leads world number steps next inside after =
    let now : Clone = down_with (kept_after (kept_of (clone_at world number)) steps) in
    record {
      kept = sym (ap (λ (w : World). kept_of (clone_at w number)) after ∙ ap kept_of (get_or-set_same world.clones number now Absent inside)
          ∙ down_keeps (kept_after (kept_of (clone_at world number)) steps));
      made = ap (λ (w : World). w.history) (sym after);
      others = λ other differs. ap (λ (w : World). kept_of (clone_at w other)) after
          ∙ ap kept_of (get_or-set_other world.clones number other now Absent differs);
    }

-- and all of them, where the clone crashed then
down_leads : (world : World) (number : ℕ) (steps : List DurableStep) (after next : World) → number < length after.clones → Leads world number steps after
    → next ≡ with_clone_down after number → Leads world number steps next
down_leads world number steps after next inside leads down =
    let now : Clone = down_with (kept_of (clone_at after number)) in
    record {
      kept = leads.kept ∙ sym (ap (λ (w : World). kept_of (clone_at w number)) down ∙ ap kept_of (get_or-set_same after.clones number now Absent inside)
          ∙ down_keeps (kept_of (clone_at after number)));
      made = leads.made ∙ ap (λ (w : World). w.history) (sym down);
      others = λ other differs. ap (λ (w : World). kept_of (clone_at w other)) down
          ∙ ap kept_of (get_or-set_other after.clones number other now Absent differs) ∙ leads.others other differs;
    }

-- the durable steps of a crash line that stand lead to the next world
pub crash_leads : (choice : Bool) (call : ℕ) (world : World) (task : CrashTask) (steps : List DurableStep) (reply : Reply) (next : World)
    → number_of_task task < length world.clones → Crashes choice call world task steps reply next → Leads world (number_of_task task) steps next
crash_leads choice call world task steps reply next inside (isnt_armed unarmed does are) = task_leads world task reply next steps inside does are
crash_leads choice call world task steps reply next inside (is_caught armed deed comes front told after) =
    caught_leads world (number_of_task task) steps next inside after
crash_leads choice call world task steps reply next inside (isnt_caught armed deed late all told after) =
    let leads : Leads world (number_of_task task) deed.steps deed.after = task_leads world task deed.reply deed.after deed.steps inside deed.does deed.are in
    subst (λ (s : List DurableStep). Leads world (number_of_task task) s next) (sym all)
    (down_leads world (number_of_task task) deed.steps deed.after next (inside_after world task next armed deed after) leads after)

-- the clone of a command is one of those that there are
clone_number : (command : Command) → HasCloneNumbers command → number_of_clone command < clone_count
clone_number (Add number triple) small = small
clone_number (Remove number triple) small = small
clone_number (Update number plan) small = small
clone_number (Deliver message number) small = small
clone_number (Show number) small = small
clone_number (Query number read) small = small
clone_number (Join number) small = small
clone_number (Ask number) small = small
clone_number (Compact number) small = small
clone_number (Truncate number keep) small = small
clone_number (Stop number) small = small
clone_number (Open number) small = small
clone_number (Compare number other) small = small.0
clone_number (Crash call leave task) small = small

leads_durably : (world : World) (command : Command) (reply : Reply) (next : World) (steps : List DurableStep)
    → DurableSteps world command reply next steps → Leads world (number_of_clone command) steps next → LeadsDurably world command reply next
leads_durably world command reply next steps are leads =
    record { steps = steps; are = are; kept = leads.kept; made = leads.made; others = leads.others }

-- each step of a world by a command whose clones there are has durable steps that lead to the next world
pub durable_steps_lead : DurableStepsLead
unfolding Step DurableSteps
durable_steps_lead world (Crash call leave task) reply next small count p =
    leads_durably world (Crash call leave task) reply next p.1 (p.0, p.2)
    (crash_leads p.0 call world task p.1 reply next (omega (arith, small, count)) p.2)
durable_steps_lead world command reply next small count p =
    let found : PlainlyLeads world command reply next = plain_leads world command reply next (omega (arith, clone_number command small, count)) p in
    leads_durably world command reply next found.0 found.1 found.2

-- ---- they are one list

-- what a command does is one
module _ (world : World) (command : Command) (form : HasPlanInForm command) (one other : Deed world command) where
  deed_once : (one.reply ≡ other.reply) × (one.after ≡ other.after)
  deed_once = plain_once world command one.reply other.reply one.after other.after form one.does other.does

  deed_steps : one.steps ≡ other.steps
  deed_steps =
      let here : PlainDurableSteps world command other.reply other.after one.steps =
      subst (λ (w : World). PlainDurableSteps world command other.reply w one.steps) deed_once.1
      (subst (λ (r : Reply). PlainDurableSteps world command r one.after one.steps) deed_once.0 one.are) in
      plain_list_once world command other.reply other.after one.steps other.steps here other.are

-- by one choice the steps of a crash line that stand are one list, and it has one reply and one world after it
module _ (choice : Bool) (call : ℕ) (world : World) (task : CrashTask) (form : IsTaskInForm task) where
  abbrev AreOne : List DurableStep → Reply → World → List DurableStep → Reply → World → Type 0
  AreOne steps reply next others other after = (steps ≡ others) × (reply ≡ other) × (next ≡ after)

  plan_form : HasPlanInForm (command_of task)
  plan_form = task_has_plan task form

  crash_once : (steps : List DurableStep) (reply : Reply) (next : World) (others : List DurableStep) (other : Reply) (after : World)
      → Crashes choice call world task steps reply next → Crashes choice call world task others other after → AreOne steps reply next others other after
  crash_once steps reply next others other after (isnt_armed unarmed does are) (isnt_armed too makes steps_are) =
      let one : Deed world (command_of task) = record { reply = reply; after = next; does = does; steps = steps; are = are } in
      let two : Deed world (command_of task) = record { reply = other; after = after; does = makes; steps = others; are = steps_are } in
      let once = deed_once world (command_of task) plan_form one two in
      (deed_steps world (command_of task) plan_form one two, once.0, once.1)
  crash_once steps reply next others other after (isnt_armed unarmed does are) (is_caught armed deed comes front told is) = absurd (unarmed armed)
  crash_once steps reply next others other after (isnt_armed unarmed does are) (isnt_caught armed deed late all told is) = absurd (unarmed armed)
  crash_once steps reply next others other after (is_caught armed deed comes front told is) (isnt_armed unarmed does are) = absurd (unarmed armed)
  crash_once steps reply next others other after (is_caught armed deed comes front told is) (is_caught too same below left said was) =
      let stand : steps ≡ others = front ∙ ap (standing_front choice call) (deed_steps world (command_of task) plan_form deed same) ∙ sym left in
      (stand, told ∙ sym said, is ∙ ap (after_crash world (number_of_task task)) stand ∙ sym was)
  crash_once steps reply next others other after (is_caught armed deed comes front told is) (isnt_caught too same late all said was) =
      absurd (omega (arith, comes, late, ap (task_calls (clone_at world (number_of_task task)) task) (deed_steps world (command_of task) plan_form deed same)))
  crash_once steps reply next others other after (isnt_caught armed deed late all told is) (isnt_armed unarmed does are) = absurd (unarmed armed)
  crash_once steps reply next others other after (isnt_caught armed deed late all told is) (is_caught too same comes front said was) =
      absurd (omega (arith, comes, late, ap (task_calls (clone_at world (number_of_task task)) task) (deed_steps world (command_of task) plan_form deed same)))
  crash_once steps reply next others other after (isnt_caught armed deed late all told is) (isnt_caught too same later each said was) =
      let once = deed_once world (command_of task) plan_form deed same in (
        all ∙ deed_steps world (command_of task) plan_form deed same ∙ sym each,
        told ∙ ap ThenCrashed once.0 ∙ sym said,
        is ∙ ap (λ (w : World). with_clone_down w (number_of_task task)) once.1 ∙ sym was,
      )

-- by each choice the durable steps of a step are one list
pub one_durable_list : OneDurableList
unfolding DurableStepsBy
one_durable_list choice world (Crash call leave task) reply next steps other form p q =
    (crash_once choice call world task form steps reply next other reply next p q).0
one_durable_list choice world command reply next steps other form p q = plain_list_once world command reply next steps other p q

-- ---- and so is the step

has_plan_in_form : (command : Command) → IsCommandInForm command → HasPlanInForm command
has_plan_in_form (Update number plan) form = form
has_plan_in_form (Crash call leave task) form = form
has_plan_in_form command form = tt

-- a step by a command whose plan is in form has one reply, and leads to one world
pub step_once : (choice second : Bool) (world : World) (command : Command) (reply other : Reply) (next after : World) → HasPlanInForm command
    → (IsCrash command → choice ≡ second) → StepBy choice world command reply next → StepBy second world command other after
    → (reply ≡ other) × (next ≡ after)
unfolding StepBy
step_once choice second world (Crash call leave task) reply other next after form same p q =
    let here : Crashes second call world task p.0 reply next = subst (λ (c : Bool). Crashes c call world task p.0 reply next) (same tt) p.1 in
    let once = crash_once second call world task form p.0 reply next q.0 other after here q.1 in
    (once.1, once.2)
step_once choice second world command reply other next after form same p q = plain_once world command reply other next after form p q

pub one_step : OneStep
one_step choice second world command reply other next after form same p q =
    step_once choice second world command reply other next after (has_plan_in_form command form) same p q

-- each step is made by some choice
pub steps_by_choice : StepsByChoice
unfolding Step StepBy
steps_by_choice world (Crash call leave task) reply next = (λ p. (p.0, (p.1, p.2)), λ p. (p.0, p.1.0, p.1.1))
steps_by_choice world command reply next = (λ p. (false, p), λ p. p.1)
