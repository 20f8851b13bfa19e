-- What a crash line leaves: a sound world that remembers what was remembered, and changes the clone of its command alone.
use Rattle.std.specs.Prelude.{◌≡◌, ℕ, ◌<◌, List, [], Bool, length}
use Rattle.std.proofs.Common.{refl, sym, ◌∙◌, ap, subst, inl, inr, arith, append-nil}
use Rattle.std.proofs.lemmas.Bool.{cases_lt}
use Rattle.std.proofs.lemmas.List.{get_or_past, get_or-set_other, length-set}
use Rattle.tree_clock.specs.declared.dots.Dot.{Dot}
use Rattle.tree_clock.specs.Lists.{Has}
use Rattle.mld_ops.specs.declared.tagged.Tagged.{Tagged}
use Rattle.mld_ops.specs.History.{Operation}
use Rattle.mld_ops.specs.Effects.{EffectValue}
use Rattle.schedule_model.specs.declared.Command.{Command}
use Rattle.schedule_model.specs.declared.Command.TheVariants.{Add, Remove, Update, Deliver, Compact, Truncate, Open}
use Rattle.schedule_model.specs.declared.CrashTask.{CrashTask}
use Rattle.schedule_model.specs.declared.CrashTask.TheVariants as tasks
use Rattle.mld_model.specs.Clone.{Clone, Absent, kept_of}
use Rattle.mld_model.specs.World.{World, clone_at, clone_count}
use Rattle.mld_model.specs.Reply.{Reply}
use Rattle.mld_model.specs.Durable.{DurableStep, kept_after}
use Rattle.mld_model.specs.CrashFronts.{standing_front, down_with, with_clone_down, after_crash}
use Rattle.mld_model.specs.Sound.{IsSound}
use Rattle.mld_model.proofs.FrontLaws.{stands_front}
use Rattle.mld_model.proofs.CrashedLaws.{KeepsAlike, keeps_there, crashed_alike, crashed_sound, stands_as_it_was, down_sound}
use Rattle.schedule_model.specs.Tasks.{command_of, number_of_task}
use Rattle.schedule_model.specs.Step.{HasCloneNumbers, number_of_clone}
use Rattle.schedule_model.specs.Crashing.{IsArmed, Deed, Crashes, isnt_armed, is_caught, isnt_caught}
use Rattle.schedule_model.specs.PlainStep.{PlainStep}
use Rattle.schedule_model.specs.Answers.{Remembers, RemembersUpdate, TellsOfDot, Survives}
use Rattle.schedule_model.proofs.PlainAnswers.{UpdateRule, plain_tells, plain_remembers}
use Rattle.schedule_model.proofs.PlainSound.{plain_sound}
use Rattle.schedule_model.proofs.PlainChanges.{Grows, Changes, plain_changes}
use Rattle.schedule_model.proofs.FrontsStand.{FrontStands, front_stands}

-- ---- the command of a crash line

-- its number is that of its clone
pub task_number_is : (task : CrashTask) → number_of_clone (command_of task) ≡ number_of_task task
task_number_is (tasks.Add number triple) = refl
task_number_is (tasks.Remove number triple) = refl
task_number_is (tasks.Update number plan) = refl
task_number_is (tasks.Deliver message number) = refl
task_number_is (tasks.Compact number) = refl
task_number_is (tasks.Truncate number keep) = refl
task_number_is (tasks.Open number) = refl

-- and has no other
pub task_numbers : (task : CrashTask) → number_of_task task < clone_count → HasCloneNumbers (command_of task)
task_numbers (tasks.Add number triple) small = small
task_numbers (tasks.Remove number triple) small = small
task_numbers (tasks.Update number plan) small = small
task_numbers (tasks.Deliver message number) small = small
task_numbers (tasks.Compact number) small = small
task_numbers (tasks.Truncate number keep) small = small
task_numbers (tasks.Open number) small = small

-- a clone whose device is armed is in the list
pub armed_inside : (world : World) (number : ℕ) (task : CrashTask) → IsArmed (clone_at world number) task → number < length world.clones
armed_inside world number task armed = elim (cases_lt number (length world.clones)) [
  | inl inside ↦ inside
  | inr past ↦ absurd (subst (λ (c : Clone). IsArmed c task) (get_or_past world.clones number Absent past) armed)
]

-- so it is one of the clones that there are
numbers_of_armed : (world : World) (task : CrashTask) → IsArmed (clone_at world (number_of_task task)) task → IsSound world → HasCloneNumbers (command_of task)
numbers_of_armed world task armed sound =
    task_numbers task (omega (arith, armed_inside world (number_of_task task) task armed, sound.count))

-- ---- what is remembered

-- a world that keeps the same remembers the same
alike_remembers : (world other : World) → KeepsAlike world other → (number : ℕ) (operation : Operation) → Remembers world number operation
    → Remembers other number operation
alike_remembers world other alike number operation remembers = record {
  stored = remembers.stored;
  keeps = keeps_there world other alike number remembers.stored remembers.keeps;
  known = remembers.known;
  stands = subst (λ (h : List Operation). Has h operation) (sym alike.history) remembers.stands;
}

-- ---- a world after a crash

-- a call was caught, and a front of the durable steps stands
module _ (choice : Bool) (call : ℕ) (world : World) (task : CrashTask) (steps : List DurableStep) (next : World)
    (armed : IsArmed (clone_at world (number_of_task task)) task) (deed : Deed world (command_of task)) (front : steps ≡ standing_front choice call deed.steps)
    (after : next ≡ after_crash world (number_of_task task) steps) where
  inside_here : number_of_task task < length world.clones
  inside_here = armed_inside world (number_of_task task) task armed

  caught_stands : FrontStands world (number_of_task task) steps
  caught_stands =
      let inside : number_of_clone (command_of task) < length world.clones =
      subst (λ (n : ℕ). n < length world.clones) (sym (task_number_is task)) inside_here in
      let stands : FrontStands world (number_of_clone (command_of task)) (standing_front choice call deed.steps) =
      front_stands world (command_of task) deed.reply deed.after deed.steps (standing_front choice call deed.steps) (numbers_of_armed world task armed) inside
      deed.does deed.are (stands_front choice call deed.steps) in
      subst (λ (s : List DurableStep). FrontStands world (number_of_task task) s) (sym front)
      (subst (λ (n : ℕ). FrontStands world n (standing_front choice call deed.steps)) (task_number_is task) stands)

  caught_alike : KeepsAlike caught_stands.like next
  caught_alike = subst (λ (w : World). KeepsAlike caught_stands.like w) (sym after)
      (crashed_alike world caught_stands.like (number_of_task task) steps inside_here caught_stands.stands)

  pub caught_sound : IsSound world → IsSound next
  caught_sound sound = subst IsSound (sym after)
      (crashed_sound world caught_stands.like (number_of_task task) steps inside_here caught_stands.stands (caught_stands.sound sound))

  caught_remembers : (number : ℕ) (operation : Operation) → Remembers world number operation → Remembers next number operation
  caught_remembers number operation remembers =
      alike_remembers caught_stands.like next caught_alike number operation (caught_stands.remembers number operation remembers)

  pub caught_changes : Changes world next (number_of_task task)
  caught_changes = record {
    domain = ap (λ (w : World). w.domain) after;
    properties = ap (λ (w : World). w.properties) after;
    others = λ other differs. ap (λ (w : World). clone_at w other) after
        ∙ get_or-set_other world.clones (number_of_task task) other (down_with (kept_after (kept_of (clone_at world (number_of_task task))) steps)) Absent differs;
    grows = λ sound. subst (λ (h : List Operation). Grows world.history h) (sym caught_alike.history) (caught_stands.grows sound);
    count = ap (λ (w : World). length w.clones) after
        ∙ length-set world.clones (number_of_task task) (down_with (kept_after (kept_of (clone_at world (number_of_task task))) steps));
    more = [];
    said = ap (λ (w : World). w.messages) after ∙ sym (append-nil world.messages);
  }

-- no call was caught, and the clone crashed once the command was done
module _ (world : World) (task : CrashTask) (next : World) (armed : IsArmed (clone_at world (number_of_task task)) task) (deed : Deed world (command_of task))
    (after : next ≡ with_clone_down deed.after (number_of_task task)) where
  pub done_changes : Changes world deed.after (number_of_task task)
  done_changes = subst (λ (n : ℕ). Changes world deed.after n) (task_number_is task) (plain_changes world (command_of task) deed.reply deed.after deed.does)

  pub inside_after : number_of_task task < length deed.after.clones
  inside_after = omega (arith, armed_inside world (number_of_task task) task armed, done_changes.count)

  down_alike : KeepsAlike deed.after next
  down_alike = subst (λ (w : World). KeepsAlike deed.after w) (sym after)
      (crashed_alike deed.after deed.after (number_of_task task) [] inside_after (stands_as_it_was deed.after (number_of_task task)))

  pub uncaught_sound : IsSound world → IsSound next
  uncaught_sound sound = subst IsSound (sym after) (down_sound deed.after (number_of_task task) inside_after
      (plain_sound world (command_of task) deed.reply deed.after (numbers_of_armed world task armed sound) sound deed.does))

  uncaught_remembers : (number : ℕ) (operation : Operation) → Remembers world number operation → Remembers next number operation
  uncaught_remembers number operation remembers =
      alike_remembers deed.after next down_alike number operation
      (plain_remembers world number operation (command_of task) deed.reply deed.after remembers deed.does)

  pub uncaught_changes : Changes world next (number_of_task task)
  uncaught_changes = record {
    domain = ap (λ (w : World). w.domain) after ∙ done_changes.domain;
    properties = ap (λ (w : World). w.properties) after ∙ done_changes.properties;
    others = λ other differs. ap (λ (w : World). clone_at w other) after
        ∙ get_or-set_other deed.after.clones (number_of_task task) other (down_with (kept_of (clone_at deed.after (number_of_task task)))) Absent differs
        ∙ done_changes.others other differs;
    grows = λ sound. subst (λ (h : List Operation). Grows world.history h) (sym (ap (λ (w : World). w.history) after)) (done_changes.grows sound);
    count = ap (λ (w : World). length w.clones) after
        ∙ length-set deed.after.clones (number_of_task task) (down_with (kept_of (clone_at deed.after (number_of_task task)))) ∙ done_changes.count;
    more = done_changes.more;
    said = ap (λ (w : World). w.messages) after ∙ done_changes.said;
  }

  uncaught_tells : (dot : Dot) → TellsOfDot deed.reply dot → Survives world next dot next (number_of_task task)
  uncaught_tells dot tells =
      let done : Survives world deed.after dot deed.after (number_of_task task) =
      subst (λ (n : ℕ). Survives world deed.after dot deed.after n) (task_number_is task)
      (plain_tells world (command_of task) deed.reply dot deed.after tells deed.does) in
      record {
        operation = done.operation;
        is = done.is;
        made = ap (λ (w : World). w.history) after ∙ done.made;
        remembers = alike_remembers deed.after next down_alike (number_of_task task) done.operation done.remembers;
      }

  uncaught_update : (plain : Command) (number : ℕ) (rule : List Tagged → EffectValue → Type 0) (dot : Dot) → command_of task ≡ plain
      → UpdateRule world plain number rule dot → TellsOfDot deed.reply dot → RemembersUpdate world number rule dot next
  uncaught_update plain number rule dot same does tells =
      let made : RemembersUpdate world number rule dot deed.after =
      does deed.reply deed.after tells (subst (λ (c : Command). PlainStep world c deed.reply deed.after) same deed.does) in
      (made.0, made.1, ap (λ (w : World). w.history) after ∙ made.2, alike_remembers deed.after next down_alike number made.0 made.3)

-- ---- a crash line

module _ (choice : Bool) (call : ℕ) (world : World) (task : CrashTask) (steps : List DurableStep) (reply : Reply) (next : World) where
  -- it leads from a sound world to a sound one
  pub crash_sound : number_of_task task < clone_count → IsSound world → Crashes choice call world task steps reply next → IsSound next
  crash_sound small sound (isnt_armed unarmed does are) = plain_sound world (command_of task) reply next (task_numbers task small) sound does
  crash_sound small sound (is_caught armed deed comes front told after) = caught_sound choice call world task steps next armed deed front after sound
  crash_sound small sound (isnt_caught armed deed late all told after) = uncaught_sound world task next armed deed after sound

  -- what was remembered is remembered
  pub crash_remembers : (number : ℕ) (operation : Operation) → Remembers world number operation → Crashes choice call world task steps reply next
      → Remembers next number operation
  crash_remembers number operation remembers (isnt_armed unarmed does are) =
      plain_remembers world number operation (command_of task) reply next remembers does
  crash_remembers number operation remembers (is_caught armed deed comes front told after) =
      caught_remembers choice call world task steps next armed deed front after number operation remembers
  crash_remembers number operation remembers (isnt_caught armed deed late all told after) =
      uncaught_remembers world task next armed deed after number operation remembers

  -- of the clones it changes that of its command alone
  pub crash_changes : Crashes choice call world task steps reply next → Changes world next (number_of_task task)
  crash_changes (isnt_armed unarmed does are) =
      subst (λ (n : ℕ). Changes world next n) (task_number_is task) (plain_changes world (command_of task) reply next does)
  crash_changes (is_caught armed deed comes front told after) = caught_changes choice call world task steps next armed deed front after
  crash_changes (isnt_caught armed deed late all told after) = uncaught_changes world task next armed deed after

  -- what it tells of was made, and is remembered
  pub crash_tells : (dot : Dot) → TellsOfDot reply dot → Crashes choice call world task steps reply next → Survives world next dot next (number_of_task task)
  crash_tells dot tells (isnt_armed unarmed does are) =
      subst (λ (n : ℕ). Survives world next dot next n) (task_number_is task) (plain_tells world (command_of task) reply dot next tells does)
  crash_tells dot tells (is_caught armed deed comes front told after) = absurd (subst (λ (r : Reply). TellsOfDot r dot) told tells)
  crash_tells dot tells (isnt_caught armed deed late all told after) =
      uncaught_tells world task next armed deed after dot (subst (λ (r : Reply). TellsOfDot r dot) told tells)

  -- the operation is the one that the command makes
  pub crash_update : (plain : Command) (number : ℕ) (rule : List Tagged → EffectValue → Type 0) (dot : Dot) → command_of task ≡ plain
      → UpdateRule world plain number rule dot → TellsOfDot reply dot → Crashes choice call world task steps reply next → RemembersUpdate world number rule dot next
  crash_update plain number rule dot same does tells (isnt_armed unarmed makes are) =
      does reply next tells (subst (λ (c : Command). PlainStep world c reply next) same makes)
  crash_update plain number rule dot same does tells (is_caught armed deed comes front told after) =
      absurd (subst (λ (r : Reply). TellsOfDot r dot) told tells)
  crash_update plain number rule dot same does tells (isnt_caught armed deed late all told after) =
      uncaught_update world task next armed deed after plain number rule dot same does (subst (λ (r : Reply). TellsOfDot r dot) told tells)
