-- A running world in which a clone crashed stands for what the model's step makes.
use Rattle.std.proofs.Common.{◌≡◌, ℕ, ◌<◌, ◌≤◌, List, refl, sym, ◌∙◌, arith, subst, length, set, Option, Some, None, Bool, true}
use Rattle.std.proofs.lemmas.List.{get_or-set_same, length-set}
use Rattle.mld_io.specs.declared.banks.Leave.{Leave}
use Rattle.schedule_model.specs.declared.Command.TheVariants.{Crash}
use Rattle.schedule_model.specs.declared.CrashTask.{CrashTask}
use Rattle.schedule_model.specs.declared.CrashTask.TheVariants as tasks
use Rattle.mld_model.specs.declared.CloneState.TheVariants as states
use Rattle.mld_model.specs.Clone.{Clone, Absent, Stored, kept_of}
use Rattle.mld_model.specs.World.{World, clone_at, clone_count}
use Rattle.mld_model.specs.Reply.{Reply, Crashed, ThenCrashed}
use Rattle.mld_model.specs.Durable.{DurableStep, kept_after}
use Rattle.mld_model.specs.CrashFronts.{standing_front, down_with, with_clone_down, after_crash}
use Rattle.mld_model.specs.Sound.{IsSound}
use Rattle.mld_model.specs.StandsFor.{RunningWorld, CloneStandsFor, StandsFor}
use Rattle.schedule_model.specs.Tasks.{command_of, number_of_task}
use Rattle.schedule_model.specs.PlainStep.{PlainStep}
use Rattle.schedule_model.specs.Step.{Step}
use Rattle.schedule_model.specs.Crashing.{IsArmed, task_calls, Deed, isnt_armed, is_caught, isnt_caught}
use Rattle.schedule_model.specs.WorldStep.{stepped_into, Follows}
use Rattle.schedule_model.proofs.PlainChanges.{Changes, turn_changes}
use Rattle.schedule_model.proofs.FollowsLaws.{ticks_grown, messages_grown, clones_follow}
use Rattle.schedule_model.proofs.DurableLaws.{PlainlyLeads, plain_leads}
use Rattle.schedule_model.proofs.CrashedSteps.{task_number_is, armed_inside, caught_sound, caught_changes, uncaught_sound, inside_after}

-- the step of a crash line's command is that of a plain one
pub plain_step : (world : World) (task : CrashTask) (reply : Reply) (next : World) → Step world (command_of task) reply next → PlainStep world (command_of task) reply next
unfolding Step
plain_step world (tasks.Add number triple) reply next p = p
plain_step world (tasks.Remove number triple) reply next p = p
plain_step world (tasks.Update number plan) reply next p = p
plain_step world (tasks.Deliver message number) reply next p = p
plain_step world (tasks.Compact number) reply next p = p
plain_step world (tasks.Truncate number keep) reply next p = p
plain_step world (tasks.Open number) reply next p = p

-- and has durable steps
abbrev pub deed_of : (world : World) (task : CrashTask) (reply : Reply) (next : World) → number_of_task task < length world.clones → Step world (command_of task) reply next
    → Deed world (command_of task)
deed_of world task reply next inside p =
    let does : PlainStep world (command_of task) reply next = plain_step world task reply next p in
    let found : PlainlyLeads world (command_of task) reply next =
    plain_leads world (command_of task) reply next (subst (λ (n : ℕ). n < length world.clones) (sym (task_number_is task)) inside) does in
    record { reply = reply; after = next; does = does; steps = found.0; are = found.1 }

-- a clone that is down stands for one that is, whatever that keeps
down_stands : (world : World) (number : ℕ) (kept : Option Stored) → CloneStandsFor world number (states.Down tt) (down_with kept)
down_stands world number None = tt
down_stands world number (Some stored) = tt

-- a running world that stands for a sound world
module _ (running : RunningWorld) (world : World) (stands : StandsFor running world) (sound : IsSound world) where
  -- the command isn't armed, and is done
  pub unarmed_follows : (call : ℕ) (leave : Leave) (task : CrashTask) (reply : Reply) (after : RunningWorld) → number_of_task task < clone_count
      → ¬ IsArmed (clone_at world (number_of_task task)) task → Follows world (command_of task) reply after → Follows world (Crash call leave task) reply after
  unfolding Step
  unarmed_follows call leave task reply after small unarmed follows =
      let deed : Deed world (command_of task) = deed_of world task reply follows.next (omega (arith, small, sound.count)) follows.steps in
      record {
        next = follows.next;
        steps = (true, deed.steps, isnt_armed unarmed deed.does deed.are);
        sound = follows.sound;
        stands = follows.stands;
      }

  -- a call was caught: by each choice the running world in which the clone is down stands for a world of the model
  pub caught_follows : (choice : Bool) (call : ℕ) (leave : Leave) (task : CrashTask) → (armed : IsArmed (clone_at world (number_of_task task)) task)
      → (deed : Deed world (command_of task)) → call < task_calls (clone_at world (number_of_task task)) task deed.steps
      → Follows world (Crash call leave task) Crashed (stepped_into running (number_of_task task) (states.Down tt))
  unfolding Step
  caught_follows choice call leave task armed deed comes =
      let number : ℕ = number_of_task task in
      let steps : List DurableStep = standing_front choice call deed.steps in
      let next : World = after_crash world number steps in
      let changes : Changes world next number = caught_changes choice call world task steps next armed deed refl refl in
      let inside : number < length world.clones = armed_inside world number task armed in
      let at : clone_at next number ≡ down_with (kept_after (kept_of (clone_at world number)) steps) =
      get_or-set_same world.clones number (down_with (kept_after (kept_of (clone_at world number)) steps)) Absent inside in
      record {
        next = next;
        steps = (choice, steps, is_caught armed deed comes refl refl refl);
        sound = caught_sound choice call world task steps next armed deed refl refl sound;
        stands = record {
          domain = stands.domain;
          properties = stands.properties;
          count = length-set running.clones number (states.Down tt) ∙ stands.count;
          clones = clones_follow running world stands sound next number (states.Down tt) changes
              (subst (λ (c : Clone). CloneStandsFor next number (states.Down tt) c) (sym at) (down_stands next number (kept_after (kept_of (clone_at world number)) steps)));
          messages = messages_grown running world stands sound next.history (changes.grows sound);
          ticks = ticks_grown running world stands sound next.history (changes.grows sound);
        };
      }

  -- the clone of the number goes down, once a command is done
  pub down_world_stands : (number : ℕ) → number < length world.clones
      → StandsFor (record running { clones = set running.clones number (states.Down tt) }) (with_clone_down world number)
  down_world_stands number inside =
      let next : World = with_clone_down world number in
      let changes : Changes world next number = turn_changes world next number (down_with (kept_of (clone_at world number))) refl in
      let at : clone_at next number ≡ down_with (kept_of (clone_at world number)) =
      get_or-set_same world.clones number (down_with (kept_of (clone_at world number))) Absent inside in
      record {
        domain = stands.domain;
        properties = stands.properties;
        count = length-set running.clones number (states.Down tt) ∙ stands.count;
        clones = clones_follow running world stands sound next number (states.Down tt) changes
            (subst (λ (c : Clone). CloneStandsFor next number (states.Down tt) c) (sym at) (down_stands next number (kept_of (clone_at world number))));
        messages = stands.messages;
        ticks = stands.ticks;
      }

-- no call was caught: the command was done, and then its clone went down
pub uncaught_follows : (world : World) (call : ℕ) (leave : Leave) (task : CrashTask) (after : RunningWorld) → IsSound world
    → (armed : IsArmed (clone_at world (number_of_task task)) task) → (deed : Deed world (command_of task)) → IsSound deed.after → StandsFor after deed.after
    → task_calls (clone_at world (number_of_task task)) task deed.steps ≤ call
    → Follows world (Crash call leave task) (ThenCrashed deed.reply) (record after { clones = set after.clones (number_of_task task) (states.Down tt) })
unfolding Step
uncaught_follows world call leave task after sound armed deed sound_then stands late =
    let number : ℕ = number_of_task task in
    let next : World = with_clone_down deed.after number in
    let inside : number < length deed.after.clones = inside_after world task next armed deed refl in
    record {
      next = next;
      steps = (true, deed.steps, isnt_caught armed deed late refl refl refl);
      sound = uncaught_sound world task next armed deed refl sound;
      stands = down_world_stands after deed.after stands sound_then number inside;
    }
