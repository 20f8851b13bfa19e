-- A running world in which a clone crashed stands for a world to which the crash line leads, and so do the sides of that clone's device.
use Rattle.std.proofs.Common.{◌≡◌, ℕ, ◌+◌, ◌<◌, ◌≤◌, List, refl, sym, ◌∙◌, arith, subst, length, set, Bool, true, Option, Some, None}
use Rattle.std.proofs.lemmas.List.{get_or-set_same, length-set}
use Rattle.mld_io.specs.Disk.{Sides}
use Rattle.mld_io.specs.declared.banks.Leave.{Leave}
use Rattle.clone_core.specs.journal_sides.Pairs.{PairReading}
use Rattle.mld_model.specs.declared.CloneState.TheVariants as states
use Rattle.mld_model.specs.Clone.{Clone, Absent, Stored, kept_of}
use Rattle.mld_model.specs.CrashFronts.{standing_front, down_with, with_clone_down, after_crash}
use Rattle.mld_model.specs.Durable.{DurableStep, kept_after}
use Rattle.mld_model.specs.Reply.{Reply, Crashed, ThenCrashed}
use Rattle.mld_model.specs.Sound.{IsSound}
use Rattle.mld_model.specs.StandsFor.{RunningWorld, CloneStandsFor, StandsFor}
use Rattle.mld_model.specs.World.{World, clone_at}
use Rattle.schedule_model.specs.declared.Command.TheVariants.{Crash}
use Rattle.schedule_model.specs.declared.CrashTask.{CrashTask}
use Rattle.schedule_model.specs.Crashing.{IsArmed, opening_calls, task_calls, Deed, Crashes, isnt_armed, is_caught, isnt_caught}
use Rattle.schedule_model.specs.PlainStep.{PlainStep}
use Rattle.schedule_model.specs.Step.{IsTaskInForm, Step}
use Rattle.schedule_model.specs.Tasks.{command_of, number_of_task}
use Rattle.schedule_model.specs.WorldStep.{stepped_into}
use Rattle.schedule_model.proofs.CrashFollows.{down_world_stands}
use Rattle.schedule_model.proofs.CrashedSteps.{armed_inside, inside_after, caught_sound, caught_changes, uncaught_sound}
use Rattle.schedule_model.proofs.FollowsLaws.{ticks_grown, messages_grown, clones_follow}
use Rattle.schedule_model.proofs.PlainChanges.{Changes}
use Rattle.schedule_model.proofs.ScheduleLaws.{task_has_plan}
use Rattle.clone_core.specs.clone_parts.KeptSteps.{KeptStep, calls_of_all}
use Rattle.crash_laws.specs.CarriedSteps.{owner_at}
use Rattle.crash_laws.specs.CrashLines.{ImageStands, CrashesTo, FollowsCrash}
use Rattle.crash_laws.specs.Deeds.{CarriedDeed, CarriesDone}
use Rattle.crash_laws.proofs.CrashedLines.{down_stands}
use Rattle.crash_laws.proofs.Fronts.{carried_calls}
use Rattle.crash_laws.proofs.OtherDeeds.{deed_was}

-- a clone that is down stands for one that is, whatever that keeps
down_clone : (world : World) (number : ℕ) (kept : Option Stored) → CloneStandsFor world number (states.Down tt) (down_with kept)
down_clone world number None = tt
down_clone world number (Some stored) = tt

-- a crash line makes its step
pub crash_step : (choice : Bool) (call : ℕ) (leave : Leave) (world : World) (task : CrashTask) (steps : List DurableStep) (reply : Reply) (next : World)
    → Crashes choice call world task steps reply next → Step world (Crash call leave task) reply next
unfolding Step
crash_step choice call leave world task steps reply next crashes = (choice, steps, crashes)

module _ (running : RunningWorld) (world : World) (stands : StandsFor running world) (sound : IsSound world) where
  -- a running world whose clone is down stands for the world after a caught call
  down_follows : (choice : Bool) (call : ℕ) (task : CrashTask) (steps : List DurableStep) → (armed : IsArmed (clone_at world (number_of_task task)) task)
      → (deed : Deed world (command_of task)) → steps ≡ standing_front choice call deed.steps
      → StandsFor (stepped_into running (number_of_task task) (states.Down tt)) (after_crash world (number_of_task task) steps)
  down_follows choice call task steps armed deed front =
      let number : ℕ = number_of_task task in
      let kept : Option Stored = kept_after (kept_of (clone_at world number)) steps in
      let next : World = after_crash world number steps in
      let changes : Changes world next number = caught_changes choice call world task steps next armed deed front refl in
      record {
        domain = stands.domain;
        properties = stands.properties;
        count = length-set running.clones number (states.Down tt) ∙ stands.count;
        clones = clones_follow running world stands sound next number (states.Down tt) changes
            (subst (λ (c : Clone). CloneStandsFor next number (states.Down tt) c)
            (sym (get_or-set_same world.clones number (down_with kept) Absent (armed_inside world number task armed))) (down_clone next number kept));
        messages = messages_grown running world stands sound next.history (changes.grows sound);
        ticks = ticks_grown running world stands sound next.history (changes.grows sound);
      }

  -- so it does of a crash line of which a call was caught
  pub caught_followed : (call : ℕ) (leave : Leave) (task : CrashTask) (image : Sides) → IsArmed (clone_at world (number_of_task task)) task
      → CrashesTo call world task Crashed image → FollowsCrash call leave world task Crashed (stepped_into running (number_of_task task) (states.Down tt)) image
  caught_followed call leave task image armed to = by_crash to.choice to.steps to.next to.crashes to.stands
    where
      unreplied : (reply : Reply) → ¬ (Crashed ≡ ThenCrashed reply)
      unreplied reply is = cc

      by_crash : (choice : Bool) (steps : List DurableStep) (next : World) → Crashes choice call world task steps Crashed next → ImageStands next (number_of_task task) image
          → FollowsCrash call leave world task Crashed (stepped_into running (number_of_task task) (states.Down tt)) image
      by_crash choice steps next (isnt_armed unarmed does are) image_stands = absurd (unarmed armed)
      by_crash choice steps next (isnt_caught too deed late all told after) image_stands = absurd (unreplied deed.reply told)
      by_crash choice steps next (is_caught too deed comes front told after) image_stands = record {
        next = next;
        steps = crash_step choice call leave world task steps Crashed next (is_caught too deed comes front told after);
        sound = caught_sound choice call world task steps next too deed front after sound;
        memory = subst (λ (w : World). StandsFor (stepped_into running (number_of_task task) (states.Down tt)) w) (sym after) (down_follows choice call task steps too deed front);
        stands = image_stands;
      }

-- where no call was caught a running world that stood for the world after the command stands for that in which the clone is down
pub done_followed : (call : ℕ) (leave : Leave) (world : World) (task : CrashTask) (image : Sides) → IsSound world → IsArmed (clone_at world (number_of_task task)) task
    → (reading : PairReading) (steps : List KeptStep) (reply : Reply) (after : World) (running : RunningWorld) → IsTaskInForm task
    → CarriedDeed world (command_of task) (number_of_task task) reading steps → PlainStep world (command_of task) reply after
    → opening_calls (clone_at world (number_of_task task)) task + calls_of_all steps ≤ call → IsSound after → StandsFor running after
    → ImageStands after (number_of_task task) image
    → FollowsCrash call leave world task (ThenCrashed reply) (record running { clones = set running.clones (number_of_task task) (states.Down tt) }) image
done_followed call leave world task image sound armed reading steps reply after running form carried does late sound_then memory stands =
    let number : ℕ = number_of_task task in
    let kept : Option Stored = kept_of (clone_at world number) in
    let done : CarriesDone world (command_of task) number reading steps reply after =
    deed_was world (command_of task) number reading steps reply after (task_has_plan task form) carried does in
    let deed : Deed world (command_of task) = record { reply = reply; after = after; does = does; steps = done.durable; are = done.are } in
    let behind : task_calls (clone_at world number) task done.durable ≤ call =
    omega (arith, late, carried_calls (owner_at world number) world.history reading kept steps done.durable done.carries) in
    let next : World = with_clone_down after number in
    let inside : number < length after.clones = inside_after world task next armed deed refl in
    record {
      next = next;
      steps = crash_step true call leave world task done.durable (ThenCrashed reply) next (isnt_caught armed deed behind refl refl refl);
      sound = uncaught_sound world task next armed deed refl sound;
      memory = down_world_stands running after memory sound_then number inside;
      stands = down_stands after number (kept_of (clone_at after number)) next image inside refl refl refl stands;
    }
