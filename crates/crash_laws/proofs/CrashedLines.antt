-- A crash line whose call was caught, and one whose clone crashed behind its command, lead to a world for which the sides of its device stand.
use Rattle.std.proofs.Common.{◌≡◌, ℕ, ◌+◌, ◌≤◌, ◌<◌, List, [], ◌∷◌, refl, sym, ◌∙◌, ap, arith, subst, length, get_or, set, false, Option}
use Rattle.std.proofs.lemmas.List.{get_or-set_same}
use Rattle.mld_io.specs.Arm.{Armed}
use Rattle.mld_io.specs.Disk.{Sides}
use Rattle.mld_io.specs.declared.banks.Leave.{Leave}
use Rattle.clone_core.specs.journal_sides.Pairs.{PairReading, read_banks}
use Rattle.mld_model.specs.declared.CloneState.TheVariants as states
use Rattle.mld_model.specs.Clone.{Clone, Absent, Empty, Down, Stored, kept_of}
use Rattle.mld_model.specs.CrashFronts.{durable_calls, standing_front, down_with, with_clone_down, after_crash}
use Rattle.mld_model.specs.Durable.{DurableStep, kept_after}
use Rattle.mld_model.specs.Reply.{Reply, Crashed, ThenCrashed}
use Rattle.mld_model.specs.Local.{LocalAsker, LocalClone}
use Rattle.mld_model.specs.StandsFor.{LiveAt, AskingAt, CloneStandsFor}
use Rattle.mld_model.specs.World.{World, clone_at}
use Rattle.mld_model.proofs.CrashedLaws.{down_keeps}
use Rattle.schedule_model.specs.declared.CrashTask.{CrashTask}
use Rattle.schedule_model.specs.declared.CrashTask.TheVariants as tasks
use Rattle.schedule_model.specs.Crashing.{IsArmed, opening_calls, task_calls, Deed, is_caught, isnt_caught}
use Rattle.schedule_model.specs.PlainStep.{PlainStep}
use Rattle.schedule_model.specs.Step.{IsTaskInForm}
use Rattle.schedule_model.specs.Tasks.{command_of, number_of_task, IsToOpen}
use Rattle.schedule_model.proofs.CrashedSteps.{armed_inside, inside_after}
use Rattle.schedule_model.proofs.ScheduleLaws.{task_has_plan}
use Rattle.clone_core.specs.clone_parts.KeptSteps.{KeptStep, calls_of_all, ReadsCaught}
use Rattle.crash_laws.specs.CarriedSteps.{owner_at, StandsRead, Carries, StandsAfter, StandsCaught}
use Rattle.crash_laws.specs.CrashLines.{ImageStands, CrashesTo}
use Rattle.crash_laws.specs.Deeds.{CarriedDeed, CarriesDone}
use Rattle.crash_laws.proofs.Fronts.{carried_calls, carried_caught}
use Rattle.crash_laws.proofs.OtherDeeds.{opened_deed, deed_was}

-- only an opening has calls before its durable steps
pub opens_nothing : (clone : Clone) (task : CrashTask) → ¬ IsToOpen task → opening_calls clone task ≡ 0
opens_nothing clone (tasks.Open number) none = absurd (none tt)
opens_nothing Empty (tasks.Add number triple) none = refl
opens_nothing (Down stored) (tasks.Add number triple) none = refl
opens_nothing clone (tasks.Add number triple) none = refl
opens_nothing Empty (tasks.Remove number triple) none = refl
opens_nothing (Down stored) (tasks.Remove number triple) none = refl
opens_nothing clone (tasks.Remove number triple) none = refl
opens_nothing Empty (tasks.Update number plan) none = refl
opens_nothing (Down stored) (tasks.Update number plan) none = refl
opens_nothing clone (tasks.Update number plan) none = refl
opens_nothing Empty (tasks.Deliver message number) none = refl
opens_nothing (Down stored) (tasks.Deliver message number) none = refl
opens_nothing clone (tasks.Deliver message number) none = refl
opens_nothing Empty (tasks.Compact number) none = refl
opens_nothing (Down stored) (tasks.Compact number) none = refl
opens_nothing clone (tasks.Compact number) none = refl
opens_nothing Empty (tasks.Truncate number keep) none = refl
opens_nothing (Down stored) (tasks.Truncate number keep) none = refl
opens_nothing clone (tasks.Truncate number keep) none = refl

-- an opening of a clone that is down syncs both sides, and its device is armed
pub opening_of : (world : World) (number : ℕ) (clone : Clone) → CloneStandsFor world number (states.Down tt) clone
    → (opening_calls clone (tasks.Open number) ≡ 2) × IsArmed clone (tasks.Open number)
opening_of world number Empty stands = (refl, tt)
opening_of world number (Down stored) stands = (refl, tt)
opening_of world number clone stands = absurd stands

-- the device of a clone that is live, or that asks, is armed
pub live_armed : (world : World) (number : ℕ) (old : LocalClone) (task : CrashTask) → LiveAt world number old → IsArmed (clone_at world number) task
live_armed world number old task at = subst (λ (c : Clone). IsArmed c task) (sym at.live) tt

pub asking_armed : (world : World) (number : ℕ) (asker : LocalAsker) (task : CrashTask) → AskingAt world number asker → IsArmed (clone_at world number) task
asking_armed world number asker task at = subst (λ (c : Clone). IsArmed c task) (sym at.asking) tt

-- sides that stand for what a clone keeps stand for it once that clone is down with it
pub down_stands : (after : World) (number : ℕ) (kept : Option Stored) (next : World) (image : Sides) → number < length after.clones
    → next.clones ≡ set after.clones number (down_with kept) → next.domain ≡ after.domain → next.properties ≡ after.properties
    → StandsRead (owner_at after number) next.history (read_banks image) kept → ImageStands next number image
down_stands after number kept next image inside clones domain properties stands =
    let keeps : kept_of (clone_at next number) ≡ kept =
    ap (λ (cs : List Clone). kept_of (get_or cs number Absent)) clones ∙ ap kept_of (get_or-set_same after.clones number (down_with kept) Absent inside) ∙ down_keeps kept in
    let owner : owner_at after number ≡ owner_at next number = λ i. record { id = (owner_at after number).id; domain = sym domain i; properties = sym properties i } in
    subst (λ o. StandsRead o next.history (read_banks image) (kept_of (clone_at next number))) owner
    (subst (λ (k : Option Stored). StandsRead (owner_at after number) next.history (read_banks image) k) (sym keeps) stands)

module _ (call : ℕ) (world : World) (task : CrashTask) (image : Sides) (armed : IsArmed (clone_at world (number_of_task task)) task) where
  -- a call of those that the changes make was caught: a front of the durable steps stands
  pub caught_crash : (reading : PairReading) (steps : List KeptStep) (leave : Leave) → CarriedDeed world (command_of task) (number_of_task task) reading steps
      → call < calls_of_all steps → ReadsCaught reading steps (Armed call leave) image → CrashesTo call world task Crashed image
  caught_crash reading steps leave carried caught reads =
      let number : ℕ = number_of_task task in
      let kept : Option Stored = kept_of (clone_at world number) in
      let durable : List DurableStep = carried.deed.steps in
      let stands : StandsCaught (owner_at world number) world.history kept call durable image =
      carried_caught (owner_at world number) world.history reading kept steps durable call leave image carried.carries caught reads in
      let front : List DurableStep = standing_front stands.choice call durable in
      let comes : call < task_calls (clone_at world number) task durable =
      omega (arith, caught, carried_calls (owner_at world number) world.history reading kept steps durable carried.carries) in
      record {
        choice = stands.choice;
        steps = front;
        next = after_crash world number front;
        crashes = is_caught armed carried.deed comes refl refl refl;
        stands = down_stands world number (kept_after kept front) (after_crash world number front) image (armed_inside world number task armed) refl refl refl stands.stands;
      }

  -- no call was caught: the command was done, and then its clone crashed
  pub done_crash : (reading : PairReading) (steps : List KeptStep) (reply : Reply) (after : World) → IsTaskInForm task
      → CarriedDeed world (command_of task) (number_of_task task) reading steps → PlainStep world (command_of task) reply after
      → opening_calls (clone_at world (number_of_task task)) task + calls_of_all steps ≤ call
      → ImageStands after (number_of_task task) image → CrashesTo call world task (ThenCrashed reply) image
  done_crash reading steps reply after form carried does late stands =
      let number : ℕ = number_of_task task in
      let kept : Option Stored = kept_of (clone_at world number) in
      let done : CarriesDone world (command_of task) number reading steps reply after =
      deed_was world (command_of task) number reading steps reply after (task_has_plan task form) carried does in
      let deed : Deed world (command_of task) = record { reply = reply; after = after; does = does; steps = done.durable; are = done.are } in
      let behind : task_calls (clone_at world number) task done.durable ≤ call =
      omega (arith, late, carried_calls (owner_at world number) world.history reading kept steps done.durable done.carries) in
      record {
        choice = false;
        steps = done.durable;
        next = with_clone_down after number;
        crashes = isnt_caught armed deed behind refl refl refl;
        stands = down_stands after number (kept_of (clone_at after number)) (with_clone_down after number) image
            (inside_after world task (with_clone_down after number) armed deed refl) refl refl refl stands;
      }

-- a call of an opening was caught: what was kept still is
pub caught_opening : (call : ℕ) (world : World) (number : ℕ) (image : Sides) (reading : PairReading) → IsArmed (clone_at world number) (tasks.Open number)
    → call < opening_calls (clone_at world number) (tasks.Open number)
    → StandsRead (owner_at world number) world.history reading (kept_of (clone_at world number)) → read_banks image ≡ reading
    → CrashesTo call world (tasks.Open number) Crashed image
caught_opening call world number image reading armed caught stands reads =
    let carried : CarriedDeed world (command_of (tasks.Open number)) number reading [] = opened_deed world number reading stands in
    let kept : Option Stored = kept_of (clone_at world number) in
    let none : calls_of_all [] ≡ durable_calls carried.deed.steps =
    carried_calls (owner_at world number) world.history reading kept [] carried.deed.steps carried.carries in
    let front : List DurableStep = standing_front false call carried.deed.steps in
    record {
      choice = false;
      steps = front;
      next = after_crash world number front;
      crashes = is_caught armed carried.deed (omega (arith, caught)) refl refl refl;
      stands = down_stands world number (kept_after kept front) (after_crash world number front) image (armed_inside world number (tasks.Open number) armed) refl refl refl
          (no_front world number reading kept carried.deed.steps call (sym reads) carried.carries);
    }
  where
    no_front : (world : World) (number : ℕ) (reading : PairReading) (kept : Option Stored) (durable : List DurableStep) (call : ℕ) → (reading ≡ read_banks image)
        → Carries (owner_at world number) world.history reading kept [] durable
        → StandsAfter (owner_at world number) world.history kept (standing_front false call durable) image
    no_front world number reading kept [] call same c = subst (λ (r : PairReading). StandsRead (owner_at world number) world.history r kept) same c
    no_front world number reading kept (step ∷ durable) call same c = absurd c
