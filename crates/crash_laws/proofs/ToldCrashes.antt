-- What a clone's call tells of its banks, where its arm caught one of its calls, is a crash line of the model.
use Rattle.std.proofs.Common.{◌≡◌, ℕ, ◌<◌, List, [], ◌∷◌, sym, ◌∙◌, ap, arith, subst, Option, Some}
use Rattle.mld_io.specs.Arm.{Arm, Armed, Caught, Meter, LowersAtMost, Metered}
use Rattle.mld_io.specs.Disk.{Call, Log, Sides, grown_by, seen, MayLeave, IsSettled, AtEachMoment}
use Rattle.mld_io.specs.declared.banks.Leave.{Leave}
use Rattle.mld_io.specs.declared.banks.Side.{Side}
use Rattle.clone_core.specs.journal_sides.Heads.{HeadValue}
use Rattle.clone_core.specs.journal_sides.Pairs.{PairReading, KeepsNone, Keeps, read_banks}
use Rattle.mld_model.specs.declared.CloneState.TheVariants as states
use Rattle.mld_model.specs.Reply.{Crashed}
use Rattle.mld_model.specs.StandsFor.{CloneStandsFor}
use Rattle.mld_model.specs.World.{World, clone_at}
use Rattle.schedule_model.specs.declared.CrashTask.{CrashTask}
use Rattle.schedule_model.specs.declared.CrashTask.TheVariants as tasks
use Rattle.schedule_model.specs.Crashing.{IsArmed}
use Rattle.schedule_model.specs.Tasks.{command_of, number_of_task}
use Rattle.clone_core.specs.clone_parts.KeptSteps.{KeptStep, Created, calls_of_all, ReadsCaught, LeavesSome}
use Rattle.clone_core.specs.Banked.{BankedClone, kept_as}
use Rattle.clone_core.specs.journal_store.Crashes.{LeavesNothingNew}
use Rattle.clone_core.specs.DurableCalls.{Changes, Creates}
use Rattle.clone_core.specs.Opening.{mount_calls}
use Rattle.crash_laws.specs.CarriedSteps.{IsUpTo}
use Rattle.crash_laws.specs.CrashLines.{ImageStands, CrashesTo, CrashesUpTo}
use Rattle.crash_laws.specs.Deeds.{CarriedDeed}
use Rattle.crash_laws.proofs.CrashedLines.{opening_of, caught_crash, caught_opening}
use Rattle.crash_laws.proofs.Generations.{image_up_to}

module _ (call : ℕ) (leave : Leave) (world : World) (task : CrashTask) (armed : IsArmed (clone_at world (number_of_task task)) task) (image : Sides) where
  -- changes that carry the deed, of which the arm caught a call
  some_crash : (old : Log) (now : Option Log) (l : Log) (limit : ℕ) (reading : PairReading) (steps : List KeptStep) (was is : Arm) → was ≡ Armed call leave → is ≡ Caught → now ≡ Some l
      → MayLeave l image → LowersAtMost (calls_of_all steps) was is → LeavesSome old now reading steps was is → IsUpTo limit reading
      → CarriedDeed world (command_of task) (number_of_task task) reading steps → CrashesUpTo call world task limit image
  some_crash old now l limit reading steps was is was_is is_caught told left lowered leaves up carried =
      let reads : ReadsCaught reading steps (Armed call leave) image =
      subst (λ (arm : Arm). ReadsCaught reading steps arm image) was_is (leaves.caught is_caught l told image left) in
      let caught : call < calls_of_all steps =
      subst (λ (arm : Arm). LowersAtMost (calls_of_all steps) (Armed call leave) arm) is_caught
      (subst (λ (arm : Arm). LowersAtMost (calls_of_all steps) arm is) was_is lowered) in
      record {
        crash = caught_crash call world task image armed reading steps leave carried caught reads;
        generation = image_up_to limit steps reading (Armed call leave) image carried.once up reads.some;
      }

  module _ {B : Type 0} (log : B → Option Log) (meter : B → Meter) where
    -- of a live clone
    pub changes_crash : (was : BankedClone B) (now : B) (old l : Log) (Whole Failed : Type 0) (steps : List KeptStep)
        → log was.banks ≡ Some old → (meter was.banks).arm ≡ Armed call leave → log now ≡ Some l → (meter now).arm ≡ Caught → MayLeave l image
        → Changes log meter steps was now Whole Failed
        → ((side : Side) → CarriedDeed world (command_of task) (number_of_task task) (Keeps (kept_as side was.generation was.local)) steps)
        → CrashesUpTo call world task was.generation image
    changes_crash was now old l Whole Failed [] told_was arm told caught left changes carried =
        absurd (unarmed (sym arm ∙ ap (λ (b : B). (meter b).arm) (sym changes.moments) ∙ caught))
      where
        unarmed : ¬ (Armed call leave ≡ Caught)
        unarmed is = cc
    changes_crash was now old l Whole Failed (step ∷ steps) told_was arm told caught left changes carried =
        let moments = changes.moments old told_was in
        some_crash old (log now) l was.generation (Keeps (kept_as moments.0 was.generation was.local)) (step ∷ steps) (meter was.banks).arm (meter now).arm arm caught told left
        changes.metered.lowered moments.1 (omega arith) (carried moments.0)

    -- of one who asks
    pub creates_crash : (head : HeadValue) (was now : B) (old l : Log) (Whole Failed : Type 0)
        → log was ≡ Some old → (meter was).arm ≡ Armed call leave → log now ≡ Some l → (meter now).arm ≡ Caught → MayLeave l image
        → Creates log meter head was now Whole Failed → CarriedDeed world (command_of task) (number_of_task task) KeepsNone (Created head ∷ [])
        → CrashesUpTo call world task 0 image
    creates_crash head was now old l Whole Failed told_was arm told caught left creates carried =
        some_crash old (log now) l 0 KeepsNone (Created head ∷ []) (meter was).arm (meter now).arm arm caught told left
        creates.metered.lowered (creates.moments old told_was) tt carried

-- ---- openings

-- behind calls that leave no more than at first a crash leaves what it might have left then
last_left : (old : Log) (added : List Call) (image : Sides) → AtEachMoment old added (λ calls one. MayLeave old one) → MayLeave (grown_by added old) image → MayLeave old image
last_left old [] image each left = left
last_left old (call ∷ added) image each left = each.1 image left

now_left : (old l : Log) (now : Option Log) (image : Sides) → LeavesNothingNew old now → now ≡ Some l → MayLeave l image → MayLeave old image
now_left old l now image leaves is left =
    let same : grown_by leaves.added old ≡ l = one (grown_by leaves.added old) l (sym leaves.now_is ∙ is) in
    last_left old leaves.added image leaves.each (subst (λ (log : Log). MayLeave log image) (sym same) left)
  where
    one : (first second : Log) → Some first ≡ Some second → first ≡ second
    one first second same = cc

-- an opening of which the arm caught a call, on banks that a crash leaves as they are and that stand for what the clone keeps
pub mounts_crash : {B : Type 0} (log : B → Option Log) (meter : B → Meter) (call : ℕ) (leave : Leave) (world : World) (number : ℕ) (image : Sides) (was now : B) (old l : Log)
    (Whole Failed : Type 0) → CloneStandsFor world number (states.Down tt) (clone_at world number)
    → (meter was).arm ≡ Armed call leave → log now ≡ Some l → (meter now).arm ≡ Caught → MayLeave l image
    → Metered mount_calls (meter was) (meter now) Whole Failed → LeavesNothingNew old (log now) → IsSettled old → ImageStands world number (seen old)
    → CrashesTo call world (tasks.Open number) Crashed image
mounts_crash log meter call leave world number image was now old l Whole Failed down arm told caught left metered leaves settled stands =
    let opening = opening_of world number (clone_at world number) down in
    let same : image ≡ seen old = settled image (now_left old l (log now) image leaves told left) in
    let reads : read_banks image ≡ read_banks (seen old) = ap read_banks same in
    let early : call < 2 =
    subst (λ (it : Arm). LowersAtMost mount_calls (Armed call leave) it) caught
    (subst (λ (it : Arm). LowersAtMost mount_calls it (meter now).arm) arm metered.lowered) in
    caught_opening call world number image (read_banks (seen old)) opening.1 (omega (arith, early, opening.0)) stands reads
