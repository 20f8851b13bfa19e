-- What the clone of a crash line did on its banks, whose device was armed: by what its command left of them.
use Rattle.std.proofs.Common.{◌≡◌, ℕ, ◌+◌, ◌<◌, ◌≤◌, List, [], ◌∷◌, Option, None, Some, refl, sym, ◌∙◌, ap, arith, subst, map}
use Rattle.std.specs.Prelude.{IsSome}
use Rattle.mld_io.specs.Arm.{Arm, Armed, Caught, Meter, LowersAtMost, LowersBy}
use Rattle.mld_io.specs.Disk.{Log, Sides, grown_by, seen, MayLeave}
use Rattle.mld_io.proofs.DiskLaws.{AtEachMoment-last}
use Rattle.mld_io.specs.declared.banks.Leave.{Leave}
use Rattle.mld_io.specs.declared.banks.Side.TheVariants as sides
use Rattle.clone_core.specs.journal_sides.Pairs.{PairReading, KeepsNone, Keeps, read_banks}
use Rattle.clone_core.specs.journal_store.Crashes.{LeavesNothingNew}
use Rattle.mld_ops.specs.Messages.{message_value}
use Rattle.mld_ops.specs.declared.messages.Message.{Message}
use Rattle.mld_model.specs.Clone.{Clone}
use Rattle.mld_model.specs.Clone as model
use Rattle.mld_model.specs.Local.{joined_clone}
use Rattle.mld_model.specs.Reply.{Crashed}
use Rattle.mld_model.specs.Sound.{IsSound}
use Rattle.mld_model.specs.StandsFor.{CloneStandsFor, LiveAt, AskingAt}
use Rattle.mld_model.specs.World.{World, clone_at}
use Rattle.mld_model.specs.declared.CloneState.TheVariants as states
use Rattle.mld_model.proofs.StandsForLaws.{live_at, asking_at}
use Rattle.schedule_text.specs.schedule_model.Crashing.{IsArmed, IsUp, opening_calls}
use Rattle.schedule_text.specs.schedule_model.Tasks.{command_of, number_of_task, IsToOpen}
use Rattle.schedule_text.specs.schedule_model.declared.CrashTask.{CrashTask}
use Rattle.schedule_text.specs.schedule_model.declared.CrashTask.TheVariants as tasks
use Rattle.clone_core.specs.clone_parts.KeptSteps.{KeptStep, Created, calls_of_all, ReadsCaught, LeavesSome}
use Rattle.clone_core.specs.Banked.{head_of, kept_as}
use Rattle.clone_core.specs.Opening.{mount_calls}
use Rattle.world_commands.specs.crash_laws.CarriedSteps.{owner_at, StandsRead, IsUpTo}
use Rattle.world_commands.specs.crash_laws.CrashLines.{CrashesTo}
use Rattle.world_commands.specs.crash_laws.Deeds.{CarriedDeed}
use Rattle.world_commands.proofs.of_crash_laws.CrashedLines.{opens_nothing, opening_of, caught_crash, caught_opening}
use Rattle.world_commands.proofs.of_crash_laws.Generations.{image_up_to}
use Rattle.world_commands.proofs.of_crash_laws.OtherDeeds.{opened_deed}
use Rattle.world_commands.specs.declared.faults.WorldFault.{WorldFault}
use Rattle.world_commands.specs.LeftBanks.{WorkOnBanks, LeavesState, leaves_same, leaves_live, leaves_made, leaves_opened}
use Rattle.world_commands.specs.States.{HasState}
use Rattle.world_commands.specs.WorldBanks.{BankedState, BankedWorld, in_memory, banks_of_state, memory_of, IsDownOn, StandsOnBanks, HadNoFault}
use Rattle.world_commands.proofs.BankLemmas.{memory_at}
use Rattle.world_commands.proofs.LeftLemmas.{idle_done}
use Rattle.world_commands.proofs.StopLemmas.{told_log}
use Rattle.net_world.specs.CrashedWorlds.{IsArmedIn, doing_task}
use Rattle.net_world.proofs.CutLemmas.{up_more, ImageDown, down_image, seen_stands}
use Rattle.net_world.proofs.DeedLemmas.{changes_deed, idle_deed, takes_deed, waits_deed}

-- ---- arms

-- a clone is armed where the model's is
pub armed_in : {B : Type 0} (world : World) (number : ℕ) (state : BankedState B) (clone : Clone) (task : CrashTask) → CloneStandsFor world number (in_memory state) clone
    → (IsArmedIn state task → IsArmed clone task) × (IsArmed clone task → IsArmedIn state task)
armed_in world number (states.Absent banks) model.Absent task stands = (λ h. h, λ h. h)
armed_in world number (states.Asking asking) model.Asking task stands = (λ h. h, λ h. h)
armed_in world number (states.Down banks) model.Empty task stands = (λ h. h, λ h. h)
armed_in world number (states.Down banks) (model.Down stored) task stands = (λ h. h, λ h. h)
armed_in world number (states.Live live) (model.Live stored held) task stands = (λ h. h, λ h. h)
armed_in world number state clone task stands = absurd stands

-- a clone that is live or asks has no calls of an opening
up_opens_nothing : (clone : Clone) (task : CrashTask) → IsUp clone → opening_calls clone task ≡ 0
up_opens_nothing model.Asking (tasks.Open number) up = refl
up_opens_nothing (model.Live stored held) (tasks.Open number) up = refl
up_opens_nothing model.Absent (tasks.Open number) up = absurd up
up_opens_nothing model.Empty (tasks.Open number) up = absurd up
up_opens_nothing (model.Down stored) (tasks.Open number) up = absurd up
up_opens_nothing clone (tasks.Add number triple) up = opens_nothing clone (tasks.Add number triple) (λ h. h)
up_opens_nothing clone (tasks.Remove number triple) up = opens_nothing clone (tasks.Remove number triple) (λ h. h)
up_opens_nothing clone (tasks.Update number plan) up = opens_nothing clone (tasks.Update number plan) (λ h. h)
up_opens_nothing clone (tasks.Deliver message number) up = opens_nothing clone (tasks.Deliver message number) (λ h. h)
up_opens_nothing clone (tasks.Compact number) up = opens_nothing clone (tasks.Compact number) (λ h. h)
up_opens_nothing clone (tasks.Truncate number keep) up = opens_nothing clone (tasks.Truncate number keep) (λ h. h)

uncaught : (number : ℕ) (leave : Leave) → ¬ (Armed number leave ≡ Caught)
uncaught number leave is = cc

-- ---- a crash behind calls that leave no more than before

pub now_left : (old l : Log) (now : Option Log) (image : Sides) → LeavesNothingNew old now → now ≡ Some l → MayLeave l image → MayLeave old image
now_left old l now image leaves is left =
    let same : grown_by leaves.added old ≡ l = one (grown_by leaves.added old) l (sym leaves.now_is ∙ is) in
    AtEachMoment-last old leaves.added (λ calls one. MayLeave old one) leaves.each image (subst (λ (log : Log). MayLeave log image) (sym same) left)
  where
    one : (first second : Log) → Some first ≡ Some second → first ≡ second
    one first second same = cc

-- ---- what was done

-- changes of the banks are the deed of the command, and all their calls came before this one
pub record Did (call : ℕ) (world : World) (task : CrashTask) : Type 0 where
  pub reading : PairReading
  pub steps : List KeptStep
  pub carried : CarriedDeed world (command_of task) (number_of_task task) reading steps
  pub late : opening_calls (clone_at world (number_of_task task)) task + calls_of_all steps ≤ call

-- a call was caught, and what a crash then leaves is the end of a crash line
pub record WasCaught (call : ℕ) (world : World) (task : CrashTask) (limit : ℕ) (image : Sides) : Type 0 where
  pub to : CrashesTo call world task Crashed image
  pub up : IsUpTo limit (read_banks image)

module _ {B : Type 0} (log : B → Option Log) (meter : B → Meter) (tells : (banks : B) → IsSome (log banks)) (call : ℕ) (leave : Leave) (task : CrashTask)
    (running : BankedWorld B) (world : World) (stands : StandsOnBanks log running world) (sound : IsSound world)
    (messages : List Message) (are : running.messages ≡ map message_value messages) where
  live_here : (live : _) → HasState running.clones (number_of_task task) (states.Live live) → LiveAt world (number_of_task task) live.local
  live_here live at = live_at (memory_of running) world stands.memory (number_of_task task) live.local (memory_at running.clones (number_of_task task) (states.Live live) at)

  asking_here : (asking : _) → HasState running.clones (number_of_task task) (states.Asking asking) → AskingAt world (number_of_task task) asking.asker
  asking_here asking at = asking_at (memory_of running) world stands.memory (number_of_task task) asking.asker (memory_at running.clones (number_of_task task) (states.Asking asking) at)

  live_opens : (live : _) → HasState running.clones (number_of_task task) (states.Live live) → opening_calls (clone_at world (number_of_task task)) task ≡ 0
  live_opens live at = up_opens_nothing (clone_at world (number_of_task task)) task (subst (λ (c : Clone). IsUp c) (sym (live_here live at).live) tt)

  asking_opens : (asking : _) → HasState running.clones (number_of_task task) (states.Asking asking) → opening_calls (clone_at world (number_of_task task)) task ≡ 0
  asking_opens asking at = up_opens_nothing (clone_at world (number_of_task task)) task (subst (λ (c : Clone). IsUp c) (sym (asking_here asking at).asking) tt)

  -- no clone that is told to open and is down has nothing to do
  down_idles : (one : CrashTask) → IsToOpen one → ¬ (doing_task messages one).idles (states.Down tt)
  down_idles (tasks.Open number) opening idle = idle
  down_idles (tasks.Add number triple) opening idle = opening
  down_idles (tasks.Remove number triple) opening idle = opening
  down_idles (tasks.Update number plan) opening idle = opening
  down_idles (tasks.Deliver message number) opening idle = opening
  down_idles (tasks.Compact number) opening idle = opening
  down_idles (tasks.Truncate number keep) opening idle = opening

  done_calls : (calls : ℕ) (was now : Arm) → was ≡ Armed call leave → LowersBy calls was now → calls ≤ call
  done_calls calls was now is lowers = (subst (λ (a : Arm). LowersBy calls a now) is lowers).0

  caught_calls : (calls : ℕ) (was now : Arm) → was ≡ Armed call leave → now ≡ Caught → LowersAtMost calls was now → call < calls
  caught_calls calls was now is caught lowers =
      subst (λ (a : Arm). LowersAtMost calls (Armed call leave) a) caught (subst (λ (a : Arm). LowersAtMost calls a now) is lowers)

  -- what the banks of a clone that is down may be left with
  down_left : (banks : B) → HasState running.clones (number_of_task task) (states.Down banks) → (l : Log) → log banks ≡ Some l → (image : Sides) → MayLeave l image
      → ImageDown world running.steps (number_of_task task) image
  down_left banks at l is image left =
      let backed : IsDownOn world running.steps (number_of_task task) (log banks) = stands.backed (number_of_task task) (states.Down banks) at in
      down_image world running.steps (number_of_task task) (log banks) l is image left backed

  down_here : (banks : B) → HasState running.clones (number_of_task task) (states.Down banks)
      → CloneStandsFor world (number_of_task task) (states.Down tt) (clone_at world (number_of_task task))
  down_here banks at = stands.memory.clones (number_of_task task) (states.Down tt) (memory_at running.clones (number_of_task task) (states.Down banks) at)

  -- and what they read to
  down_seen : (banks : B) → HasState running.clones (number_of_task task) (states.Down banks) → (l : Log) → log banks ≡ Some l
      → StandsRead (owner_at world (number_of_task task)) world.history (read_banks (seen l)) (model.kept_of (clone_at world (number_of_task task)))
  down_seen banks at l is =
      let backed : IsDownOn world running.steps (number_of_task task) (log banks) = stands.backed (number_of_task task) (states.Down banks) at in
      seen_stands world running.steps (number_of_task task) (log banks) l is backed

  opened_did : (one : CrashTask) → IsToOpen one → (reading : PairReading) → CloneStandsFor world (number_of_task one) (states.Down tt) (clone_at world (number_of_task one))
      → StandsRead (owner_at world (number_of_task one)) world.history reading (model.kept_of (clone_at world (number_of_task one))) → 2 ≤ call → Did call world one
  opened_did (tasks.Open number) opening reading down keeps late = record {
    reading = reading;
    steps = [];
    carried = opened_deed world number reading keeps;
    late = omega (arith, late, (opening_of world number (clone_at world number) down).0);
  }
  opened_did (tasks.Add number triple) opening reading down keeps late = absurd opening
  opened_did (tasks.Remove number triple) opening reading down keeps late = absurd opening
  opened_did (tasks.Update number plan) opening reading down keeps late = absurd opening
  opened_did (tasks.Deliver message number) opening reading down keeps late = absurd opening
  opened_did (tasks.Compact number) opening reading down keeps late = absurd opening
  opened_did (tasks.Truncate number keep) opening reading down keeps late = absurd opening

  opened_caught : (one : CrashTask) → IsToOpen one → (image : Sides) → CloneStandsFor world (number_of_task one) (states.Down tt) (clone_at world (number_of_task one))
      → StandsRead (owner_at world (number_of_task one)) world.history (read_banks image) (model.kept_of (clone_at world (number_of_task one))) → call < 2
      → CrashesTo call world one Crashed image
  opened_caught (tasks.Open number) opening image down keeps early =
      let o = opening_of world number (clone_at world number) down in
      caught_opening call world number image (read_banks image) o.1 (omega (arith, early, o.0)) keeps refl
  opened_caught (tasks.Add number triple) opening image down keeps early = absurd opening
  opened_caught (tasks.Remove number triple) opening image down keeps early = absurd opening
  opened_caught (tasks.Update number plan) opening image down keeps early = absurd opening
  opened_caught (tasks.Deliver message number) opening image down keeps early = absurd opening
  opened_caught (tasks.Compact number) opening image down keeps early = absurd opening
  opened_caught (tasks.Truncate number keep) opening image down keeps early = absurd opening

  -- all was done
  pub did_by : (was now : BankedState B) (ended : Option WorldFault) → ended ≡ None → HasState running.clones (number_of_task task) was → IsArmedIn was task
      → (meter (banks_of_state was)).arm ≡ Armed call leave → LeavesState log meter (doing_task messages task) ended was now → Did call world task
  did_by (states.Absent banks) now ended whole at armed arm (leaves_same same uncalled) = absurd armed
  did_by (states.Live old) now ended whole at armed arm (leaves_same same uncalled) = record {
    reading = Keeps (kept_as sides.A old.generation old.local);
    steps = [];
    carried = idle_deed (memory_of running) world stands.memory sound messages are task old.local sides.A old.generation (live_here old at)
        (idle_done (doing_task messages task) (states.Live old.local) ended whole uncalled);
    late = omega (arith, live_opens old at);
  }
  did_by (states.Asking old) now ended whole at armed arm (leaves_same same uncalled) = record {
    reading = KeepsNone;
    steps = [];
    carried = waits_deed (memory_of running) world stands.memory sound messages are task old.asker (asking_here old at)
        (idle_done (doing_task messages task) (states.Asking old.asker) ended whole uncalled);
    late = omega (arith, asking_opens old at);
  }
  did_by (states.Down old) now ended whole at armed arm (leaves_same same uncalled) = absurd (down_idles task armed (idle_done (doing_task messages task) (states.Down tt) ended whole uncalled))
  did_by (states.Live old) (states.Live new) ended whole at armed arm (leaves_live steps some made went fronts) = record {
    reading = Keeps (kept_as sides.A old.generation old.local);
    steps = steps;
    carried = changes_deed (memory_of running) world stands.memory sound messages are task old.local steps sides.A old.generation (live_here old at) made;
    late = omega (arith, live_opens old at, done_calls (calls_of_all steps) (meter old.banks).arm (meter new.banks).arm arm (went.whole whole));
  }
  did_by (states.Asking old) now ended whole at armed arm (leaves_made leaf takes went left) =
      let steps : List KeptStep = Created (head_of (joined_clone old.asker leaf)) ∷ [] in
      record {
        reading = KeepsNone;
        steps = steps;
        carried = takes_deed (memory_of running) world stands.memory sound messages are task old.asker leaf (asking_here old at) takes;
        late = omega (arith, asking_opens old at, done_calls (calls_of_all steps) (meter old.banks).arm (meter (banks_of_state now)).arm arm (went.whole whole));
      }
  did_by (states.Down old) now ended whole at armed arm (leaves_opened may went left) =
      let l = told_log (log old) (tells old) in
      opened_did task armed (read_banks (seen l.0)) (down_here old at)
      (down_seen old at l.0 l.1)
      (done_calls mount_calls (meter old).arm (meter (banks_of_state now)).arm arm (went.whole whole))

  -- ---- a call was caught

  some_caught : (old : Log) (now : Option Log) (l : Log) (limit : ℕ) (reading : PairReading) (steps : List KeptStep) (was is : Arm) → IsArmed (clone_at world (number_of_task task)) task
      → was ≡ Armed call leave → is ≡ Caught → now ≡ Some l → (image : Sides) → MayLeave l image → LowersAtMost (calls_of_all steps) was is → LeavesSome old now reading steps was is
      → IsUpTo limit reading → CarriedDeed world (command_of task) (number_of_task task) reading steps → WasCaught call world task (limit + 1) image
  some_caught old now l limit reading steps was is armed was_is is_caught told image left lowered leaves up carried =
      let reads : ReadsCaught reading steps (Armed call leave) image =
      subst (λ (arm : Arm). ReadsCaught reading steps arm image) was_is (leaves.caught is_caught l told image left) in
      record {
        to = caught_crash call world task image armed reading steps leave carried (caught_calls (calls_of_all steps) was is was_is is_caught lowered) reads;
        up = image_up_to limit steps reading (Armed call leave) image carried.once up reads.some;
      }

  more : (limit : ℕ) (image : Sides) → limit ≤ running.steps + 1 + 1 → WasCaught call world task limit image → WasCaught call world task (running.steps + 1 + 1) image
  more limit image low was = record { to = was.to; up = up_more limit (running.steps + 1 + 1) (read_banks image) low was.up }

  pub caught_by : (was now : BankedState B) (ended : Option WorldFault) → HasState running.clones (number_of_task task) was → IsArmedIn was task
      → IsArmed (clone_at world (number_of_task task)) task → (meter (banks_of_state was)).arm ≡ Armed call leave → (meter (banks_of_state now)).arm ≡ Caught
      → (l : Log) → log (banks_of_state now) ≡ Some l → (image : Sides) → MayLeave l image
      → LeavesState log meter (doing_task messages task) ended was now → WasCaught call world task (running.steps + 1 + 1) image
  caught_by was now ended at armed known arm caught l is image left (leaves_same same uncalled) =
      absurd (uncaught call leave (sym arm ∙ ap (λ (b : B). (meter b).arm) (sym same) ∙ caught))
  caught_by (states.Live old) (states.Live new) ended at armed known arm caught l is image left (leaves_live [] some made went fronts) =
      absurd (uncaught call leave (sym arm ∙ ap (λ (b : B). (meter b).arm) (sym fronts) ∙ caught))
  caught_by (states.Live old) (states.Live new) ended at armed known arm caught l is image left (leaves_live (step ∷ steps) some made went fronts) =
      let before = told_log (log old.banks) (tells old.banks) in
      let moments = fronts before.0 before.1 in
      let backed = stands.backed (number_of_task task) (states.Live old) at in
      more (old.generation + 1) image (omega (arith, backed.reached))
      (some_caught before.0 (log new.banks) l old.generation (Keeps (kept_as moments.0 old.generation old.local)) (step ∷ steps) (meter old.banks).arm (meter new.banks).arm known
      arm caught is image left went.most moments.1 (omega arith)
      (changes_deed (memory_of running) world stands.memory sound messages are task old.local (step ∷ steps) moments.0 old.generation (live_here old at) made))
  caught_by (states.Asking old) now ended at armed known arm caught l is image left (leaves_made leaf takes went made) =
      let before = told_log (log old.banks) (tells old.banks) in
      more 1 image (omega arith)
      (some_caught before.0 (log (banks_of_state now)) l 0 KeepsNone (Created (head_of (joined_clone old.asker leaf)) ∷ []) (meter old.banks).arm (meter (banks_of_state now)).arm known
      arm caught is image left went.most (made before.0 before.1) tt
      (takes_deed (memory_of running) world stands.memory sound messages are task old.asker leaf (asking_here old at) takes))
  caught_by (states.Down old) now ended at armed known arm caught l is image left (leaves_opened may went more_left) =
      let before = told_log (log old) (tells old) in
      let found : ImageDown world running.steps (number_of_task task) image =
      down_left old at before.0 before.1 image (now_left before.0 l (log (banks_of_state now)) image (more_left before.0 before.1) is left) in
      record {
        to = opened_caught task armed image (down_here old at) found.stands (caught_calls mount_calls (meter old).arm (meter (banks_of_state now)).arm arm caught went.most);
        up = up_more (running.steps + 1) (running.steps + 1 + 1) (read_banks image) (omega arith) found.up;
      }

-- a call that was caught isn't a fault of the device's own
pub caught_quiet : {B : Type 0} (log : B → Option Log) (meter : B → Meter) (doing : WorkOnBanks) (call : ℕ) (leave : Leave) (was now : BankedState B) (ended : Option WorldFault)
    → (meter (banks_of_state was)).arm ≡ Armed call leave → (meter (banks_of_state now)).arm ≡ Caught → LeavesState log meter doing ended was now
    → HadNoFault (meter (banks_of_state was)) (meter (banks_of_state now))
caught_quiet {B = B} log meter doing call leave was now ended arm caught (leaves_same same uncalled) =
    absurd (uncaught call leave (sym arm ∙ ap (λ (b : B). (meter b).arm) (sym same) ∙ caught))
caught_quiet log meter doing call leave (states.Live old) (states.Live new) ended arm caught (leaves_live steps some made went fronts) = went.caught caught
caught_quiet log meter doing call leave (states.Asking old) now ended arm caught (leaves_made leaf takes went made) = went.caught caught
caught_quiet log meter doing call leave (states.Down old) now ended arm caught (leaves_opened may went left) = went.caught caught
