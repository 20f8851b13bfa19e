-- A crash line on a running world is the model's step.
use Rattle.std.proofs.Common.{◌≡◌, ℕ, zero, suc, ◌+◌, ◌<◌, List, [], ◌∷◌, Option, Some, Result, Ok, Err, IfOk, None, inl, inr, refl, sym, ◌∙◌, ap, arith, subst, length, map, set, true}
use Rattle.std.specs.Prelude.{slice_get, IsSome}
use Rattle.std.specs.Result.{result_err}
use Rattle.std.proofs.lemmas.Bool.{cases_eq}
use Rattle.std.proofs.lemmas.List.{length-set}
use Rattle.std.proofs.lemmas.Option.{slice_get_within}
use Rattle.mld_io.specs.Arm.{Arm, Unarmed, Armed, Caught, Meter, arm_after, armed, revived}
use Rattle.mld_io.specs.Disk.{Log, seen}
use Rattle.mld_io.specs.Faults.{counted}
use Rattle.mld_io.specs.declared.banks.Leave.{Leave}
use Rattle.mld_ops.specs.Messages.{message_value}
use Rattle.mld_model.specs.Reply as model
use Rattle.mld_model.specs.Sound.{IsSound}
use Rattle.mld_model.specs.StandsFor.{RunningClone, RunningWorld, StandsFor}
use Rattle.mld_model.specs.World.{World, clone_at}
use Rattle.mld_model.specs.declared.CloneState.TheVariants as states
use Rattle.schedule_text.specs.schedule_model.Crashing.{IsArmed, Deed, isnt_armed}
use Rattle.schedule_text.specs.schedule_model.Step.{IsTaskInForm}
use Rattle.schedule_text.specs.schedule_model.Tasks.{command_of, number_of_task}
use Rattle.schedule_text.specs.schedule_model.WorldStep.{stepped_into}
use Rattle.schedule_text.specs.schedule_model.declared.Command.TheVariants.{Crash}
use Rattle.schedule_text.specs.schedule_model.declared.CrashTask.{CrashTask}
use Rattle.schedule_text.proofs.of_schedule_model.CrashFollows.{plain_step, deed_of}
use Rattle.world_commands.specs.schedule_replies.declared.replies.Reply.{Reply}
use Rattle.world_commands.specs.schedule_replies.Replies.{reply_value}
use Rattle.clone_core.specs.journal_sides.Pairs.{read_banks}
use Rattle.world_commands.specs.crash_laws.CarriedSteps.{IsUpTo}
use Rattle.world_commands.specs.crash_laws.CrashLines.{FollowsCrash}
use Rattle.world_commands.proofs.of_crash_laws.FollowedLines.{crash_step, caught_followed, done_followed}
use Rattle.world_commands.proofs.of_crash_laws.Images.{IsRevived, revived_reads}
use Rattle.world_commands.specs.declared.faults.WorldFault.{WorldFault}
use Rattle.world_commands.specs.declared.faults.WorldFault.TheVariants as faults
use Rattle.world_commands.specs.declared.parts.Parts.{Parts}
use Rattle.world_commands.specs.LeftBanks.{LeavesState, LeavesAt, IsSilent}
use Rattle.world_commands.specs.OneCall.{HasFaultsAt}
use Rattle.world_commands.specs.States.{HasState, Becomes}
use Rattle.world_commands.specs.WorldBanks.{BankedState, BankedWorld, in_memory, banks_of_state, memory_of, IsDownOn, IsBacked, StandsOnBanks, MeterGoesOn, HadNoFault, HadFault, HadNoFaults, HasFailed, HasFaultsFor, OthersStay}
use Rattle.world_commands.specs.WorldParts.{running_of, HasStepLeft, KeepsDomain, HasFaultsOfParts, Does}
use Rattle.world_commands.specs.Worlds.{FollowsOnBanks}
use Rattle.world_commands.proofs.BankLemmas.{memory_at, memory_set, memory_becomes, banks_at, other_backed, faults_set}
use Rattle.world_commands.proofs.Places.{here_at, other_at, elsewhere_at, set_here, set_again}
use Rattle.world_commands.proofs.StopLemmas.{told_log}
use Rattle.world_commands.proofs.WorldLemmas.{keeps_set}
use Rattle.net_world.specs.CrashedWorlds.{AreUnarmed, IsArmedIn, with_banks, ArmsAt, CutsPower, doing_task, IsEndedAs, IsUnarmedAs, CrashesAs}
use Rattle.net_world.specs.declared.crash.Crashed.{Crashed}
use Rattle.net_world.specs.declared.crash.Crashed.TheVariants as crashed
use Rattle.net_world.proofs.CutLemmas.{ImageDown, down_image, image_down, stopped_down}
use Rattle.net_world.proofs.CaughtLemmas.{armed_in, Did, WasCaught, did_by, caught_by, caught_quiet}

-- ---- lists where one element changed, and then it alone

all_same : {X : Type 0} (first second : List X) → length second ≡ length first → ((place : ℕ) → slice_get second place ≡ slice_get first place) → second ≡ first
all_same [] [] count each = refl
all_same [] (two ∷ second) count each = absurd (omega (arith, count))
all_same (one ∷ first) [] count each = absurd (omega (arith, count))
all_same {X = X} (one ∷ first) (two ∷ second) count each =
    let head : two ≡ one = cc (each 0) in
    let rest : second ≡ first = all_same first second (omega (arith, count)) (λ place. each (suc place)) in
    λ i. head i ∷ rest i

set_others : {X : Type 0} (first second : List X) (number : ℕ) (item : X) → length second ≡ length first → OthersStay number first second → set second number item ≡ set first number item
set_others [] [] number item count others = refl
set_others [] (two ∷ second) number item count others = absurd (omega (arith, count))
set_others (one ∷ first) [] number item count others = absurd (omega (arith, count))
set_others {X = X} (one ∷ first) (two ∷ second) zero item count others =
    ap (λ (l : List X). item ∷ l) (all_same first second (omega (arith, count)) (λ place. others (suc place) (λ same. omega (arith, same))))
set_others (one ∷ first) (two ∷ second) (suc before) item count others =
    let head : two ≡ one = cc (others 0 (λ same. omega (arith, same))) in
    let rest : set second before item ≡ set first before item =
    set_others first second before item (omega (arith, count)) (λ other differs. others (suc other) (λ same. differs (omega (arith, same)))) in
    λ i. head i ∷ rest i

-- ---- a device that was armed

module _ {B : Type 0} where
  memory_same : (state : BankedState B) (banks : B) → in_memory (with_banks state banks) ≡ in_memory state
  memory_same (states.Absent old) banks = refl
  memory_same (states.Asking asking) banks = refl
  memory_same (states.Down old) banks = refl
  memory_same (states.Live clone) banks = refl

  banks_other : (state : BankedState B) (banks : B) → banks_of_state (with_banks state banks) ≡ banks
  banks_other (states.Absent old) banks = refl
  banks_other (states.Asking asking) banks = refl
  banks_other (states.Down old) banks = refl
  banks_other (states.Live clone) banks = refl

  armed_same : (state : BankedState B) (banks : B) (task : CrashTask) → IsArmedIn state task → IsArmedIn (with_banks state banks) task
  armed_same (states.Absent old) banks task is = is
  armed_same (states.Asking asking) banks task is = is
  armed_same (states.Down old) banks task is = is
  armed_same (states.Live clone) banks task is = is

  backed_same : (log : B → Option Log) (world : World) (steps number : ℕ) (state : BankedState B) (banks : B) → log banks ≡ log (banks_of_state state)
      → IsBacked log world steps number state → IsBacked log world steps number (with_banks state banks)
  backed_same log world steps number (states.Absent old) banks same backed = tt
  backed_same log world steps number (states.Asking asking) banks same backed = tt
  backed_same log world steps number (states.Down old) banks same backed = subst (λ (now : Option Log). IsDownOn world steps number now) (sym same) backed
  backed_same log world steps number (states.Live clone) banks same backed = record { opened = backed.opened; reached = backed.reached }

-- an arm that is set where none was
arm_set : (call : ℕ) (leave : Leave) (before : Meter) → before.arm ≡ Unarmed → (armed call leave before).arm ≡ Armed call leave
arm_set call leave before is = ap (λ (a : Arm). arm_after call leave a) is

-- ---- how a crash line ran whose device was armed: the parts before, once it was armed, behind the command, and once the power was cut
pub record Ran {B : Type 0} (log : B → Option Log) (meter : B → Meter) (call : ℕ) (leave : Leave) (task : CrashTask) (old mid done new : Parts B) (result : Result Reply WorldFault) (Told : Type 0) : Type 0 where
  pub begun : mid ≡ record old { clones = mid.clones }
  pub arms : ArmsAt log meter call leave (number_of_task task) old.clones.items mid.clones.items
  pub is_armed : IsArmedIn arms.was task
  pub keeps : KeepsDomain meter (number_of_task task) mid done
  pub left : LeavesAt log meter (doing_task mid.messages.items task) (result_err result) (number_of_task task) mid.clones.items done.clones.items
  pub unsent : IsSilent result mid.messages.items done.messages.items
  pub does : IfOk result (Does log mid (command_of task) done)
  pub faults_are : HasFaultsOfParts meter (number_of_task task) mid done result
  pub cut : CutsPower log meter (number_of_task task) done.clones.items new.clones.items Told
  pub ended : new ≡ record done { clones = new.clones }

-- its clone had a device that wasn't armed before
unarmed_at : {B : Type 0} (meter : B → Meter) (clones : List (BankedState B)) (number : ℕ) (state : BankedState B) → AreUnarmed meter (map banks_of_state clones)
    → HasState clones number state → (meter (banks_of_state state)).arm ≡ Unarmed
unarmed_at meter clones number state unarmed at = unarmed number (banks_of_state state) (banks_at meter clones number state at)

-- the armed world stands for what the world stood for
module _ {B : Type 0} (log : B → Option Log) (meter : B → Meter) (call : ℕ) (leave : Leave) (number : ℕ) (old mid : Parts B) (begun : mid ≡ record old { clones = mid.clones })
    (arms : ArmsAt log meter call leave number old.clones.items mid.clones.items) where
  mid_memory : map in_memory mid.clones.items ≡ map in_memory old.clones.items
  mid_memory =
      ap (λ (l : List (BankedState B)). map in_memory l) arms.becomes.now ∙ memory_set old.clones.items number arms.now
      ∙ ap (λ (s : RunningClone). set (map in_memory old.clones.items) number s) (ap (λ (s : BankedState B). in_memory s) arms.is.same ∙ memory_same arms.was arms.is.banks)
      ∙ set_again (map in_memory old.clones.items) number (in_memory arms.was) (memory_at old.clones.items number arms.was arms.becomes.was)

  mid_running : (steps : ℕ) → memory_of (running_of old steps) ≡ memory_of (running_of mid steps)
  mid_running steps = λ i. record {
    domain = (sym begun i).domain;
    properties = (sym begun i).properties.items;
    clones = sym mid_memory i;
    messages = map message_value (sym begun i).messages.items;
    steps = steps;
  }

  pub mid_stands : (steps : ℕ) (world : World) → StandsOnBanks log (running_of old steps) world → StandsOnBanks log (running_of mid steps) world
  mid_stands steps world stands = record {
    memory = subst (λ (r : RunningWorld). StandsFor r world) (mid_running steps) stands.memory;
    backed = λ place state is.
        let at : HasState (set old.clones.items number arms.now) place state = subst (λ (l : List (BankedState B)). HasState l place state) arms.becomes.now is in
        elim (cases_eq place number) [
          | inl equal ↦
              let now : arms.now ≡ state = here_at old.clones.items number arms.now state (subst (λ (k : ℕ). HasState (set old.clones.items number arms.now) k state) equal at) in
              subst (λ (k : ℕ). IsBacked log world steps k state) (sym equal)
              (subst (λ (s : BankedState B). IsBacked log world steps number s) (sym arms.is.same ∙ now)
              (backed_same log world steps number arms.was arms.is.banks arms.is.log_is (stands.backed number arms.was arms.becomes.was)))
          | inr differs ↦ stands.backed place state (other_at old.clones.items number place arms.now state differs at)
        ];
  }

  pub mid_left : HasStepLeft log old → HasStepLeft log mid
  mid_left left = record {
    steps = left.steps;
    few = left.few;
    standing = record { world = left.standing.world; stands = mid_stands left.steps left.standing.world left.standing.stands; sound = left.standing.sound };
  }

-- a crash line whose clone is down now leads to a world that the running world stands for
crash_ends : {B : Type 0} (log : B → Option Log) (call : ℕ) (leave : Leave) (task : CrashTask) (old new : BankedWorld B) (world : World) (reply : model.Reply) (running : RunningWorld)
    (now : B) (l : Log) → new.steps ≡ old.steps + 1 → StandsOnBanks log old world → IsSound world → new.clones ≡ set old.clones (number_of_task task) (states.Down now)
    → running ≡ memory_of new → (revived : IsRevived l (log now)) → IsUpTo (new.steps + 1) (read_banks (seen revived.log))
    → FollowsCrash call leave world task reply running (seen revived.log) → FollowsOnBanks log world (Crash call leave task) reply new
crash_ends {B = B} log call leave task old new world reply running now l later stands sound clones same revived up f =
    let here : ℕ = number_of_task task in
    let down : IsDownOn f.next new.steps here (log now) =
    image_down f.next new.steps here (log now) revived.log revived.now_is revived.settled (record { stands = f.stands; up = up }) in
    record {
      next = f.next;
      steps = f.steps;
      sound = f.sound;
      stands = record {
        memory = subst (λ (r : RunningWorld). StandsFor r f.next) same f.memory;
        backed = λ place state is.
            let at : HasState (set old.clones here (states.Down now)) place state = subst (λ (l : List (BankedState B)). HasState l place state) clones is in
            elim (cases_eq place here) [
              | inl equal ↦
                  let it : states.Down now ≡ state = here_at old.clones here (states.Down now) state (subst (λ (k : ℕ). HasState (set old.clones here (states.Down now)) k state) equal at) in
                  subst (λ (k : ℕ). IsBacked log f.next new.steps k state) (sym equal) (subst (λ (s : BankedState B). IsBacked log f.next new.steps here s) it down)
              | inr differs ↦
                  other_backed log old new (Crash call leave task) reply later world f.next stands sound f.steps place state differs
                  (other_at old.clones here place (states.Down now) state differs at)
            ];
      };
    }

-- a device that isn't armed: the command is done
pub unarmed_moves : {B : Type 0} (log : B → Option Log) (call : ℕ) (leave : Leave) (task : CrashTask) (old new : Parts B) (state : BankedState B) (reply : Reply)
    → HasState old.clones.items (number_of_task task) state → ¬ IsArmedIn state task → Does log old (command_of task) new reply
    → CrashesAs log old call leave task new (crashed.Unarmed reply)
unarmed_moves log call leave task old new state reply at unarmed does = record {
  moves = λ steps world stands sound.
      let here : ℕ = number_of_task task in
      let f : FollowsOnBanks log world (command_of task) (reply_value reply) (running_of new (steps + 1)) = does.moves steps world stands sound in
      let there = memory_at old.clones.items here state at in
      let inside : here < length world.clones = omega (arith, slice_get_within (map in_memory old.clones.items) here (in_memory state) there, stands.memory.count, sound.count) in
      let deed : Deed world (command_of task) = deed_of world task (reply_value reply) f.next inside f.steps in
      let known = armed_in world here state (clone_at world here) task (stands.memory.clones here (in_memory state) there) in
      record {
        next = f.next;
        steps = crash_step true call leave world task deed.steps (reply_value reply) f.next (isnt_armed (λ armed. unarmed (known.1 armed)) deed.does deed.are);
        sound = f.sound;
        stands = f.stands;
      };
}

nothing : ¬ (Unarmed ≡ Caught)
nothing is = cc

module _ {B : Type 0} (log : B → Option Log) (meter : B → Meter) (tells : (banks : B) → IsSome (log banks)) (call : ℕ) (leave : Leave) (task : CrashTask) (old mid done new : Parts B)
    (result : Result Reply WorldFault) (Told : Type 0) (r : Ran log meter call leave task old mid done new result Told) (unarmed : AreUnarmed meter (map banks_of_state old.clones.items)) where
  -- ---- the clones

  done_count : length done.clones.items ≡ length old.clones.items
  done_count = r.keeps.count ∙ ap (λ (l : List (BankedState B)). length l) r.arms.becomes.now ∙ length-set old.clones.items (number_of_task task) r.arms.now

  done_others : OthersStay (number_of_task task) old.clones.items done.clones.items
  done_others other differs =
      r.left.others other differs ∙ ap (λ (l : List (BankedState B)). slice_get l other) r.arms.becomes.now
      ∙ elsewhere_at old.clones.items (number_of_task task) other r.arms.now differs

  whole_becomes : Becomes old.clones.items new.clones.items (number_of_task task) r.arms.was (states.Down r.cut.now)
  whole_becomes = record {
    was = r.arms.becomes.was;
    now = r.cut.becomes.now ∙ set_others old.clones.items done.clones.items (number_of_task task) (states.Down r.cut.now) done_count done_others;
  }

  mid_has : HasState mid.clones.items (number_of_task task) r.arms.now
  mid_has =
      subst (λ (l : List (BankedState B)). HasState l (number_of_task task) r.arms.now) (sym r.arms.becomes.now)
      (set_here old.clones.items (number_of_task task) r.arms.was r.arms.now r.arms.becomes.was)

  left_state : LeavesState log meter (doing_task mid.messages.items task) (result_err result) r.arms.now r.cut.was
  left_state =
      let was : r.left.was ≡ r.arms.now = cc (r.left.before, mid_has) in
      let now : r.left.now ≡ r.cut.was = cc (r.left.behind, r.cut.becomes.was) in
      subst (λ (s : BankedState B). LeavesState log meter (doing_task mid.messages.items task) (result_err result) s r.cut.was) was
      (subst (λ (s : BankedState B). LeavesState log meter (doing_task mid.messages.items task) (result_err result) r.left.was s) now r.left.left)

  -- ---- the meters

  was_unarmed : (meter (banks_of_state r.arms.was)).arm ≡ Unarmed
  was_unarmed = unarmed_at meter old.clones.items (number_of_task task) r.arms.was unarmed r.arms.becomes.was

  pub set_meter : meter (banks_of_state r.arms.now) ≡ armed call leave (meter (banks_of_state r.arms.was))
  set_meter =
      ap (λ (s : BankedState B). meter (banks_of_state s)) r.arms.is.same ∙ ap meter (banks_other r.arms.was r.arms.is.banks) ∙ r.arms.is.meter_is

  pub set_arm : (meter (banks_of_state r.arms.now)).arm ≡ Armed call leave
  set_arm = ap (λ (m : Meter). m.arm) set_meter ∙ arm_set call leave (meter (banks_of_state r.arms.was)) was_unarmed

  ran_goes : MeterGoesOn (meter (banks_of_state r.arms.was)) (meter r.cut.now)
  ran_goes =
      let on : MeterGoesOn (meter (banks_of_state r.arms.now)) (meter (banks_of_state r.cut.was)) =
      r.keeps.banks.meters.each (number_of_task task) (banks_of_state r.arms.now) (banks_of_state r.cut.was)
      (banks_at meter mid.clones.items (number_of_task task) r.arms.now mid_has) (banks_at meter done.clones.items (number_of_task task) r.cut.was r.cut.becomes.was) in
      record {
        later = omega (arith, ap (λ (m : Meter). m.real_faults) set_meter, on.later, ap (λ (m : Meter). m.real_faults) r.cut.meter_is);
        unarmed = λ is. ap (λ (m : Meter). m.arm) r.cut.meter_is;
        caught = λ is. absurd (nothing (sym was_unarmed ∙ is));
      }

  -- the crash line keeps what a command does
  pub ran_keeps : KeepsDomain meter (number_of_task task) old new
  ran_keeps =
      keeps_set log meter old new (ap (λ (p : Parts B). p.domain) r.ended ∙ r.keeps.domain ∙ ap (λ (p : Parts B). p.domain) r.begun)
      (ap (λ (p : Parts B). p.properties) r.ended ∙ r.keeps.properties ∙ ap (λ (p : Parts B). p.properties) r.begun)
      (number_of_task task) r.arms.was (states.Down r.cut.now) whole_becomes ran_goes

  -- ---- the faults

  quiet_on : HadNoFault (meter (banks_of_state r.arms.now)) (meter (banks_of_state r.cut.was)) → HadNoFault (meter (banks_of_state r.arms.was)) (meter r.cut.now)
  quiet_on quiet = ap (λ (m : Meter). m.real_faults) r.cut.meter_is ∙ quiet ∙ ap (λ (m : Meter). m.real_faults) set_meter

  quiet_here : HadNoFaults meter (map banks_of_state mid.clones.items) (map banks_of_state done.clones.items)
      → HadNoFault (meter (banks_of_state r.arms.was)) (meter r.cut.now)
  quiet_here quiet =
      quiet_on (quiet (number_of_task task) (banks_of_state r.arms.now) (banks_of_state r.cut.was)
      (banks_at meter mid.clones.items (number_of_task task) r.arms.now mid_has) (banks_at meter done.clones.items (number_of_task task) r.cut.was r.cut.becomes.was))

  failed_here : ¬ Told → HasFailed meter (number_of_task task) (map banks_of_state mid.clones.items) (map banks_of_state done.clones.items)
      → HadFault (meter (banks_of_state r.arms.was)) (meter r.cut.now)
  failed_here none failed =
      let was : failed.was ≡ banks_of_state r.arms.now = cc (failed.before, banks_at meter mid.clones.items (number_of_task task) r.arms.now mid_has) in
      let now : failed.now ≡ banks_of_state r.cut.was = cc (failed.behind, banks_at meter done.clones.items (number_of_task task) r.cut.was r.cut.becomes.was) in
      let fault : HadFault (meter (banks_of_state r.arms.now)) (meter (banks_of_state r.cut.was)) =
      subst (λ (b : B). HadFault (meter b) (meter (banks_of_state r.cut.was))) was (subst (λ (b : B). HadFault (meter failed.was) (meter b)) now failed.fault) in
      elim fault [
        | inl caught ↦ absurd (none (r.cut.told.1 caught))
        | inr rose ↦ inr (ap (λ (m : Meter). m.real_faults) r.cut.meter_is ∙ rose ∙ ap (λ (m : Meter). counted m.real_faults) set_meter)
      ]

  faults_here : (one : Result Reply WorldFault) (two : Result Crashed WorldFault) → IsEndedAs one Told two
      → HasFaultsFor (number_of_task task) meter (map banks_of_state mid.clones.items) (map banks_of_state done.clones.items) one
      → HasFaultsAt (number_of_task task) (meter (banks_of_state r.arms.was)) (meter r.cut.now) two
  faults_here (Ok reply) two is by =
      subst (λ (t : Result Crashed WorldFault). HasFaultsAt (number_of_task task) (meter (banks_of_state r.arms.was)) (meter r.cut.now) t) (sym is) (quiet_here by)
  faults_here (Err faults.NoMemory) two is by =
      subst (λ (t : Result Crashed WorldFault). HasFaultsAt (number_of_task task) (meter (banks_of_state r.arms.was)) (meter r.cut.now) t) (sym is) (quiet_here by)
  faults_here (Err (faults.Device clone)) two is by = elim is [
    | inl caught ↦
        subst (λ (t : Result Crashed WorldFault). HasFaultsAt (number_of_task task) (meter (banks_of_state r.arms.was)) (meter r.cut.now) t) (sym caught.1)
        (quiet_on (caught_quiet log meter (doing_task mid.messages.items task) call leave r.arms.now r.cut.was (result_err result) set_arm (r.cut.told.0 caught.0) left_state))
    | inr real ↦
        subst (λ (t : Result Crashed WorldFault). HasFaultsAt (number_of_task task) (meter (banks_of_state r.arms.was)) (meter r.cut.now) t) (sym real.1)
        (by.0, failed_here real.0 by.1)
  ]

  -- a caught call is no fault, and a real one names the clone
  pub ran_faults : (two : Result Crashed WorldFault) → IsEndedAs result Told two → HasFaultsOfParts meter (number_of_task task) old new two
  ran_faults two is =
      faults_set meter old.clones.items new.clones.items (number_of_task task) r.arms.was (states.Down r.cut.now) two whole_becomes (faults_here result two is r.faults_are)

  -- ---- the step

  module _ (steps : ℕ) (world : World) (stands : StandsOnBanks log (running_of old steps) world) (sound : IsSound world) where
    set_stands : StandsOnBanks log (running_of mid steps) world
    set_stands = mid_stands log meter call leave (number_of_task task) old mid r.begun r.arms steps world stands

    known_armed : IsArmed (clone_at world (number_of_task task)) task
    known_armed =
        (armed_in world (number_of_task task) r.arms.was (clone_at world (number_of_task task)) task
        (stands.memory.clones (number_of_task task) (in_memory r.arms.was) (memory_at old.clones.items (number_of_task task) r.arms.was r.arms.becomes.was))).0 r.is_armed

    still_armed : IsArmedIn r.arms.now task
    still_armed = subst (λ (s : BankedState B). IsArmedIn s task) (sym r.arms.is.same) (armed_same r.arms.was r.arms.is.banks task r.is_armed)

    -- what the power left
    cut_log : (l : Log) × (log (banks_of_state r.cut.was) ≡ Some l)
    cut_log = told_log (log (banks_of_state r.cut.was)) (tells (banks_of_state r.cut.was))

    cut_revived : IsRevived cut_log.0 (log r.cut.now)
    cut_revived = revived_reads cut_log.0 (log r.cut.now) (r.cut.revives cut_log.0 cut_log.1)

    kept_domain : new.domain ≡ old.domain
    kept_domain = ap (λ (p : Parts B). p.domain) r.ended ∙ r.keeps.domain ∙ ap (λ (p : Parts B). p.domain) r.begun

    kept_properties : new.properties ≡ old.properties
    kept_properties = ap (λ (p : Parts B). p.properties) r.ended ∙ r.keeps.properties ∙ ap (λ (p : Parts B). p.properties) r.begun

    -- a call was caught
    caught_now : done.messages.items ≡ mid.messages.items
        → stepped_into (memory_of (running_of old steps)) (number_of_task task) (states.Down tt) ≡ memory_of (running_of new (steps + 1))
    caught_now silent =
        let messages : new.messages.items ≡ old.messages.items =
        ap (λ (p : Parts B). p.messages.items) r.ended ∙ silent ∙ ap (λ (p : Parts B). p.messages.items) r.begun in
        let clones : map in_memory new.clones.items ≡ set (map in_memory old.clones.items) (number_of_task task) (states.Down tt) =
        (memory_becomes old.clones.items new.clones.items (number_of_task task) r.arms.was (states.Down r.cut.now) whole_becomes).now in
        λ i. record {
          domain = sym kept_domain i;
          properties = (sym kept_properties i).items;
          clones = sym clones i;
          messages = map message_value (sym messages i);
          steps = steps + 1;
        }

    caught_step : (clone : ℕ) → result ≡ Err (faults.Device clone) → Told → FollowsOnBanks log world (Crash call leave task) model.Crashed (running_of new (steps + 1))
    caught_step clone is told =
        let silent : done.messages.items ≡ mid.messages.items =
        subst (λ (one : Result Reply WorldFault). IsSilent one mid.messages.items done.messages.items) is r.unsent in
        let was : WasCaught call world task (steps + 1 + 1) (seen cut_revived.log) =
        caught_by log meter tells call leave task (running_of mid steps) world set_stands sound mid.messages.items refl r.arms.now r.cut.was (result_err result) mid_has still_armed known_armed set_arm
        (r.cut.told.0 told) cut_log.0 cut_log.1 (seen cut_revived.log) cut_revived.left left_state in
        crash_ends log call leave task (running_of old steps) (running_of new (steps + 1)) world model.Crashed
        (stepped_into (memory_of (running_of old steps)) (number_of_task task) (states.Down tt)) r.cut.now cut_log.0 refl stands sound whole_becomes.now
        (caught_now silent) cut_revived was.up
        (caught_followed (memory_of (running_of old steps)) world stands.memory sound call leave task (seen cut_revived.log) known_armed was.to)

    -- none was
    behind_now : record (memory_of (running_of done (steps + 1))) { clones = set (map in_memory done.clones.items) (number_of_task task) (states.Down tt) } ≡ memory_of (running_of new (steps + 1))
    behind_now =
        let clones : map in_memory new.clones.items ≡ set (map in_memory done.clones.items) (number_of_task task) (states.Down tt) =
        (memory_becomes done.clones.items new.clones.items (number_of_task task) r.cut.was (states.Down r.cut.now) r.cut.becomes).now in
        λ i. record {
          domain = (sym r.ended i).domain;
          properties = (sym r.ended i).properties.items;
          clones = sym clones i;
          messages = map message_value (sym r.ended i).messages.items;
          steps = steps + 1;
        }

    behind_step : (reply : Reply) → result ≡ Ok reply → IsTaskInForm task → FollowsOnBanks log world (Crash call leave task) (model.ThenCrashed (reply_value reply)) (running_of new (steps + 1))
    behind_step reply is form =
        let here : ℕ = number_of_task task in
        let whole : result_err result ≡ None = subst (λ (one : Result Reply WorldFault). result_err one ≡ None) (sym is) refl in
        let does : Does log mid (command_of task) done reply = subst (λ (one : Result Reply WorldFault). IfOk one (Does log mid (command_of task) done)) is r.does in
        let f : FollowsOnBanks log world (command_of task) (reply_value reply) (running_of done (steps + 1)) = does.moves steps world set_stands sound in
        let did : Did call world task =
        did_by log meter tells call leave task (running_of mid steps) world set_stands sound mid.messages.items refl r.arms.now r.cut.was (result_err result) whole mid_has still_armed set_arm left_state in
        let down : IsDownOn f.next (steps + 1) here (log (banks_of_state r.cut.was)) =
        stopped_down log f.next (steps + 1) here r.cut.was
        (f.stands.memory.clones here (in_memory r.cut.was) (memory_at done.clones.items here r.cut.was r.cut.becomes.was))
        (f.stands.backed here r.cut.was r.cut.becomes.was) r.cut.kept (tells (banks_of_state r.cut.was)) in
        let image : ImageDown f.next (steps + 1) here (seen cut_revived.log) =
        down_image f.next (steps + 1) here (log (banks_of_state r.cut.was)) cut_log.0 cut_log.1 (seen cut_revived.log) cut_revived.left down in
        crash_ends log call leave task (running_of old steps) (running_of new (steps + 1)) world (model.ThenCrashed (reply_value reply))
        (record (memory_of (running_of done (steps + 1))) { clones = set (map in_memory done.clones.items) here (states.Down tt) })
        r.cut.now cut_log.0 refl stands sound whole_becomes.now behind_now cut_revived image.up
        (done_followed call leave world task (seen cut_revived.log) sound known_armed did.reading did.steps (reply_value reply) f.next (memory_of (running_of done (steps + 1))) form
        did.carried (plain_step world task (reply_value reply) f.next f.steps) did.late f.sound f.stands.memory image.stands)

  -- the crash line is the model's step
  crashes_here : (one : Result Reply WorldFault) → result ≡ one → (two : Result Crashed WorldFault) → IsTaskInForm task → IsEndedAs one Told two → IfOk two (CrashesAs log old call leave task new)
  crashes_here (Ok reply) same two form is =
      subst (λ (t : Result Crashed WorldFault). IfOk t (CrashesAs log old call leave task new)) (sym is)
      (record { moves = λ steps world stands sound. behind_step steps world stands sound reply same form })
  crashes_here (Err faults.NoMemory) same two form is =
      subst (λ (t : Result Crashed WorldFault). IfOk t (CrashesAs log old call leave task new)) (sym is) tt
  crashes_here (Err (faults.Device clone)) same two form is = elim is [
    | inl caught ↦
        subst (λ (t : Result Crashed WorldFault). IfOk t (CrashesAs log old call leave task new)) (sym caught.1)
        (record { moves = λ steps world stands sound. caught_step steps world stands sound clone same caught.0 })
    | inr real ↦ subst (λ (t : Result Crashed WorldFault). IfOk t (CrashesAs log old call leave task new)) (sym real.1) tt
  ]

  pub ran_done : (two : Result Crashed WorldFault) → IsTaskInForm task → IsEndedAs result Told two → IfOk two (CrashesAs log old call leave task new)
  ran_done two form is = crashes_here result refl two form is

-- what the command left of the clone, whose device was armed
pub record RanLeft {B : Type 0} (log : B → Option Log) (meter : B → Meter) (task : CrashTask) (mid new : Parts B) (was set_up done_as : BankedState B) (now : B) (ended : Option WorldFault) : Type 0 where
  pub has_mid : HasState mid.clones.items (number_of_task task) set_up
  pub has_now : HasState new.clones.items (number_of_task task) (states.Down now)
  pub log_same : log (banks_of_state set_up) ≡ log (banks_of_state was)
  pub left : LeavesState log meter (doing_task mid.messages.items task) ended set_up done_as

pub ran_left : {B : Type 0} (log : B → Option Log) (meter : B → Meter) (call : ℕ) (leave : Leave) (task : CrashTask) (old mid done new : Parts B) (result : Result Reply WorldFault) (Told : Type 0)
    → (r : Ran log meter call leave task old mid done new result Told) → RanLeft log meter task mid new r.arms.was r.arms.now r.cut.was r.cut.now (result_err result)
ran_left {B = B} log meter call leave task old mid done new result Told r =
    let number : ℕ = number_of_task task in
    let has_mid : HasState mid.clones.items number r.arms.now =
    subst (λ (l : List (BankedState B)). HasState l number r.arms.now) (sym r.arms.becomes.now) (set_here old.clones.items number r.arms.was r.arms.now r.arms.becomes.was) in
    let was : r.left.was ≡ r.arms.now = cc (r.left.before, has_mid) in
    let now : r.left.now ≡ r.cut.was = cc (r.left.behind, r.cut.becomes.was) in
    record {
      has_mid = has_mid;
      has_now = subst (λ (l : List (BankedState B)). HasState l number (states.Down r.cut.now)) (sym r.cut.becomes.now)
          (set_here done.clones.items number r.cut.was (states.Down r.cut.now) r.cut.becomes.was);
      log_same = ap (λ (s : BankedState B). log (banks_of_state s)) r.arms.is.same ∙ ap log (banks_other r.arms.was r.arms.is.banks) ∙ r.arms.is.log_is;
      left = subst (λ (s : BankedState B). LeavesState log meter (doing_task mid.messages.items task) (result_err result) s r.cut.was) was
          (subst (λ (s : BankedState B). LeavesState log meter (doing_task mid.messages.items task) (result_err result) r.left.was s) now r.left.left);
    }

-- ---- what `crash` has

-- its parts as such a run, where the number of the clone was found
pub ran_of : {B : Type 0} (log : B → Option Log) (meter : B → Meter) (call : ℕ) (leave : Leave) (task : CrashTask) (old mid done new : Parts B) (result : Result Reply WorldFault) (Told : Type 0)
    (number : ℕ) (state : BankedState B) → number ≡ number_of_task task → mid ≡ record old { clones = mid.clones } → ArmsAt log meter call leave number old.clones.items mid.clones.items
    → HasState old.clones.items number state → IsArmedIn state task → KeepsDomain meter (number_of_task task) mid done
    → LeavesAt log meter (doing_task mid.messages.items task) (result_err result) (number_of_task task) mid.clones.items done.clones.items
    → IsSilent result mid.messages.items done.messages.items → IfOk result (Does log mid (command_of task) done) → HasFaultsOfParts meter (number_of_task task) mid done result
    → CutsPower log meter number done.clones.items new.clones.items Told → new ≡ record done { clones = new.clones } → Ran log meter call leave task old mid done new result Told
ran_of {B = B} log meter call leave task old mid done new result Told number state is begun arms at is_armed keeps left unsent does faults_are cut ended =
    let there : ArmsAt log meter call leave (number_of_task task) old.clones.items mid.clones.items =
    subst (λ (k : ℕ). ArmsAt log meter call leave k old.clones.items mid.clones.items) is arms in
    let same : state ≡ there.was = cc (subst (λ (k : ℕ). HasState old.clones.items k state) is at, there.becomes.was) in
    record {
      begun = begun;
      arms = there;
      is_armed = subst (λ (s : BankedState B). IsArmedIn s task) same is_armed;
      keeps = keeps;
      left = left;
      unsent = unsent;
      does = does;
      faults_are = faults_are;
      cut = subst (λ (k : ℕ). CutsPower log meter k done.clones.items new.clones.items Told) is cut;
      ended = ended;
    }

pub unarmed_done : {B : Type 0} (log : B → Option Log) (call : ℕ) (leave : Leave) (task : CrashTask) (old new : Parts B) (state : BankedState B) (one : Result Reply WorldFault)
    (two : Result Crashed WorldFault) → IsUnarmedAs one two → HasState old.clones.items (number_of_task task) state → ¬ IsArmedIn state task → IfOk one (Does log old (command_of task) new)
    → IfOk two (CrashesAs log old call leave task new)
unarmed_done log call leave task old new state (Ok reply) two is at unarmed does =
    subst (λ (t : Result Crashed WorldFault). IfOk t (CrashesAs log old call leave task new)) (sym is)
    (unarmed_moves log call leave task old new state reply at unarmed does)
unarmed_done log call leave task old new state (Err fault) two is at unarmed does =
    subst (λ (t : Result Crashed WorldFault). IfOk t (CrashesAs log old call leave task new)) (sym is) tt
