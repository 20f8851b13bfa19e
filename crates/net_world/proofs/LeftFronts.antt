-- What a command leaves of the banks of its clone, whatever it answers, as a front of its durable steps in the model.
use Rattle.std.proofs.Common.{◌≡◌, ℕ, List, [], ◌∷◌, Option, Some, Result, inl, inr, refl, sym, ◌∙◌, ap, subst, map}
use Rattle.std.specs.Prelude.{slice_get, IsSome}
use Rattle.std.specs.Result.{result_err}
use Rattle.mld_io.specs.Arm.{Arm, Meter}
use Rattle.mld_io.specs.Disk.{Log, Sides, grown_by, seen, MayLeave, LeavesOnly}
use Rattle.mld_io.specs.declared.banks.Leave.{Leave}
use Rattle.mld_io.proofs.DiskLaws.{AtEachMoment-last}
use Rattle.clone_core.specs.journal_sides.Pairs.{PairReading, KeepsNone, Keeps}
use Rattle.mld_ops.specs.Messages.{message_value}
use Rattle.mld_ops.specs.declared.messages.Message.{Message}
use Rattle.mld_model.specs.Clone.{kept_of}
use Rattle.mld_model.specs.Local.{joined_clone}
use Rattle.mld_model.specs.Sound.{IsSound}
use Rattle.mld_model.specs.World.{World, clone_at}
use Rattle.mld_model.specs.declared.CloneState.TheVariants as states
use Rattle.mld_model.proofs.StandsForLaws.{live_at, asking_at}
use Rattle.schedule_text.specs.schedule_model.Step.{number_of_clone}
use Rattle.schedule_text.specs.schedule_model.Tasks.{command_of, command_done, number_of_task}
use Rattle.schedule_text.specs.schedule_model.declared.Command.{Command}
use Rattle.schedule_text.specs.schedule_model.declared.CrashTask.{CrashTask}
use Rattle.world_commands.specs.schedule_replies.declared.replies.Reply.{Reply}
use Rattle.clone_core.specs.clone_parts.KeptSteps.{KeptStep, Created, ReadsSome, LeavesSome}
use Rattle.clone_core.specs.Banked.{head_of, kept_as}
use Rattle.world_commands.specs.crash_laws.CarriedSteps.{owner_at}
use Rattle.world_commands.specs.crash_laws.Deeds.{CarriedDeed}
use Rattle.world_commands.proofs.of_crash_laws.Fronts.{carried_some}
use Rattle.world_commands.proofs.of_crash_laws.Images.{IsRevived, revived_reads}
use Rattle.world_commands.specs.declared.faults.WorldFault.{WorldFault}
use Rattle.world_commands.specs.declared.parts.Parts.{Parts}
use Rattle.world_commands.specs.Doings.{doing_nothing}
use Rattle.world_commands.specs.LeftBanks.{LeavesState, leaves_same, leaves_live, leaves_made, leaves_opened, LeavesAt}
use Rattle.world_commands.specs.States.{HasState}
use Rattle.world_commands.specs.WorldBanks.{BankedState, BankedWorld, banks_of_state, memory_of, StandsOnBanks}
use Rattle.world_commands.specs.WorldParts.{running_of}
use Rattle.world_commands.proofs.BankLemmas.{memory_at, banks_at}
use Rattle.world_commands.proofs.StopLemmas.{told_log}
use Rattle.net_world.specs.CrashedWorlds.{doing_task}
use Rattle.net_world.specs.LeftBehind.{LeftBy, LeavesBanksOf}
use Rattle.net_world.proofs.CaughtLemmas.{now_left}
use Rattle.net_world.proofs.CrashLemmas.{Ran, mid_stands, ran_left}
use Rattle.net_world.proofs.DeedLemmas.{changes_deed, takes_deed}

-- the log is as it was
same_left : (before behind : Log) (was now : Option Log) → now ≡ was → was ≡ Some before → now ≡ Some behind → (image : Sides) → MayLeave behind image → MayLeave before image
same_left before behind was now same told is image left =
    let one : behind ≡ before = cc (same, told, is) in
    subst (λ (l : Log). MayLeave l image) one left

-- what a crash now leaves reads as after a front of the changes
pub some_read : (before behind : Log) (now : Option Log) (reading : PairReading) (steps : List KeptStep) (was is : Arm) → now ≡ Some behind → LeavesSome before now reading steps was is
    → LeavesOnly behind (ReadsSome reading steps was)
some_read before behind now reading steps was is told some image left =
    let same : grown_by some.moments.added before ≡ behind = one (grown_by some.moments.added before) behind (sym some.moments.now_is ∙ told) in
    AtEachMoment-last before some.moments.added (λ calls i. ReadsSome reading steps was i) some.moments.each image (subst (λ (l : Log). MayLeave l image) (sym same) left)
  where
    one : (first second : Log) → Some first ≡ Some second → first ≡ second
    one first second same = cc

-- ---- a state of the clone, and the one that it was left in

module _ {B : Type 0} (log : B → Option Log) (meter : B → Meter) (task : CrashTask) (running : BankedWorld B) (world : World) (stands : StandsOnBanks log running world) (sound : IsSound world)
    (messages : List Message) (are : running.messages ≡ map message_value messages) where
  some_left : (before behind : Log) (now : Option Log) (reading : PairReading) (steps : List KeptStep) (was is : Arm) → now ≡ Some behind → LeavesSome before now reading steps was is
      → CarriedDeed world (command_of task) (number_of_task task) reading steps → LeavesOnly behind (LeftBy world (command_of task) (number_of_task task) before)
  some_left before behind now reading steps was is told some carried image left =
      inr (
        carried.deed,
        carried_some (owner_at world (number_of_task task)) world.history reading (kept_of (clone_at world (number_of_task task))) steps carried.deed.steps was image carried.carries
            (some_read before behind now reading steps was is told some image left),
      )

  pub state_left : (was now : BankedState B) (ended : Option WorldFault) → HasState running.clones (number_of_task task) was → (before behind : Log) → log (banks_of_state was) ≡ Some before
      → log (banks_of_state now) ≡ Some behind → LeavesState log meter (doing_task messages task) ended was now
      → LeavesOnly behind (LeftBy world (command_of task) (number_of_task task) before)
  state_left was now ended at before behind told is (leaves_same same uncalled) image left =
      inl (same_left before behind (log (banks_of_state was)) (log (banks_of_state now)) (ap log same) told is image left)
  state_left (states.Live old) (states.Live new) ended at before behind told is (leaves_live [] some made went fronts) image left =
      inl (same_left before behind (log old.banks) (log new.banks) (ap log fronts) told is image left)
  state_left (states.Live old) (states.Live new) ended at before behind told is (leaves_live (step ∷ steps) some made went fronts) image left =
      let moments = fronts before told in
      some_left before behind (log new.banks) (Keeps (kept_as moments.0 old.generation old.local)) (step ∷ steps) (meter old.banks).arm (meter new.banks).arm is moments.1
      (changes_deed (memory_of running) world stands.memory sound messages are task old.local (step ∷ steps) moments.0 old.generation
      (live_at (memory_of running) world stands.memory (number_of_task task) old.local (memory_at running.clones (number_of_task task) (states.Live old) at)) made)
      image left
  state_left (states.Asking old) now ended at before behind told is (leaves_made leaf takes went made) image left =
      some_left before behind (log (banks_of_state now)) KeepsNone (Created (head_of (joined_clone old.asker leaf)) ∷ []) (meter old.banks).arm (meter (banks_of_state now)).arm is (made before told)
      (takes_deed (memory_of running) world stands.memory sound messages are task old.asker leaf
      (asking_at (memory_of running) world stands.memory (number_of_task task) old.asker (memory_at running.clones (number_of_task task) (states.Asking old) at)) takes)
      image left
  state_left (states.Down old) now ended at before behind told is (leaves_opened may went no_more) image left =
      inl (now_left before behind (log (banks_of_state now)) image (no_more before told) is left)

-- a command that does nothing on banks
nothing_left : {B : Type 0} (log : B → Option Log) (meter : B → Meter) (was now : BankedState B) (ended : Option WorldFault) (before behind : Log) → log (banks_of_state was) ≡ Some before
    → log (banks_of_state now) ≡ Some behind → LeavesState log meter doing_nothing ended was now → (image : Sides) → MayLeave behind image → MayLeave before image
nothing_left log meter was now ended before behind told is (leaves_same same uncalled) image left =
    same_left before behind (log (banks_of_state was)) (log (banks_of_state now)) (ap log same) told is image left
nothing_left log meter (states.Live old) (states.Live new) ended before behind told is (leaves_live steps some made went fronts) image left = absurd made
nothing_left log meter (states.Asking old) now ended before behind told is (leaves_made leaf takes went made) image left = absurd takes
nothing_left log meter (states.Down old) now ended before behind told is (leaves_opened may went no_more) image left = absurd may

-- ---- the banks of the clone

module _ {B : Type 0} (log : B → Option Log) (meter : B → Meter) (old new : Parts B) where
  log_of : (clones : List (BankedState B)) (number : ℕ) (state : BankedState B) (banks : B) (l : Log) → HasState clones number state → slice_get (map banks_of_state clones) number ≡ Some banks
      → log banks ≡ Some l → log (banks_of_state state) ≡ Some l
  log_of clones number state banks l at has is =
      let same : banks_of_state state ≡ banks = cc (banks_at meter clones number state at, has) in
      ap log same ∙ is

  pub task_leaves : (task : CrashTask) (ended : Option WorldFault) → LeavesAt log meter (doing_task old.messages.items task) ended (number_of_task task) old.clones.items new.clones.items
      → LeavesBanksOf log old (command_of task) (number_of_task task) new
  task_leaves task ended left steps world stands sound was now before behind had has told is =
      let number : ℕ = number_of_task task in
      state_left log meter task (running_of old steps) world stands sound old.messages.items refl left.was left.now ended left.before before behind
      (log_of old.clones.items number left.was was before left.before had told) (log_of new.clones.items number left.now now behind left.behind has is) left.left

  pub nothing_leaves : (command : Command) (number : ℕ) (ended : Option WorldFault) → LeavesAt log meter doing_nothing ended number old.clones.items new.clones.items
      → LeavesBanksOf log old command number new
  nothing_leaves command number ended left steps world stands sound was now before behind had has told is image crash =
      inl (nothing_left log meter left.was left.now ended before behind
      (log_of old.clones.items number left.was was before left.before had told) (log_of new.clones.items number left.now now behind left.behind has is) left.left image crash)

  pub same_leaves : (command : Command) (number : ℕ) → new.clones.items ≡ old.clones.items → LeavesBanksOf log old command number new
  same_leaves command number same steps world stands sound was now before behind had has told is image crash =
      let one : was ≡ now = cc (had, subst (λ (l : List (BankedState B)). slice_get (map banks_of_state l) number ≡ Some now) same has) in
      inl (same_left before behind (log was) (log now) (ap log (sym one)) told is image crash)

  -- the command by another name
  pub named_leaves : (command other : Command) → command ≡ other → LeavesBanksOf log old (command_done other) (number_of_clone other) new
      → LeavesBanksOf log old (command_done command) (number_of_clone command) new
  named_leaves command other is leaves = subst (λ (c : Command). LeavesBanksOf log old (command_done c) (number_of_clone c) new) (sym is) leaves

-- a crash line whose device was armed
pub ran_leaves : {B : Type 0} (log : B → Option Log) (meter : B → Meter) (tells : (banks : B) → IsSome (log banks)) (call : ℕ) (leave : Leave) (task : CrashTask) (old mid done new : Parts B)
    (result : Result Reply WorldFault) (Told : Type 0) → Ran log meter call leave task old mid done new result Told → LeavesBanksOf log old (command_of task) (number_of_task task) new
ran_leaves log meter tells call leave task old mid done new result Told r steps world stands sound was now before behind had has told is image crash =
    let number : ℕ = number_of_task task in
    let f = ran_left log meter call leave task old mid done new result Told r in
    let l = told_log (log (banks_of_state r.cut.was)) (tells (banks_of_state r.cut.was)) in
    let revived : IsRevived l.0 (log r.cut.now) = revived_reads l.0 (log r.cut.now) (r.cut.revives l.0 l.1) in
    let at_now : log r.cut.now ≡ Some behind = log_of log meter old new new.clones.items number (states.Down r.cut.now) now behind f.has_now has is in
    let same : revived.log ≡ behind = cc (revived.now_is, at_now) in
    let at_was : log (banks_of_state r.arms.was) ≡ Some before = log_of log meter old new old.clones.items number r.arms.was was before r.arms.becomes.was had told in
    let at_mid : log (banks_of_state r.arms.now) ≡ Some before = f.log_same ∙ at_was in
    let settled : image ≡ seen behind =
    subst (λ (one : Log). (i : Sides) → MayLeave one i → i ≡ seen one) same revived.settled image crash in
    let left : MayLeave l.0 image = subst (λ (i : Sides). MayLeave l.0 i) (sym settled) (subst (λ (one : Log). MayLeave l.0 (seen one)) same revived.left) in
    state_left log meter task (running_of mid steps) world
    (mid_stands log meter call leave number old mid r.begun r.arms steps world stands) sound mid.messages.items refl r.arms.now r.cut.was (result_err result) f.has_mid before l.0 at_mid l.1 f.left image left
