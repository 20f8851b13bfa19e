-- What a step does with the device of its clone, by what its command left of the clone's banks.
use Rattle.std.proofs.Common.{◌≡◌, ◌≢◌, ◌⊎◌, ℕ, List, [], ◌∷◌, Option, None, Some, Result, Ok, Err, IfErr, inl, inr, refl, sym, ◌∙◌, ap, subst, map}
use Rattle.std.specs.Prelude.{slice_get, IsSome}
use Rattle.std.specs.Result.{result_err}
use Rattle.mld_io.specs.Arm.{Arm, Unarmed, Armed, Caught, Meter, LowersAtMost}
use Rattle.mld_io.specs.Disk.{Log}
use Rattle.mld_io.specs.declared.banks.Leave.{Leave}
use Rattle.mld_io.specs.declared.banks.Side.TheVariants as sides
use Rattle.clone_core.specs.journal_sides.Pairs.{PairReading, KeepsNone, Keeps}
use Rattle.mld_ops.specs.Messages.{message_value}
use Rattle.mld_ops.specs.declared.messages.Message.{Message}
use Rattle.mld_model.specs.Clone.{Clone, kept_of}
use Rattle.mld_model.specs.Clone as model
use Rattle.mld_model.specs.Durable.{DurableStep}
use Rattle.mld_model.specs.Local.{joined_clone}
use Rattle.mld_model.specs.Sound.{IsSound}
use Rattle.mld_model.specs.StandsFor.{CloneStandsFor, RunningClone}
use Rattle.mld_model.specs.World.{World, clone_at}
use Rattle.mld_model.specs.declared.CloneState.TheVariants as states
use Rattle.mld_model.proofs.StandsForLaws.{live_at, asking_at}
use Rattle.schedule_text.specs.schedule_model.Tasks.{command_of, command_done, number_of_task, IsToOpen}
use Rattle.schedule_text.specs.schedule_model.declared.Command.{Command}
use Rattle.schedule_text.specs.schedule_model.declared.Command.TheVariants.{Crash}
use Rattle.schedule_text.specs.schedule_model.declared.CrashTask.{CrashTask}
use Rattle.schedule_text.specs.schedule_model.declared.CrashTask.TheVariants as tasks
use Rattle.clone_core.specs.clone_parts.KeptSteps.{KeptStep, Created}
use Rattle.clone_core.specs.Banked.{head_of, kept_as}
use Rattle.world_commands.specs.crash_laws.CarriedSteps.{owner_at, Carries}
use Rattle.world_commands.specs.crash_laws.Deeds.{CarriedDeed}
use Rattle.world_commands.specs.declared.faults.WorldFault.{WorldFault}
use Rattle.world_commands.specs.declared.faults.WorldFault.TheVariants as faults
use Rattle.world_commands.specs.declared.parts.Parts.{Parts}
use Rattle.world_commands.specs.schedule_replies.declared.replies.Reply.{Reply}
use Rattle.world_commands.specs.Doings.{doing_nothing}
use Rattle.world_commands.specs.LeftBanks.{WorkOnBanks, EndsUncalled, LeavesState, leaves_same, leaves_live, leaves_made, leaves_opened, LeavesAt}
use Rattle.world_commands.specs.States.{HasState}
use Rattle.world_commands.specs.WorldBanks.{BankedState, BankedWorld, in_memory, banks_of_state, memory_of, StandsOnBanks}
use Rattle.world_commands.specs.WorldParts.{running_of}
use Rattle.world_commands.proofs.BankLemmas.{memory_at, banks_at}
use Rattle.world_commands.proofs.LeftLemmas.{done_unfailed, short_unfailed}
use Rattle.net_world.specs.Commands.{FailsToTell}
use Rattle.net_world.specs.CrashedWorlds.{AreUnarmed, IsArmedIn, doing_task, IsEndedAs, IsUnarmedAs}
use Rattle.net_world.specs.DeviceUses.{IsDownClone, NeedsDevice, has_durable_steps, opens_banks, CallsNone, StillLeaves, CrashesArmed, UsesDevice, UsesDeviceAfter}
use Rattle.net_world.specs.declared.crash.Crashed.{Crashed}
use Rattle.net_world.proofs.CaughtLemmas.{armed_in}
use Rattle.net_world.proofs.CrashLemmas.{Ran, RanLeft, mid_stands, ran_left, set_meter, set_arm}
use Rattle.net_world.proofs.DeedLemmas.{changes_deed, takes_deed}

-- ---- faults

-- a command failed by a device where a part of it did
abbrev pub FailsAsPart : Option WorldFault → Option WorldFault → Type 0
FailsAsPart part ended = (clone : ℕ) → ended ≡ Some (faults.Device clone) → part ≡ Some (faults.Device clone)

-- a reply that was told, or was not
pub told_fails : {U : Type 0} (reply : Result Reply WorldFault) (told : Result U WorldFault) → IfErr told (FailsToTell reply) → FailsAsPart (result_err reply) (result_err told)
told_fails reply (Ok value) cause clone is = done_unfailed clone is
told_fails (Ok answer) (Err fault) cause clone is = short_unfailed clone (ap (λ (f : WorldFault). Some f) (sym cause) ∙ is)
told_fails (Err refused) (Err fault) cause clone is = ap (λ (f : WorldFault). Some f) (sym cause) ∙ is

-- so it is of the end of a crash line
pub crash_told_fails : {U : Type 0} (ended : Result Crashed WorldFault) (told : Result U WorldFault) → IfErr told (FailsToTell ended) → FailsAsPart (result_err ended) (result_err told)
crash_told_fails ended (Ok value) cause clone is = done_unfailed clone is
crash_told_fails (Ok end) (Err fault) cause clone is = short_unfailed clone (ap (λ (f : WorldFault). Some f) (sym cause) ∙ is)
crash_told_fails (Err refused) (Err fault) cause clone is = ap (λ (f : WorldFault). Some f) (sym cause) ∙ is

-- a crash line fails by a device as its command does
unarmed_fails : (one : Result Reply WorldFault) (two : Result Crashed WorldFault) → IsUnarmedAs one two → FailsAsPart (result_err one) (result_err two)
unarmed_fails (Ok reply) two is clone failed = done_unfailed clone (sym (ap (λ (t : Result Crashed WorldFault). result_err t) is) ∙ failed)
unarmed_fails (Err fault) two is clone failed = sym (ap (λ (t : Result Crashed WorldFault). result_err t) is) ∙ failed

ended_fails : (one : Result Reply WorldFault) (Told : Type 0) (two : Result Crashed WorldFault) → IsEndedAs one Told two → FailsAsPart (result_err one) (result_err two)
ended_fails (Ok reply) Told two is clone failed = done_unfailed clone (sym (ap (λ (t : Result Crashed WorldFault). result_err t) is) ∙ failed)
ended_fails (Err faults.NoMemory) Told two is clone failed = short_unfailed clone (sym (ap (λ (t : Result Crashed WorldFault). result_err t) is) ∙ failed)
ended_fails (Err (faults.Device number)) Told two is clone failed = elim is [
  | inl caught ↦ done_unfailed clone (sym (ap (λ (t : Result Crashed WorldFault). result_err t) caught.1) ∙ failed)
  | inr real ↦ sym (ap (λ (t : Result Crashed WorldFault). result_err t) real.1) ∙ failed
]

-- want of memory is no fault of a device
pub want_unfailed : {T X : Type 0} (r : Result T WorldFault) → IfErr r (λ fault. fault ≡ faults.NoMemory) → (clone : ℕ) → result_err r ≡ Some (faults.Device clone) → X
want_unfailed (Ok value) memory clone is = done_unfailed clone is
want_unfailed (Err fault) memory clone is = short_unfailed clone (ap (λ (f : WorldFault). Some f) (sym memory) ∙ is)

uncalled_unfailed : (doing : WorkOnBanks) (state : RunningClone) (ended : Option WorldFault) → EndsUncalled doing state ended → (clone : ℕ) → ended ≢ Some (faults.Device clone)
uncalled_unfailed doing state None uncalled clone is = done_unfailed clone is
uncalled_unfailed doing state (Some faults.NoMemory) uncalled clone is = short_unfailed clone is
uncalled_unfailed doing state (Some (faults.Device other)) uncalled clone is = absurd uncalled

-- ---- a command that makes no call

-- said of the end of a command of which this is a part
none_told : {B : Type 0} (was now : B) (part ended : Option WorldFault) → FailsAsPart part ended → CallsNone was now part → CallsNone was now ended
none_told was now part ended fails none = record { same = none.same; unfailed = λ clone is. none.unfailed clone (fails clone is) }

-- what may be done on banks by none but an opening
opens_so : (messages : List Message) (task : CrashTask) → (doing_task messages task).opens → IsToOpen task
opens_so messages (tasks.Open number) may = tt
opens_so messages (tasks.Add number triple) may = absurd may
opens_so messages (tasks.Remove number triple) may = absurd may
opens_so messages (tasks.Update number plan) may = absurd may
opens_so messages (tasks.Deliver message number) may = absurd may
opens_so messages (tasks.Compact number) may = absurd may
opens_so messages (tasks.Truncate number keep) may = absurd may

module _ {B : Type 0} (log : B → Option Log) (meter : B → Meter) where
  -- the clone isn't armed for the command of a crash line
  unarmed_none : (messages : List Message) (task : CrashTask) (was now : BankedState B) (ended : Option WorldFault) → ¬ IsArmedIn was task
      → LeavesState log meter (doing_task messages task) ended was now → CallsNone (banks_of_state was) (banks_of_state now) ended
  unarmed_none messages task was now ended unarmed (leaves_same same uncalled) = record {
    same = same;
    unfailed = uncalled_unfailed (doing_task messages task) (in_memory was) ended uncalled;
  }
  unarmed_none messages task (states.Live old) (states.Live new) ended unarmed (leaves_live steps some made went fronts) = absurd (unarmed tt)
  unarmed_none messages task (states.Asking old) now ended unarmed (leaves_made leaf takes went made) = absurd (unarmed tt)
  unarmed_none messages task (states.Down old) now ended unarmed (leaves_opened may went more) = absurd (unarmed (opens_so messages task may))

  -- the command does nothing on banks
  nothing_none : (was now : BankedState B) (ended : Option WorldFault) → LeavesState log meter doing_nothing ended was now → CallsNone (banks_of_state was) (banks_of_state now) ended
  nothing_none was now ended (leaves_same same uncalled) = record { same = same; unfailed = uncalled_unfailed doing_nothing (in_memory was) ended uncalled }
  nothing_none (states.Live old) (states.Live new) ended (leaves_live steps some made went fronts) = absurd made
  nothing_none (states.Asking old) now ended (leaves_made leaf takes went made) = absurd takes
  nothing_none (states.Down old) now ended (leaves_opened may went more) = absurd may

-- ---- a command that makes some

-- a clone that is down is so in the model
down_clone : (world : World) (number : ℕ) (clone : Clone) → CloneStandsFor world number (states.Down tt) clone → IsDownClone clone
down_clone world number model.Empty stands = tt
down_clone world number (model.Down stored) stands = tt
down_clone world number model.Absent stands = absurd stands
down_clone world number model.Asking stands = absurd stands
down_clone world number (model.Live stored held) stands = absurd stands

module _ {B : Type 0} (log : B → Option Log) (meter : B → Meter) (task : CrashTask) (running : BankedWorld B) (world : World) (stands : StandsOnBanks log running world) (sound : IsSound world)
    (messages : List Message) (are : running.messages ≡ map message_value messages) where
  -- changes of the banks carry as many durable steps
  carried_needs : (reading : PairReading) (step : KeptStep) (steps : List KeptStep) → CarriedDeed world (command_of task) (number_of_task task) reading (step ∷ steps)
      → NeedsDevice world (command_of task)
  carried_needs reading step steps carried = has_durable_steps carried.deed (λ none.
      subst (λ (durable : List DurableStep). Carries (owner_at world (number_of_task task)) world.history reading (kept_of (clone_at world (number_of_task task))) (step ∷ steps) durable)
      none carried.carries)

  opening_needs : (one : CrashTask) → IsToOpen one → CloneStandsFor world (number_of_task one) (states.Down tt) (clone_at world (number_of_task one)) → NeedsDevice world (command_of one)
  opening_needs (tasks.Open number) opening down = opens_banks number refl (down_clone world number (clone_at world number) down)
  opening_needs (tasks.Add number triple) opening down = absurd opening
  opening_needs (tasks.Remove number triple) opening down = absurd opening
  opening_needs (tasks.Update number plan) opening down = absurd opening
  opening_needs (tasks.Deliver message number) opening down = absurd opening
  opening_needs (tasks.Compact number) opening down = absurd opening
  opening_needs (tasks.Truncate number keep) opening down = absurd opening

  pub state_uses : (was now : BankedState B) (ended : Option WorldFault) → HasState running.clones (number_of_task task) was → LeavesState log meter (doing_task messages task) ended was now
      → NeedsDevice world (command_of task) ⊎ CallsNone (banks_of_state was) (banks_of_state now) ended
  state_uses was now ended at (leaves_same same uncalled) =
      inr (record { same = same; unfailed = uncalled_unfailed (doing_task messages task) (in_memory was) ended uncalled })
  state_uses (states.Live old) (states.Live new) ended at (leaves_live [] some made went fronts) = absurd (some refl)
  state_uses (states.Live old) (states.Live new) ended at (leaves_live (step ∷ steps) some made went fronts) =
      inl (carried_needs (Keeps (kept_as sides.A old.generation old.local)) step steps
      (changes_deed (memory_of running) world stands.memory sound messages are task old.local (step ∷ steps) sides.A old.generation
      (live_at (memory_of running) world stands.memory (number_of_task task) old.local (memory_at running.clones (number_of_task task) (states.Live old) at)) made))
  state_uses (states.Asking old) now ended at (leaves_made leaf takes went made) =
      inl (carried_needs KeepsNone (Created (head_of (joined_clone old.asker leaf))) []
      (takes_deed (memory_of running) world stands.memory sound messages are task old.asker leaf
      (asking_at (memory_of running) world stands.memory (number_of_task task) old.asker (memory_at running.clones (number_of_task task) (states.Asking old) at)) takes))
  state_uses (states.Down old) now ended at (leaves_opened may went more) =
      inl (opening_needs task (opens_so messages task may)
      (stands.memory.clones (number_of_task task) (states.Down tt) (memory_at running.clones (number_of_task task) (states.Down old) at)))

-- ---- the banks of the clone

module _ {B : Type 0} (log : B → Option Log) (meter : B → Meter) (old new : Parts B) where
  -- said of banks that are these
  none_here : (number : ℕ) (was now : BankedState B) (first second : B) (part ended : Option WorldFault) → FailsAsPart part ended → HasState old.clones.items number was
      → HasState new.clones.items number now → slice_get (map banks_of_state old.clones.items) number ≡ Some first → slice_get (map banks_of_state new.clones.items) number ≡ Some second
      → CallsNone (banks_of_state was) (banks_of_state now) part → CallsNone first second ended
  none_here number was now first second part ended fails before behind had has none =
      let one : banks_of_state was ≡ first = cc (banks_at meter old.clones.items number was before, had) in
      let two : banks_of_state now ≡ second = cc (banks_at meter new.clones.items number now behind, has) in
      none_told first second part ended fails
      (subst (λ (b : B). CallsNone b second part) one (subst (λ (b : B). CallsNone (banks_of_state was) b part) two none))

  pub task_uses : (task : CrashTask) (part ended : Option WorldFault) → FailsAsPart part ended
      → LeavesAt log meter (doing_task old.messages.items task) part (number_of_task task) old.clones.items new.clones.items
      → (steps : ℕ) (world : World) → StandsOnBanks log (running_of old steps) world → IsSound world → (was now : B)
      → slice_get (map banks_of_state old.clones.items) (number_of_task task) ≡ Some was → slice_get (map banks_of_state new.clones.items) (number_of_task task) ≡ Some now
      → NeedsDevice world (command_of task) ⊎ CallsNone was now ended
  task_uses task part ended fails left steps world stands sound was now had has =
      elim (state_uses log meter task (running_of old steps) world stands sound old.messages.items refl left.was left.now part left.before left.left) [
        | inl needs ↦ inl needs
        | inr none ↦ inr (none_here (number_of_task task) left.was left.now was now part ended fails left.before left.behind had has none)
      ]

  pub nothing_uses : (number : ℕ) (part ended : Option WorldFault) → FailsAsPart part ended → LeavesAt log meter doing_nothing part number old.clones.items new.clones.items
      → (was now : B) → slice_get (map banks_of_state old.clones.items) number ≡ Some was → slice_get (map banks_of_state new.clones.items) number ≡ Some now → CallsNone was now ended
  nothing_uses number part ended fails left was now had has =
      none_here number left.was left.now was now part ended fails left.before left.behind had has (nothing_none log meter left.was left.now part left.left)

  pub same_uses : (number : ℕ) (ended : Option WorldFault) → new.clones.items ≡ old.clones.items → ((clone : ℕ) → ended ≢ Some (faults.Device clone))
      → (was now : B) → slice_get (map banks_of_state old.clones.items) number ≡ Some was → slice_get (map banks_of_state new.clones.items) number ≡ Some now → CallsNone was now ended
  same_uses number ended same unfailed was now had has = record {
    same = cc (had, subst (λ (l : List (BankedState B)). slice_get (map banks_of_state l) number ≡ Some now) same has);
    unfailed = unfailed;
  }

  -- the command by another name
  pub named_uses : (command other : Command) (ended : Option WorldFault) → command ≡ other → UsesDeviceAfter log meter old other new ended → UsesDeviceAfter log meter old command new ended
  named_uses command other ended is uses = subst (λ (c : Command). UsesDeviceAfter log meter old c new ended) (sym is) uses

  -- ---- a crash line

  -- whose end was told, or was not
  pub crash_uses : (call : ℕ) (leave : Leave) (task : CrashTask) (part ended : Option WorldFault) → FailsAsPart part ended → UsesDeviceAfter log meter old (Crash call leave task) new part
      → UsesDeviceAfter log meter old (Crash call leave task) new ended
  crash_uses call leave task part ended fails uses steps world stands sound was now had has = elim (uses steps world stands sound was now had has) [
    | inl armed ↦ inl (record { is_armed = armed.is_armed; crashes = armed.crashes; needs = λ clone is. armed.needs clone (fails clone is) })
    | inr none ↦ inr (none.0, none_told was now part ended fails none.1)
  ]

  -- whose device isn't armed
  pub unarmed_uses : (call : ℕ) (leave : Leave) (task : CrashTask) (state : BankedState B) (one : Result Reply WorldFault) (two : Result Crashed WorldFault) → IsUnarmedAs one two
      → HasState old.clones.items (number_of_task task) state → ¬ IsArmedIn state task
      → LeavesAt log meter (doing_task old.messages.items task) (result_err one) (number_of_task task) old.clones.items new.clones.items
      → UsesDeviceAfter log meter old (Crash call leave task) new (result_err two)
  unarmed_uses call leave task state one two is at unarmed left steps world stands sound was now had has =
      let number : ℕ = number_of_task task in
      let known = armed_in world number state (clone_at world number) task (stands.memory.clones number (in_memory state) (memory_at old.clones.items number state at)) in
      let same : state ≡ left.was = cc (at, left.before) in
      inr (
        λ armed. unarmed (known.1 armed),
        none_here number left.was left.now was now (result_err one) (result_err two) (unarmed_fails one two is) left.before left.behind had has
            (unarmed_none log meter old.messages.items task left.was left.now (result_err one) (subst (λ (s : BankedState B). ¬ IsArmedIn s task) same unarmed) left.left),
      )

-- the arm is lowered, and leaves as much
lowered_leaves : (calls call : ℕ) (leave : Leave) (was now : Arm) → was ≡ Armed call leave → LowersAtMost calls was now → StillLeaves leave now
lowered_leaves calls call leave was now is lowered = by now (subst (λ (a : Arm). LowersAtMost calls a now) is lowered)
  where
    by : (now : Arm) → LowersAtMost calls (Armed call leave) now → StillLeaves leave now
    by Unarmed lowered = absurd lowered
    by (Armed left other) lowered = lowered.2
    by Caught lowered = tt

state_leaves : {B : Type 0} (log : B → Option Log) (meter : B → Meter) (doing : WorkOnBanks) (call : ℕ) (leave : Leave) (was now : BankedState B) (ended : Option WorldFault)
    → (meter (banks_of_state was)).arm ≡ Armed call leave → LeavesState log meter doing ended was now → StillLeaves leave (meter (banks_of_state now)).arm
state_leaves {B = B} log meter doing call leave was now ended arm (leaves_same same uncalled) =
    subst (λ (a : Arm). StillLeaves leave a) (sym (ap (λ (b : B). (meter b).arm) same ∙ arm)) refl
state_leaves log meter doing call leave (states.Live old) (states.Live new) ended arm (leaves_live steps some made went fronts) =
    lowered_leaves _ call leave (meter old.banks).arm (meter new.banks).arm arm went.most
state_leaves log meter doing call leave (states.Asking old) now ended arm (leaves_made leaf takes went made) =
    lowered_leaves _ call leave (meter old.banks).arm (meter (banks_of_state now)).arm arm went.most
state_leaves log meter doing call leave (states.Down old) now ended arm (leaves_opened may went more) =
    lowered_leaves _ call leave (meter old).arm (meter (banks_of_state now)).arm arm went.most

-- whose device was armed
module _ {B : Type 0} (log : B → Option Log) (meter : B → Meter) (tells : (banks : B) → IsSome (log banks)) (call : ℕ) (leave : Leave) (task : CrashTask) (old mid done new : Parts B)
    (result : Result Reply WorldFault) (Told : Type 0) (r : Ran log meter call leave task old mid done new result Told) (unarmed : AreUnarmed meter (map banks_of_state old.clones.items)) where
  ran_parts : RanLeft log meter task mid new r.arms.was r.arms.now r.cut.was r.cut.now (result_err result)
  ran_parts = ran_left log meter call leave task old mid done new result Told r

  ran_arms : CrashesArmed log meter call leave (banks_of_state r.arms.was) r.cut.now
  ran_arms = record {
    ready = banks_of_state r.arms.now;
    behind = banks_of_state r.cut.was;
    arms = set_meter log meter tells call leave task old mid done new result Told r unarmed;
    nothing_else = ran_parts.log_same;
    leaves = state_leaves log meter (doing_task mid.messages.items task) call leave r.arms.now r.cut.was (result_err result)
        (set_arm log meter tells call leave task old mid done new result Told r unarmed) ran_parts.left;
    revives = r.cut.revives;
    unarmed = r.cut.meter_is;
  }

  pub ran_uses : (two : Result Crashed WorldFault) → IsEndedAs result Told two → UsesDeviceAfter log meter old (Crash call leave task) new (result_err two)
  ran_uses two is steps world stands sound was now had has =
      let number : ℕ = number_of_task task in
      let first : banks_of_state r.arms.was ≡ was = cc (banks_at meter old.clones.items number r.arms.was r.arms.becomes.was, had) in
      let second : r.cut.now ≡ now = cc (banks_at meter new.clones.items number (states.Down r.cut.now) ran_parts.has_now, has) in
      inl (record {
        is_armed = (armed_in world number r.arms.was (clone_at world number) task
            (stands.memory.clones number (in_memory r.arms.was) (memory_at old.clones.items number r.arms.was r.arms.becomes.was))).0 r.is_armed;
        crashes = subst (λ (b : B). CrashesArmed log meter call leave b now) first
            (subst (λ (b : B). CrashesArmed log meter call leave (banks_of_state r.arms.was) b) second ran_arms);
        needs = λ clone failed.
            elim (state_uses log meter task (running_of mid steps) world (mid_stands log meter call leave number old mid r.begun r.arms steps world stands) sound mid.messages.items refl
            r.arms.now r.cut.was (result_err result) ran_parts.has_mid ran_parts.left) [
              | inl needs ↦ needs
              | inr none ↦ absurd (none.unfailed clone (ended_fails result Told two is clone failed))
            ];
      })

-- ---- what is told of a step

-- the device failed, so the command needs it
pub device_needs : {B : Type 0} (log : B → Option Log) (meter : B → Meter) (world : World) (command : Command) (was now : B) (number : ℕ)
    → UsesDevice log meter world command was now (Some (faults.Device number)) → NeedsDevice world (command_done command)
device_needs log meter world (Crash call leave task) was now number uses = elim uses [
  | inl armed ↦ armed.needs number refl
  | inr none ↦ absurd (none.1.unfailed number refl)
]
device_needs log meter world command was now number uses = elim uses [
  | inl needs ↦ needs
  | inr none ↦ absurd (none.unfailed number refl)
]
