-- Clones with their banks: where one of them changes, what the others keep, and the model's step.
use Rattle.std.proofs.Common.{◌≡◌, ◌≢◌, ℕ, ◌+◌, List, Option, Some, None, MatchOption, Result, Ok, Err, IfErr, refl, sym, ◌∙◌, ap, arith, subst, map, set, option_map, inl, inr}
use Rattle.std.specs.Prelude.{slice_get}
use Rattle.std.proofs.lemmas.Bool.{cases_eq}
use Rattle.std.proofs.lemmas.List.{map-set, length-set}
use Rattle.std.proofs.lemmas.Option.{slice_get-map}
use Rattle.mld_io.specs.Arm.{Arm, Meter, Metered, LowersAtMost}
use Rattle.mld_io.specs.Disk.{Log}
use Rattle.crash_laws.specs.journal_store.declared.faults.MakeFault.{MakeFault}
use Rattle.crash_laws.specs.journal_store.declared.faults.MakeFault.TheVariants as make
use Rattle.mld_model.specs.declared.CloneState.TheVariants as states
use Rattle.mld_model.specs.Clone.{Clone, Stored, kept_of}
use Rattle.mld_model.specs.Clone as model
use Rattle.mld_model.specs.CloneStep.{Answers, ByState, Takes}
use Rattle.mld_model.specs.Local.{LocalStored}
use Rattle.mld_model.specs.Reply.{Reply, NoMessage}
use Rattle.mld_model.specs.Sound.{Keeps, IsSound}
use Rattle.mld_model.specs.StandsFor.{StoredStandsFor, CloneStandsFor}
use Rattle.mld_model.specs.World.{World, Message, clone_at, message_at}
use Rattle.crash_laws.specs.clone_core.Banked.{BankedClone}
use Rattle.crash_laws.specs.clone_core.CloneClosing.{StaysOpen}
use Rattle.crash_laws.specs.schedule_model.declared.Command.{Command}
use Rattle.crash_laws.specs.schedule_model.declared.Command.TheVariants.{Add, Remove, Update, Deliver, Show, Query, Compare, Join, Ask, Compact, Truncate, Stop, Open, Crash}
use Rattle.crash_laws.specs.schedule_model.Step.{Step, number_of_clone}
use Rattle.crash_laws.specs.schedule_model.WorldStep.{Follows}
use Rattle.crash_laws.proofs.of_schedule_model.ChangesLaws.{step_keeps_domain, step_keeps_others, kept_still_stands}
use Rattle.world_commands.specs.declared.faults.WorldFault.{WorldFault}
use Rattle.world_commands.specs.declared.faults.WorldFault.TheVariants as faults
use Rattle.world_commands.specs.States.{HasState, Becomes}
use Rattle.world_commands.specs.WorldBanks.{BankedState, BankedWorld, in_memory, banks_of_state, memory_of, KeepsNoneNow, KeepsStored, BanksStandFor, IsReached, IsDownOn, IsOpenAt, IsBacked, StandsOnBanks, MeterGoesOn, MetersGoOn, HadNoFault, HadNoFaults, HadFault, HasFailed, HasFaultsFor}
use Rattle.world_commands.specs.OneCall.{FailsAt, HasFaultsAt, UsesBanksOf, StaysOpenNext, IsNextGeneration, is_first, is_next, IsOpenNext, IsCarried, IsCarriedAt}
use Rattle.world_commands.specs.WorldFaults.{fault_of_made}
use Rattle.world_commands.specs.Worlds.{Moves, MovesOnBanks}
use Rattle.world_commands.proofs.Places.{here_at, other_at, elsewhere_at, set_here}

-- ---- what clones have in memory

module _ {B : Type 0} where
  pub memory_at : (clones : List (BankedState B)) (number : ℕ) (state : BankedState B) → HasState clones number state → HasState (map in_memory clones) number (in_memory state)
  memory_at clones number state at = slice_get-map in_memory clones number ∙ ap (λ (o : Option (BankedState B)). option_map in_memory o) at

  pub memory_set : (clones : List (BankedState B)) (number : ℕ) (state : BankedState B) → map in_memory (set clones number state) ≡ set (map in_memory clones) number (in_memory state)
  memory_set clones number state = map-set in_memory clones number state

  pub memory_becomes : (old new : List (BankedState B)) (number : ℕ) (before after : BankedState B) → Becomes old new number before after
      → Becomes (map in_memory old) (map in_memory new) number (in_memory before) (in_memory after)
  memory_becomes old new number before after becomes = record {
    was = memory_at old number before becomes.was;
    now = ap (λ (l : List (BankedState B)). map in_memory l) becomes.now ∙ memory_set old number after;
  }

-- ---- meters

-- banks that were not used
pub goes_on_same : (meter : Meter) → MeterGoesOn meter meter
goes_on_same meter = record { later = omega arith; unarmed = λ is. is; caught = λ is. is }

-- banks that were used
pub goes_on : (calls : ℕ) (before now : Meter) (Done Failed : Type 0) → Metered calls before now Done Failed → MeterGoesOn before now
goes_on calls before now Done Failed metered = record {
  later = metered.real_later;
  unarmed = λ is. subst (λ (a : Arm). LowersAtMost calls a now.arm) is metered.lowered;
  caught = λ is. subst (λ (a : Arm). LowersAtMost calls a now.arm) is metered.lowered;
}

-- what wasn't told to have failed had no real fault
pub quiet_metered : (calls : ℕ) (before now : Meter) (Done Failed : Type 0) → Metered calls before now Done Failed → ¬ Failed → HadNoFault before now
quiet_metered calls before now Done Failed metered none = (metered.quiet none).1

-- where the banks had no fault, and memory ran out at most
pub memory_at_one : {T : Type 0} (number : ℕ) (before now : Meter) (r : Result T WorldFault) → HadNoFault before now → IfErr r (λ fault. fault ≡ faults.NoMemory)
    → HasFaultsAt number before now r
memory_at_one number before now (Ok reply) quiet none = quiet
memory_at_one number before now (Err fault) quiet none = subst (FailsAt number before now) (sym none) quiet

-- the fault of a clone that could not be made is one of its banks
pub faults_made : (number calls : ℕ) (before now : Meter) (Done : Type 0) (fault : MakeFault) → Metered calls before now Done (fault ≡ make.Device)
    → FailsAt number before now (fault_of_made number fault)
faults_made number calls before now Done make.Device metered = (refl, metered.cause refl)
faults_made number calls before now Done make.NoMemory metered = quiet_metered calls before now Done (make.NoMemory ≡ make.Device) metered (λ fails. absurd (cc fails))

module _ {B : Type 0} (meter : B → Meter) where
  -- banks of which those of one clone were used
  banks_set : (old : List B) (number : ℕ) (was now : B) → slice_get old number ≡ Some was → MeterGoesOn (meter was) (meter now) → MetersGoOn meter old (set old number now)
  banks_set old number was now at on = record {
    count = length-set old number now;
    each = λ other before after had has. elim (cases_eq other number) [
      | inl same ↦
          let first : was ≡ before = cc (at, subst (λ (k : ℕ). slice_get old k ≡ Some before) same had) in
          let second : now ≡ after = here_at old number now after (subst (λ (k : ℕ). slice_get (set old number now) k ≡ Some after) same has) in
          subst (λ (b : B). MeterGoesOn (meter b) (meter after)) first (subst (λ (b : B). MeterGoesOn (meter was) (meter b)) second on)
      | inr differs ↦
          let kept : before ≡ after = cc (had, other_at old number other now after differs has) in
          subst (λ (b : B). MeterGoesOn (meter before) (meter b)) kept (goes_on_same (meter before))
    ];
  }

  pub banks_at : (clones : List (BankedState B)) (number : ℕ) (state : BankedState B) → HasState clones number state → slice_get (map banks_of_state clones) number ≡ Some (banks_of_state state)
  banks_at clones number state at = slice_get-map banks_of_state clones number ∙ ap (λ (o : Option (BankedState B)). option_map banks_of_state o) at

  -- the banks of clones of which one changed
  banks_become : (old new : List (BankedState B)) (number : ℕ) (after : BankedState B) → new ≡ set old number after
      → map banks_of_state new ≡ set (map banks_of_state old) number (banks_of_state after)
  banks_become old new number after now = ap (λ (l : List (BankedState B)). map banks_of_state l) now ∙ map-set banks_of_state old number after

  -- clones as they were
  pub meters_same : (clones : List (BankedState B)) → MetersGoOn meter (map banks_of_state clones) (map banks_of_state clones)
  meters_same clones = record {
    count = refl;
    each = λ other before after had has. subst (λ (b : B). MeterGoesOn (meter before) (meter b)) (cc (had, has)) (goes_on_same (meter before));
  }

  -- clones of which one changed
  pub meters_set : (old new : List (BankedState B)) (number : ℕ) (before after : BankedState B) → Becomes old new number before after
      → MeterGoesOn (meter (banks_of_state before)) (meter (banks_of_state after)) → MetersGoOn meter (map banks_of_state old) (map banks_of_state new)
  meters_set old new number before after becomes on =
      subst (λ (l : List B). MetersGoOn meter (map banks_of_state old) l) (sym (banks_become old new number after becomes.now))
      (banks_set (map banks_of_state old) number (banks_of_state before) (banks_of_state after) (banks_at old number before becomes.was) on)

  -- no banks of other clones were used
  pub uses_same : (clones : List (BankedState B)) (number : ℕ) → UsesBanksOf meter number (map banks_of_state clones) (map banks_of_state clones)
  uses_same clones number = record { meters = meters_same clones; others = λ other differs. refl }

  pub uses_set : (old new : List (BankedState B)) (number : ℕ) (before after : BankedState B) → Becomes old new number before after
      → MeterGoesOn (meter (banks_of_state before)) (meter (banks_of_state after)) → UsesBanksOf meter number (map banks_of_state old) (map banks_of_state new)
  uses_set old new number before after becomes on = record {
    meters = meters_set old new number before after becomes on;
    others = λ other differs.
        subst (λ (l : List B). slice_get l other ≡ slice_get (map banks_of_state old) other) (sym (banks_become old new number after becomes.now))
        (elsewhere_at (map banks_of_state old) number other (banks_of_state after) differs);
  }

  -- ---- faults

  quiet_kept : (before after : B) → before ≡ after → HadNoFault (meter before) (meter after)
  quiet_kept before after same = ap (λ (b : B). (meter b).real_faults) (sym same)

  quiet_set : (old : List B) (number : ℕ) (was now : B) → slice_get old number ≡ Some was → HadNoFault (meter was) (meter now) → HadNoFaults meter old (set old number now)
  quiet_set old number was now at quiet other before after had has = elim (cases_eq other number) [
    | inl same ↦
        let first : was ≡ before = cc (at, subst (λ (k : ℕ). slice_get old k ≡ Some before) same had) in
        let second : now ≡ after = here_at old number now after (subst (λ (k : ℕ). slice_get (set old number now) k ≡ Some after) same has) in
        subst (λ (b : B). HadNoFault (meter b) (meter after)) first (subst (λ (b : B). HadNoFault (meter was) (meter b)) second quiet)
    | inr differs ↦ quiet_kept before after (cc (had, other_at old number other now after differs has))
  ]

  failed_set : (old : List B) (number : ℕ) (was now : B) → slice_get old number ≡ Some was → HadFault (meter was) (meter now)
      → HasFailed meter number old (set old number now)
  failed_set old number was now at fault = record {
    was = was;
    now = now;
    before = at;
    behind = set_here old number was now at;
    fault = fault;
    others = λ other one two differs had has. quiet_kept one two (cc (had, other_at old number other now two differs has));
  }

  -- where the banks of one clone were used
  faults_at : {T : Type 0} (old : List B) (number : ℕ) (was now : B) (r : Result T WorldFault) → slice_get old number ≡ Some was → HasFaultsAt number (meter was) (meter now) r
      → HasFaultsFor number meter old (set old number now) r
  faults_at old number was now (Ok reply) at by = quiet_set old number was now at by
  faults_at old number was now (Err faults.NoMemory) at by = quiet_set old number was now at by
  faults_at old number was now (Err (faults.Device clone)) at by = (by.0, failed_set old number was now at by.1)

  pub faults_set : {T : Type 0} (old new : List (BankedState B)) (number : ℕ) (before after : BankedState B) (r : Result T WorldFault) → Becomes old new number before after
      → HasFaultsAt number (meter (banks_of_state before)) (meter (banks_of_state after)) r → HasFaultsFor number meter (map banks_of_state old) (map banks_of_state new) r
  faults_set old new number before after r becomes by =
      subst (λ (l : List B). HasFaultsFor number meter (map banks_of_state old) l r) (sym (banks_become old new number after becomes.now))
      (faults_at (map banks_of_state old) number (banks_of_state before) (banks_of_state after) r (banks_at old number before becomes.was) by)

  pub quiet_becomes : (old new : List (BankedState B)) (number : ℕ) (before after : BankedState B) → Becomes old new number before after
      → HadNoFault (meter (banks_of_state before)) (meter (banks_of_state after)) → HadNoFaults meter (map banks_of_state old) (map banks_of_state new)
  quiet_becomes old new number before after becomes quiet =
      subst (λ (l : List B). HadNoFaults meter (map banks_of_state old) l) (sym (banks_become old new number after becomes.now))
      (quiet_set (map banks_of_state old) number (banks_of_state before) (banks_of_state after) (banks_at old number before becomes.was) quiet)

  -- where the banks are the same
  pub quiet_same : (banks : List B) → HadNoFaults meter banks banks
  quiet_same banks number before after had has = quiet_kept before after (cc (had, has))

  pub quiet_still : (old new : List (BankedState B)) → new ≡ old → HadNoFaults meter (map banks_of_state old) (map banks_of_state new)
  quiet_still old new same =
      subst (λ (l : List (BankedState B)). HadNoFaults meter (map banks_of_state old) (map banks_of_state l)) (sym same) (quiet_same (map banks_of_state old))

  -- want of memory is none of them
  pub faults_memory : {T : Type 0} (number : ℕ) (old new : List B) (r : Result T WorldFault) → HadNoFaults meter old new → IfErr r (λ fault. fault ≡ faults.NoMemory)
      → HasFaultsFor number meter old new r
  faults_memory number old new (Ok reply) quiet none = quiet
  faults_memory {T = T} number old new (Err fault) quiet none = subst (λ (f : WorldFault). HasFaultsFor {T = T} number meter old new (Err f)) (sym none) quiet

-- ---- what banks stand for after a step

-- of a clone that keeps the same
stands_by : (world next : World) (number : ℕ) (now : Option Log) (kept : Option Stored) → next.domain ≡ world.domain → next.properties ≡ world.properties
    → ((stored : Stored) (running : LocalStored) → kept ≡ Some stored → StoredStandsFor world.history running stored → StoredStandsFor next.history running stored)
    → MatchOption kept (KeepsNoneNow now) (λ stored. KeepsStored world number stored now) → MatchOption kept (KeepsNoneNow now) (λ stored. KeepsStored next number stored now)
stands_by world next number now None domain properties still h = h
stands_by world next number now (Some stored) domain properties still h = record {
  log = h.log;
  now_is = h.now_is;
  kept = h.kept;
  keeps = h.keeps;
  id = h.id;
  domain = h.domain ∙ sym domain;
  properties = h.properties ∙ sym properties;
  stands = still stored _ refl h.stands;
}

-- a clone that keeps this
keeps_from : (clone : Clone) (stored : Stored) → kept_of clone ≡ Some stored → Keeps clone stored
keeps_from clone stored kept = subst (λ (o : Option Stored). MatchOption o ⊥ (λ s. s ≡ stored)) (sym kept) refl

-- where a command opens no banks, a clone that is down answers by its state
abbrev pub StaysShut : Command → Type 0
StaysShut (Open number) = ⊥
StaysShut (Crash call leave task) = ⊥
StaysShut command = Unit {0}

down_by : (world : World) (number : ℕ) (clone : Clone) (away asking down : Type 0) (live : Stored → List _ → Type 0)
    → CloneStandsFor world number (states.Down tt) clone → ByState clone away asking down live → down
down_by world number model.Empty away asking down live stands h = h
down_by world number (model.Down stored) away asking down live stands h = h
down_by world number clone away asking down live stands h = absurd stands

-- one that is absent or down takes no message
down_takes : (world next : World) (number : ℕ) (reply : Reply) (sent : Option Message) (clone : Clone) → CloneStandsFor world number (states.Down tt) clone
    → MatchOption sent (Answers world NoMessage reply next) (λ message. Takes world number message clone reply next) → next ≡ world
down_takes world next number reply None clone stands h = h.1
down_takes world next number reply (Some message) clone stands h = (down_by world number clone _ _ _ _ stands h).1

down_stays : (world next : World) (command : Command) (reply : Reply) → StaysShut command
    → CloneStandsFor world (number_of_clone command) (states.Down tt) (clone_at world (number_of_clone command)) → Step world command reply next → next ≡ world
unfolding Step
down_stays world next (Add number triple) reply shut stands step = (down_by world number (clone_at world number) _ _ _ _ stands step).1
down_stays world next (Remove number triple) reply shut stands step = (down_by world number (clone_at world number) _ _ _ _ stands step).1
down_stays world next (Update number plan) reply shut stands step = (down_by world number (clone_at world number) _ _ _ _ stands step).1
down_stays world next (Deliver message number) reply shut stands step = down_takes world next number reply (message_at world message) (clone_at world number) stands step
down_stays world next (Show number) reply shut stands step = (down_by world number (clone_at world number) _ _ _ _ stands step).1
down_stays world next (Query number read) reply shut stands step = (down_by world number (clone_at world number) _ _ _ _ stands step).1
down_stays world next (Join number) reply shut stands step = (down_by world number (clone_at world number) _ _ _ _ stands step).1
down_stays world next (Ask number) reply shut stands step = (down_by world number (clone_at world number) _ _ _ _ stands step).1
down_stays world next (Compact number) reply shut stands step = (down_by world number (clone_at world number) _ _ _ _ stands step).1
down_stays world next (Truncate number keep) reply shut stands step = (down_by world number (clone_at world number) _ _ _ _ stands step).1
down_stays world next (Stop number) reply shut stands step = (down_by world number (clone_at world number) _ _ _ _ stands step).1
down_stays world next (Open number) reply shut stands step = absurd shut
down_stays world next (Compare number other) reply shut stands step = (down_by world number (clone_at world number) _ _ _ _ stands step).1
down_stays world next (Crash call leave task) reply shut stands step = absurd shut

-- ---- steps of a world on banks

-- a live clone that stayed open keeps its generation
pub stays_next : {B : Type 0} (old : List (BankedState B)) (number : ℕ) (was now : BankedClone B) → HasState old number (states.Live was) → StaysOpen was now → IsOpenNext old number now
stays_next old number was now at stays = record { opened = stays.opened; next = is_next was at (omega (arith, stays.generation)) }

-- one that stayed open has its generation or the next one
pub next_open : {B : Type 0} (old : List (BankedState B)) (number : ℕ) (was now : BankedClone B) → HasState old number (states.Live was) → StaysOpenNext was now → IsOpenNext old number now
next_open old number was now at stays = record { opened = stays.opened; next = is_next was at stays.next }

module _ {B : Type 0} (log : B → Option Log) (old new : BankedWorld B) (command : Command) (reply : Reply) (later : new.steps ≡ old.steps + 1) where
  -- what was known of a live clone, and of one that is down
  open_still : (clone : BankedClone B) → IsOpenAt old.steps clone → IsOpenAt new.steps clone
  open_still clone backed = record { opened = backed.opened; reached = omega (arith, later, backed.reached) }

  down_still : (world next : World) (number : ℕ) (now : Option Log) → IsDownOn world old.steps number now → BanksStandFor next number now → IsDownOn next new.steps number now
  down_still world next number now backed stands =
      record { stands = stands; reached = λ told kept is keeps. omega (arith, later, backed.reached told kept is keeps) }

  -- what is known of a clone that keeps the same
  still_backed : (world next : World) (number : ℕ) (state : BankedState B) → IsSound world → Step world command reply next → clone_at next number ≡ clone_at world number
      → IsBacked log world old.steps number state → IsBacked log next new.steps number state
  still_backed world next number (states.Absent banks) sound step same backed = tt
  still_backed world next number (states.Asking asking) sound step same backed = tt
  still_backed world next number (states.Live clone) sound step same backed = open_still clone backed
  still_backed world next number (states.Down banks) sound step same backed =
      let keeps : (next.domain ≡ world.domain) × (next.properties ≡ world.properties) = step_keeps_domain world command reply next step in
      down_still world next number (log banks) backed
      (subst (λ (c : Clone). MatchOption (kept_of c) (KeepsNoneNow (log banks)) (λ stored. KeepsStored next number stored (log banks))) (sym same)
      (stands_by world next number (log banks) (kept_of (clone_at world number)) keeps.0 keeps.1
      (λ stored running kept. kept_still_stands world command reply next sound step number stored (keeps_from (clone_at world number) stored kept) running) backed.stands))

  -- what is known of a clone that the command doesn't say of
  pub other_backed : (world next : World) → StandsOnBanks log old world → IsSound world → Step world command reply next → (number : ℕ) (state : BankedState B)
      → number ≢ number_of_clone command → HasState old.clones number state → IsBacked log next new.steps number state
  other_backed world next stands sound step number state differs at =
      still_backed world next number state sound step (step_keeps_others world command reply next step number differs) (stands.backed number state at)

  -- and of the clone that it says of, where that is in the state in which it was
  here_backed : (world next : World) → StandsOnBanks log old world → Step world command reply next → StaysShut command → (state : BankedState B)
      → HasState old.clones (number_of_clone command) state → IsBacked log next new.steps (number_of_clone command) state
  here_backed world next stands step shut (states.Absent banks) at = tt
  here_backed world next stands step shut (states.Asking asking) at = tt
  here_backed world next stands step shut (states.Live clone) at = open_still clone (stands.backed (number_of_clone command) (states.Live clone) at)
  here_backed world next stands step shut (states.Down banks) at =
      let number : ℕ = number_of_clone command in
      let down : CloneStandsFor world number (states.Down tt) (clone_at world number) =
      stands.memory.clones number (states.Down tt) (memory_at old.clones number (states.Down banks) at) in
      let backed : IsDownOn world old.steps number (log banks) = stands.backed number (states.Down banks) at in
      down_still world next number (log banks) backed
      (subst (λ (w : World). BanksStandFor w number (log banks)) (sym (down_stays world next command reply shut down step)) backed.stands)

  -- the clone that the command says of is in another state
  pub moves_at : (after : BankedState B) → ((world : World) → StandsOnBanks log old world → IsSound world → Follows world command reply (memory_of new)) → new.clones ≡ set old.clones (number_of_clone command) after
      → ((world next : World) → StandsOnBanks log old world → IsSound world → Step world command reply next → IsBacked log next new.steps (number_of_clone command) after)
      → MovesOnBanks log old command reply new
  moves_at after moves same backs world stands sound =
      let here : ℕ = number_of_clone command in
      let f : Follows world command reply (memory_of new) = moves world stands sound in
      record {
        next = f.next;
        steps = f.steps;
        sound = f.sound;
        stands = record {
          memory = f.stands;
          backed = λ number state is.
              let at : HasState (set old.clones here after) number state = subst (λ (l : List (BankedState B)). HasState l number state) same is in
              elim (cases_eq number here) [
                | inl equal ↦
                    let now : after ≡ state = here_at old.clones here after state (subst (λ (k : ℕ). HasState (set old.clones here after) k state) equal at) in
                    subst (λ (k : ℕ). IsBacked log f.next new.steps k state) (sym equal)
                    (subst (λ (s : BankedState B). IsBacked log f.next new.steps here s) now (backs world f.next stands sound f.steps))
                | inr differs ↦ other_backed world f.next stands sound f.steps number state differs (other_at old.clones here number after state differs at)
              ];
        };
      }

  -- no clone is in another state
  pub moves_still : Moves (memory_of old) command reply (memory_of new) → new.clones ≡ old.clones → StaysShut command → MovesOnBanks log old command reply new
  moves_still moves same shut world stands sound =
      let f : Follows world command reply (memory_of new) = moves world stands.memory sound in
      record {
        next = f.next;
        steps = f.steps;
        sound = f.sound;
        stands = record {
          memory = f.stands;
          backed = λ number state is.
              let at : HasState old.clones number state = subst (λ (l : List (BankedState B)). HasState l number state) same is in
              elim (cases_eq number (number_of_clone command)) [
                | inl equal ↦
                    subst (λ (k : ℕ). IsBacked log f.next new.steps k state) (sym equal)
                    (here_backed world f.next stands f.steps shut state (subst (λ (k : ℕ). HasState old.clones k state) equal at))
                | inr differs ↦ other_backed world f.next stands sound f.steps number state differs at
              ];
        };
      }

  -- the generation of a live clone that may be carried
  next_reached : (world : World) → StandsOnBanks log old world → (number generation : ℕ) → IsNextGeneration old.clones number generation → IsReached new.steps generation
  next_reached world stands number generation (is_first one) = omega (arith, one, later)
  next_reached world stands number generation (is_next was at most) =
      let backed : IsOpenAt old.steps was = stands.backed number (states.Live was) at in
      omega (arith, later, most, backed.reached)

  -- the clone's state is one that may be carried
  carried_backed : StaysShut command → (state : BankedState B) → IsCarried old.clones (number_of_clone command) state
      → (world next : World) → StandsOnBanks log old world → IsSound world → Step world command reply next → IsBacked log next new.steps (number_of_clone command) state
  carried_backed shut (states.Absent banks) carried world next stands sound step = tt
  carried_backed shut (states.Asking asking) carried world next stands sound step = tt
  carried_backed shut (states.Live clone) carried world next stands sound step =
      record { opened = carried.opened; reached = next_reached world stands (number_of_clone command) clone.generation carried.next }
  carried_backed shut (states.Down banks) carried world next stands sound step = here_backed world next stands step shut (states.Down banks) carried

  pub moves_carried : Moves (memory_of old) command reply (memory_of new) → StaysShut command → IsCarriedAt old.clones new.clones (number_of_clone command)
      → MovesOnBanks log old command reply new
  moves_carried moves shut at = moves_at at.state (λ world stands sound. moves world stands.memory sound) at.now (carried_backed shut at.state at.carried)
