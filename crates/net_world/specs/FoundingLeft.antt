-- What is left of the banks where founding is refused. Of its durable steps all before the one that was under way stand in whatever a crash
-- leaves, that one may, and no later one does. `World::found` cites it.
use Rattle.std.specs.Prelude.{◌≡◌, ◌⊎◌, ℕ, List, [], ◌∷◌, ◌++◌, Option, Some, None, slice_get}
use Rattle.mld_io.specs.Arm.{Meter}
use Rattle.mld_io.specs.Disk.{Log, Sides, LeavesOnly}
use Rattle.clone_core.specs.journal_sides.Pairs.{read_banks}
use Rattle.mld_ops.specs.Messages.{GiveValue}
use Rattle.mld_model.specs.Durable.{kept_after}
use Rattle.mld_model.specs.FoundingSteps.{StepAt, founding_steps, steps_at}
use Rattle.mld_model.specs.Local.{LocallyForks, joined_clone}
use Rattle.mld_model.specs.World.{World, founded}
use Rattle.mld_model.specs.declared.CloneState.TheVariants as states
use Rattle.schedule_text.specs.schedule_model.Schedule.{Setup}
use Rattle.schedule_text.specs.schedule_model.Runs.{IsFoundedBy}
use Rattle.clone_core.specs.clone_parts.KeptSteps.{Forked, LeavesMade}
use Rattle.clone_core.specs.Banked.{BankedAsker, BankedClone, head_of}
use Rattle.clone_core.specs.CloneClosing.{StaysOpen}
use Rattle.clone_core.specs.DurableCalls.{LeavesFronts}
use Rattle.world_commands.specs.crash_laws.CarriedSteps.{owner_at, StandsRead}
use Rattle.world_commands.specs.declared.faults.WorldFault.{WorldFault}
use Rattle.world_commands.specs.declared.faults.WorldFault.TheVariants as faults
use Rattle.world_commands.specs.States.{HasState}
use Rattle.world_commands.specs.WorldBanks.{BankedState, banks_of_state}
use Rattle.world_commands.specs.WorldEnds.{KeepsState}

-- what sides read to stands for what the clone of the number keeps after these steps of founding a world
abbrev pub StandsFoundedBy : World → List StepAt → ℕ → Sides → Type 0
StandsFoundedBy world steps number image = StandsRead (owner_at world number) world.history (read_banks image) (kept_after None (steps_at number steps))

-- so it does where a step is under way behind these, which may stand too
abbrev pub StandsAmid : World → List StepAt → StepAt → ℕ → Sides → Type 0
StandsAmid world front next number image = StandsFoundedBy world front number image ⊎ StandsFoundedBy world (front ++ next ∷ []) number image

-- a step of founding so many clones, which is one of the clone of this number, and the steps before it
pub record FoundingStop (count clone : ℕ) : Type 0 where
  pub front : List StepAt
  pub next : StepAt
  pub rest : List StepAt
  pub whole : front ++ next ∷ rest ≡ founding_steps count
  pub names : next.number ≡ clone

-- founding a world of so many clones was stopped in such a step: each pair of sides that a crash may leave of the banks of a number stands so
pub record LeavesAmid {B : Type 0} (log : B → Option Log) (world : World) (count clone : ℕ) (banks : List B) : Type 0 where
  pub stop : FoundingStop count clone
  pub each : (number : ℕ) (one : B) (l : Log) → slice_get banks number ≡ Some one → log one ≡ Some l → LeavesOnly l (StandsAmid world stop.front stop.next number)

-- founding with a setup was: the world is the one that would have been founded
pub record LeavesFounding {B : Type 0} (log : B → Option Log) (setup : Setup) (clone : ℕ) (banks : List B) : Type 0 where
  pub world : World
  pub founds : IsFoundedBy setup world
  pub amid : LeavesAmid log world setup.count clone banks

-- what a refused founding leaves of the banks that are given back: a device stops it in a step of its clone, and for want of memory there
-- are none
abbrev pub LeavesFounded : {B : Type 0} → (B → Option Log) → Setup → WorldFault → List B → Type 0
LeavesFounded log setup (faults.Device clone) banks = LeavesFounding log setup clone banks
LeavesFounded log setup faults.NoMemory banks = banks ≡ []

-- ---- the parts of founding

-- so it is of a world whose name and properties are kept
abbrev pub LeavesKept : {B : Type 0} → (B → Option Log) → Setup → WorldFault → List B → Type 0
LeavesKept log setup (faults.Device clone) banks = LeavesAmid log (founded setup.domain setup.properties setup.count) setup.count clone banks
LeavesKept log setup faults.NoMemory banks = banks ≡ []

-- founding was stopped in a step of the clone of the number: what a crash may leave of the banks of each clone stands so, where they keep
-- what is known of its state
pub record StopsFounding {B : Type 0} (log : B → Option Log) (setup : Setup) (clone : ℕ) (clones : List (BankedState B)) : Type 0 where
  pub stop : FoundingStop setup.count clone
  pub each : (place : ℕ) (state : BankedState B) (l : Log) → HasState clones place state → KeepsState log state → log (banks_of_state state) ≡ Some l
      → LeavesOnly l (StandsAmid (founded setup.domain setup.properties setup.count) stop.front stop.next place)

-- and by the fault: nothing is said where memory ran out, after which no banks are given back
abbrev pub StopsFoundingBy : {B : Type 0} → (B → Option Log) → Setup → List (BankedState B) → WorldFault → Type 0
StopsFoundingBy log setup clones (faults.Device clone) = StopsFounding log setup clone clones
StopsFoundingBy log setup clones faults.NoMemory = Unit {0}

-- the first clone was stopped while it forked its leaf
abbrev pub StopsGiving : {B : Type 0} → (B → Option Log) → (B → Meter) → BankedClone B → B → WorldFault → Type 0
StopsGiving log meter was now (faults.Device clone) = (clone ≡ 0) × LeavesFronts log meter (Forked ∷ []) was now
StopsGiving log meter was now faults.NoMemory = Unit {0}

-- the clone of the number, which asked, was stopped while it was made at the leaf
abbrev pub StopsTaking : {B : Type 0} → (B → Option Log) → (B → Meter) → ℕ → BankedAsker B → GiveValue → B → WorldFault → Type 0
StopsTaking log meter number asking leaf now (faults.Device clone) = (clone ≡ number) × LeavesMade log meter (head_of (joined_clone asking.asker leaf)) asking.banks now
StopsTaking log meter number asking leaf now faults.NoMemory = Unit {0}

-- the first clone has forked its leaf for the one who asked, and stays open, and that one was stopped while it was made
pub record StopsMaking {B : Type 0} (log : B → Option Log) (meter : B → Meter) (asking : BankedAsker B) (was now : BankedClone B) (state : BankedState B) : Type 0 where
  pub leaf : GiveValue
  pub forks : LocallyForks was.local asking.asker.id now.local leaf
  pub opened : StaysOpen was now
  pub making : LeavesMade log meter (head_of (joined_clone asking.asker leaf)) asking.banks (banks_of_state state)

-- the device of one of two clones stopped a join: that of the first while it forked, and the other one still asks; or that of the other
pub data StopsJoin {B : Type 0} (log : B → Option Log) (meter : B → Meter) (number : ℕ) (asking : BankedAsker B) (was now : BankedClone B) (state : BankedState B) (clone : ℕ) : Type 0 where
  amid_fork : clone ≡ 0 → state ≡ states.Asking asking → LeavesFronts log meter (Forked ∷ []) was now.banks → StopsJoin log meter number asking was now state clone
  amid_making : clone ≡ number → StopsMaking log meter asking was now state → StopsJoin log meter number asking was now state clone

abbrev pub StopsJoinBy : {B : Type 0} → (B → Option Log) → (B → Meter) → ℕ → BankedAsker B → BankedClone B → BankedClone B → BankedState B → WorldFault → Type 0
StopsJoinBy log meter number asking was now state (faults.Device clone) = StopsJoin log meter number asking was now state clone
StopsJoinBy log meter number asking was now state faults.NoMemory = Unit {0}
