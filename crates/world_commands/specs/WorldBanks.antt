-- A running world on banks: what it has in memory, and what the banks of its clones keep. `stop` and `stop_all` cite it, and the calls of `World`.
use Rattle.std.specs.Prelude.{◌≡◌, ◌≢◌, ◌+◌, ◌≤◌, ◌⊎◌, ℕ, List, [], Option, Some, None, MatchOption, Result, Ok, Err, map, length, slice_get}
use Rattle.mld_io.specs.Arm.{Meter, Unarmed, Caught}
use Rattle.mld_io.specs.Disk.{Log}
use Rattle.mld_io.specs.Faults.{counted}
use Rattle.crash_laws.specs.journal_sides.Pairs.{Kept}
use Rattle.crash_laws.specs.journal_store.Standing.{KeepsJust, KeepsNothing}
use Rattle.mld_ops.specs.Messages.{MessageValue}
use Rattle.mld_model.specs.Clone.{Stored, kept_of}
use Rattle.mld_model.specs.StandsFor.{RunningClone, RunningWorld, StandsFor, StoredStandsFor, id_of}
use Rattle.mld_model.specs.World.{World, clone_at}
use Rattle.mld_model.specs.declared.CloneState.{CloneState}
use Rattle.mld_model.specs.declared.CloneState.TheVariants as states
use Rattle.crash_laws.specs.clone_core.Banked.{BankedAsker, BankedClone}
use Rattle.crash_laws.specs.CarriedSteps.{stored_in}
use Rattle.world_commands.specs.declared.faults.WorldFault.{WorldFault}
use Rattle.world_commands.specs.declared.faults.WorldFault.TheVariants as faults

-- ---- a running world and its banks

-- a clone of a running world in its state, with its banks
abbrev pub BankedState : Type 0 → Type 0
BankedState B = CloneState B (BankedAsker B) B (BankedClone B)

-- what it has in memory
abbrev pub in_memory : {B : Type 0} → BankedState B → RunningClone
in_memory (states.Absent banks) = states.Absent tt
in_memory (states.Asking asking) = states.Asking asking.asker
in_memory (states.Down banks) = states.Down tt
in_memory (states.Live clone) = states.Live clone.local

-- its banks
abbrev pub banks_of_state : {B : Type 0} → BankedState B → B
banks_of_state (states.Absent banks) = banks
banks_of_state (states.Asking asking) = asking.banks
banks_of_state (states.Down banks) = banks
banks_of_state (states.Live clone) = clone.banks

-- a world as it runs on banks
pub record BankedWorld (B : Type 0) : Type 0 where
  pub domain : List ℕ
  pub properties : List (List ℕ)
  pub clones : List (BankedState B)
  pub messages : List MessageValue
  pub steps : ℕ

-- what it has in memory
abbrev pub memory_of : {B : Type 0} → BankedWorld B → RunningWorld
memory_of world = record {
  domain = world.domain;
  properties = world.properties;
  clones = map in_memory world.clones;
  messages = world.messages;
  steps = world.steps;
}

-- the banks of its clones, by number
abbrev pub banks_of : {B : Type 0} → BankedWorld B → List B
banks_of world = map banks_of_state world.clones

-- ---- what banks stand for

-- banks that tell their log keep nothing, and a crash now leaves them so
pub record KeepsNoneNow (now : Option Log) : Type 0 where
  pub log : Log
  pub now_is : now ≡ Some log
  pub keeps : KeepsNothing log

-- banks that tell their log keep what the model's clone of this number keeps, under its id, the domain and the properties; and a
-- crash now leaves them so
pub record KeepsStored (world : World) (number : ℕ) (stored : Stored) (now : Option Log) : Type 0 where
  pub log : Log
  pub now_is : now ≡ Some log
  pub kept : Kept
  pub keeps : KeepsJust kept log
  pub id : kept.head.id ≡ id_of number
  pub domain : kept.head.domain ≡ world.domain
  pub properties : kept.head.properties ≡ world.properties
  pub stands : StoredStandsFor world.history (stored_in kept) stored

-- banks stand for the model's clone of this number: they keep what it keeps, if anything
abbrev pub BanksStandFor : World → ℕ → Option Log → Type 0
BanksStandFor world number now = MatchOption (kept_of (clone_at world number)) (KeepsNoneNow now) (λ stored. KeepsStored world number stored now)

-- all banks of a world do, one by one
abbrev pub AllBanksStandFor : {B : Type 0} → (B → Option Log) → World → List B → Type 0
AllBanksStandFor {B = B} log world banks = (number : ℕ) (one : B) → slice_get banks number ≡ Some one → BanksStandFor world number (log one)

-- a generation that so many steps may lead to: a clone begins with the first, and each step makes one more at most
abbrev pub IsReached : ℕ → ℕ → Type 0
IsReached steps generation = generation ≤ steps + 1

-- what is known of a clone that is down, after so many steps: its banks stand for the model's, and what they keep has such a generation
pub record IsDownOn (world : World) (steps number : ℕ) (now : Option Log) : Type 0 where
  pub stands : BanksStandFor world number now
  pub reached : (log : Log) (kept : Kept) → now ≡ Some log → KeepsJust kept log → IsReached steps kept.generation

-- and of one that is live: it is open, and has such a generation
pub record IsOpenAt {B : Type 0} (steps : ℕ) (clone : BankedClone B) : Type 0 where
  pub opened : clone.closed ≡ None
  pub reached : IsReached steps clone.generation

-- what is known of a clone beside what it has in memory, after so many steps
abbrev pub IsBacked : {B : Type 0} → (B → Option Log) → World → ℕ → ℕ → BankedState B → Type 0
IsBacked log world steps number (states.Absent banks) = Unit {0}
IsBacked log world steps number (states.Asking asking) = Unit {0}
IsBacked log world steps number (states.Down banks) = IsDownOn world steps number (log banks)
IsBacked log world steps number (states.Live clone) = IsOpenAt steps clone

-- a running world on banks stands for a world of the model
pub record StandsOnBanks {B : Type 0} (log : B → Option Log) (running : BankedWorld B) (world : World) : Type 0 where
  pub memory : StandsFor (memory_of running) world
  pub backed : (number : ℕ) (state : BankedState B) → slice_get running.clones number ≡ Some state → IsBacked log world running.steps number state

-- ---- faults of banks

-- the meter of banks that were used: no real fault is forgotten, no call arms them, and an arm that caught a call still does
pub record MeterGoesOn (before now : Meter) : Type 0 where
  pub later : before.real_faults ≤ now.real_faults
  pub unarmed : before.arm ≡ Unarmed → now.arm ≡ Unarmed
  pub caught : before.arm ≡ Caught → now.arm ≡ Caught

-- so it is of each of these banks, by number
pub record MetersGoOn {B : Type 0} (meter : B → Meter) (old new : List B) : Type 0 where
  pub count : length new ≡ length old
  pub each : (number : ℕ) (was now : B) → slice_get old number ≡ Some was → slice_get new number ≡ Some now → MeterGoesOn (meter was) (meter now)

-- no real fault was counted
abbrev pub HadNoFault : Meter → Meter → Type 0
HadNoFault before now = now.real_faults ≡ before.real_faults

-- none was, of any of these banks, by number
abbrev pub HadNoFaults : {B : Type 0} → (B → Meter) → List B → List B → Type 0
HadNoFaults {B = B} meter old new = (number : ℕ) (was now : B) → slice_get old number ≡ Some was → slice_get new number ≡ Some now → HadNoFault (meter was) (meter now)

-- a call failed: one real fault was counted, or the arm catches it; what isn't armed catches none
abbrev pub HadFault : Meter → Meter → Type 0
HadFault before now = (now.arm ≡ Caught) ⊎ (now.real_faults ≡ counted before.real_faults)

-- a call of the banks of this number failed, which there are, and no others had a real fault
pub record HasFailed {B : Type 0} (meter : B → Meter) (number : ℕ) (old new : List B) : Type 0 where
  pub was : B
  pub now : B
  pub before : slice_get old number ≡ Some was
  pub behind : slice_get new number ≡ Some now
  pub fault : HadFault (meter was) (meter now)
  pub others : (other : ℕ) (one two : B) → other ≢ number → slice_get old other ≡ Some one → slice_get new other ≡ Some two → HadNoFault (meter one) (meter two)

-- why no clones were founded: memory ran out, and no banks are given back; or a call of the banks of a clone failed, and all are given
-- back, in order
abbrev pub RefusesFounding : {B : Type 0} → (B → Meter) → List B → WorldFault → List B → Type 0
RefusesFounding meter blanks faults.NoMemory banks = banks ≡ []
RefusesFounding meter blanks (faults.Device clone) banks = MetersGoOn meter blanks banks × HasFailed meter clone blanks banks

-- which banks had real faults, by how a command of the clone of this number ended: a fault names that clone, and a call of its banks
-- failed; else none had any
abbrev pub HasFaultsFor : {B T : Type 0} → ℕ → (B → Meter) → List B → List B → Result T WorldFault → Type 0
HasFaultsFor number meter old new (Ok value) = HadNoFaults meter old new
HasFaultsFor number meter old new (Err (faults.Device clone)) = (clone ≡ number) × HasFailed meter number old new
HasFaultsFor number meter old new (Err faults.NoMemory) = HadNoFaults meter old new

-- what is at all other numbers is as it was
abbrev pub OthersStay : {X : Type 0} → ℕ → List X → List X → Type 0
OthersStay number old new = (other : ℕ) → other ≢ number → slice_get new other ≡ slice_get old other
