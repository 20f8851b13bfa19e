-- Banks that have bytes before a run begins. `run`, `run_replay` and `run_generated` cite `RefusesFilledBanks`; `find_filled` and what it calls the others.
use Rattle.std.specs.Prelude.{◌≡◌, ◌<◌, ◌≤◌, ◌⊎◌, ℕ, List, Option, Some, length, slice_get}
use Rattle.mld_io.specs.Disk.{Log, Sides, seen}
use Rattle.mld_replay.specs.declared.run.RunFault.{RunFault}
use Rattle.mld_replay.specs.declared.run.RunFault.TheVariants as faults

-- a side has bytes
abbrev pub HasFilledSide : Sides → Type 0
HasFilledSide sides = (0 < length sides.a) ⊎ (0 < length sides.b)

-- banks that tell their log have bytes
pub record IsFilled (now : Option Log) : Type 0 where
  pub log : Log
  pub now_is : now ≡ Some log
  pub bytes : HasFilledSide (seen log)

-- the banks of this number are the first that have bytes
pub record IsFirstFilled {B : Type 0} (log : B → Option Log) (banks : List B) (number : ℕ) : Type 0 where
  pub one : B
  pub at : slice_get banks number ≡ Some one
  pub filled : IsFilled (log one)
  pub before : (other : ℕ) (empty : B) → other < number → slice_get banks other ≡ Some empty → ¬ IsFilled (log empty)

-- how a run ends that has such banks: its words are none that it knows, it tells of them, the device of these or of some before them
-- failed, or memory ran out
abbrev pub EndsBefore : Option RunFault → ℕ → Type 0
EndsBefore (Some faults.Usage) number = Unit {0}
EndsBefore (Some (faults.NotEmpty clone)) number = clone ≡ number
EndsBefore (Some (faults.Device clone)) number = clone ≤ number
EndsBefore (Some faults.NoMemory) number = Unit {0}
EndsBefore fault number = ⊥

-- each of these banks, by number, keeps the log that it had
abbrev pub LogsStay : {B : Type 0} → (B → Option Log) → List B → List B → Type 0
LogsStay {B = B} log old new = (number : ℕ) (was now : B) → slice_get old number ≡ Some was → slice_get new number ≡ Some now → log now ≡ log was

-- What banks that have bytes make of a run. `Untouched` says that nothing was read or written.
pub record RefusesFilledBanks {B : Type 0} (log : B → Option Log) (old new : List B) (fault : Option RunFault) (Untouched : Type 0) : Type 0 where
  -- it tells of the first of them, and only where there are such
  pub names : (clone : ℕ) → fault ≡ Some (faults.NotEmpty clone) → IsFirstFilled log old clone
  -- where there are, it ends before its first line, and changes no bank
  pub ends : (clone : ℕ) → IsFirstFilled log old clone → EndsBefore fault clone
  pub untouched : (clone : ℕ) → IsFirstFilled log old clone → Untouched
  pub logs : (clone : ℕ) → IsFirstFilled log old clone → LogsStay log old new
