-- How a clone stops. The private calls behind `stop` cite it.
use Rattle.std.specs.Prelude.{◌≡◌, ℕ, List, Option, Some, None}
use Rattle.mld_io.specs.Disk.{Log}
use Rattle.mld_model.specs.declared.CloneState.TheVariants as states
use Rattle.crash_laws.specs.clone_core.Banked.{BankedClone, KeepsClone}
use Rattle.world_commands.specs.States.{Becomes}
use Rattle.world_commands.specs.WorldBanks.{BankedState}

-- the live clone of the number is down now, on the same banks, which tell their log; they keep the clone if it was open
pub record StopsOnBanks {B : Type 0} (log : B → Option Log) (old new : List (BankedState B)) (number : ℕ) : Type 0 where
  pub clone : BankedClone B
  pub becomes : Becomes old new number (states.Live clone) (states.Down clone.banks)
  pub now : Log
  pub told : log clone.banks ≡ Some now
  pub keeps : clone.closed ≡ None → KeepsClone clone.local clone.generation now
