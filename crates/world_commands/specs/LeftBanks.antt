-- What a command leaves of the banks of its clone, whatever it answers: whether it called their device, what a crash leaves of them at each moment, and
-- how far the arm let the calls be done. The commands cite it: `add`, `remove`, `update`, `deliver`, `ask`, `join`, `keep`, `stop` and `open`.
use Rattle.std.specs.Prelude.{◌≡◌, ◌≢◌, ℕ, List, [], ◌∷◌, Option, None, Some, Result, Err}
use Rattle.mld_io.specs.Arm.{Meter, Caught, LowersAtMost, LowersBy}
use Rattle.mld_io.specs.Disk.{Log}
use Rattle.mld_ops.specs.Messages.{GiveValue}
use Rattle.crash_laws.specs.journal_store.Crashes.{LeavesNothingNew}
use Rattle.mld_model.specs.Local.{LocalAsker, LocalClone, joined_clone}
use Rattle.mld_model.specs.StandsFor.{RunningClone}
use Rattle.mld_model.specs.declared.CloneState.TheVariants as states
use Rattle.crash_laws.specs.clone_parts.KeptSteps.{KeptStep, Created, calls_of_all, LeavesMade}
use Rattle.crash_laws.specs.clone_core.Banked.{BankedAsker, BankedClone, head_of}
use Rattle.crash_laws.specs.clone_core.DurableCalls.{LeavesFronts}
use Rattle.crash_laws.specs.clone_core.Opening.{mount_calls}
use Rattle.world_commands.specs.declared.faults.WorldFault.{WorldFault}
use Rattle.world_commands.specs.declared.faults.WorldFault.TheVariants as faults
use Rattle.world_commands.specs.States.{HasState}
use Rattle.world_commands.specs.WorldBanks.{BankedState, in_memory, banks_of_state, HadNoFault, OthersStay}

-- what a clone may do on its banks for a command: these changes, where it is live; or it takes this leaf, where it asks for one; or it opens, where it is
-- down; or it has nothing to do on them
pub record WorkOnBanks : Type 1 where
  pub changes : LocalClone → List KeptStep → Type 0
  pub takes : LocalAsker → GiveValue → Type 0
  pub opens : Type 0
  pub idles : RunningClone → Type 0

-- so many calls of a device that write or sync were made at most, and just so many where all of them were done (`Whole`); a caught call is no
-- fault of the device's own
pub record MakesDeviceCalls {B : Type 0} (meter : B → Meter) (calls : ℕ) (Whole : Type 0) (old now : B) : Type 0 where
  pub most : LowersAtMost calls (meter old).arm (meter now).arm
  pub whole : Whole → LowersBy calls (meter old).arm (meter now).arm
  pub caught : (meter now).arm ≡ Caught → HadNoFault (meter old) (meter now)

-- how a command ends that makes no call: there was nothing to do, where it was done; or memory ran out; and no device failed
abbrev pub EndsUncalled : WorkOnBanks → RunningClone → Option WorldFault → Type 0
EndsUncalled doing state None = doing.idles state
EndsUncalled doing state (Some faults.NoMemory) = Unit {0}
EndsUncalled doing state (Some (faults.Device clone)) = ⊥

-- a state of the clone, and the one that it was left in, by the fault that the command ended with, if any
pub data LeavesState {B : Type 0} (log : B → Option Log) (meter : B → Meter) (doing : WorkOnBanks) (ended : Option WorldFault) : BankedState B → BankedState B → Type 0 where
  -- no call was made: the banks are the same
  leaves_same : {old new : BankedState B} → banks_of_state new ≡ banks_of_state old → EndsUncalled doing (in_memory old) ended → LeavesState log meter doing ended old new
  -- a live clone made such changes, or some of them: at each moment a crash leaves it after a front of them
  leaves_live : {old new : BankedClone B} (steps : List KeptStep) → steps ≢ [] → doing.changes old.local steps
      → MakesDeviceCalls meter (calls_of_all steps) (ended ≡ None) old.banks new.banks
      → LeavesFronts log meter steps old new.banks → LeavesState log meter doing ended (states.Live old) (states.Live new)
  -- one who asks took a leaf, or was stopped: at each moment a crash leaves its banks as they were, or the clone at that leaf
  leaves_made : {old : BankedAsker B} {new : BankedState B} (give : GiveValue) → doing.takes old.asker give
      → MakesDeviceCalls meter (calls_of_all (Created (head_of (joined_clone old.asker give)) ∷ [])) (ended ≡ None) old.banks (banks_of_state new)
      → LeavesMade log meter (head_of (joined_clone old.asker give)) old.banks (banks_of_state new)
      → LeavesState log meter doing ended (states.Asking old) new
  -- a clone that is down and told to open was opened, or was not: a crash leaves nothing that it might not have left before
  leaves_opened : {old : B} {new : BankedState B} → doing.opens → MakesDeviceCalls meter mount_calls (ended ≡ None) old (banks_of_state new)
      → ((l : Log) → log old ≡ Some l → LeavesNothingNew l (log (banks_of_state new))) → LeavesState log meter doing ended (states.Down old) new

-- the clone of the number was left so, and the others are as they were
pub record LeavesAt {B : Type 0} (log : B → Option Log) (meter : B → Meter) (doing : WorkOnBanks) (ended : Option WorldFault) (number : ℕ) (old new : List (BankedState B)) : Type 0 where
  pub was : BankedState B
  pub now : BankedState B
  pub before : HasState old number was
  pub behind : HasState new number now
  pub left : LeavesState log meter doing ended was now
  pub others : OthersStay number old new

-- where the device failed nothing was sent
abbrev pub IsSilent : {T X : Type 0} → Result T WorldFault → List X → List X → Type 0
IsSilent (Err (faults.Device clone)) old new = new ≡ old
IsSilent result old new = Unit {0}
