-- What becomes of the banks, by how a run ended. `run`, `run_replay` and `run_generated` cite `ReturnsBanks`, their parts `BringsBack` and `ComeBackWell`.
use Rattle.std.specs.Prelude.{◌≡◌, ◌≢◌, ℕ, List, [], Option, Some, slice_get}
use Rattle.mld_io.specs.Arm.{Meter}
use Rattle.mld_io.specs.Faults.{counted}
use Rattle.net_world.specs.world_commands.WorldBanks.{MetersGoOn, HadNoFault, HadNoFaults, HasFailed}
use Rattle.mld_replay.specs.declared.run.RunFault.{RunFault}
use Rattle.mld_replay.specs.declared.run.RunFault.TheVariants as faults

-- all banks come back, in their order, each with its real faults counted, and no call of them had one
pub record ComeBackWell {B : Type 0} (meter : B → Meter) (old new : List B) : Type 0 where
  pub meters : MetersGoOn meter old new
  pub quiet : HadNoFaults meter old new

-- all come back, and a call of those of this clone failed
pub record HaveFailed {B : Type 0} (meter : B → Meter) (clone : ℕ) (old new : List B) : Type 0 where
  pub meters : MetersGoOn meter old new
  pub failed : HasFailed meter clone old new

-- all come back, and those of this clone, which there are, had one real fault, and no others had any
pub record HadRealFault {B : Type 0} (meter : B → Meter) (clone : ℕ) (old new : List B) : Type 0 where
  pub meters : MetersGoOn meter old new
  pub was : B
  pub now : B
  pub before : slice_get old clone ≡ Some was
  pub behind : slice_get new clone ≡ Some now
  pub fault : (meter now).real_faults ≡ counted (meter was).real_faults
  pub others : (other : ℕ) (one two : B) → other ≢ clone → slice_get old other ≡ Some one → slice_get new other ≡ Some two → HadNoFault (meter one) (meter two)

-- none come back, or all, and no call of them had a real fault
pub data AreLeft {B : Type 0} (meter : B → Meter) (old new : List B) : Type 0 where
  none_left : new ≡ [] → AreLeft meter old new
  all_left : ComeBackWell meter old new → AreLeft meter old new

-- what a part of a run brings back, by its fault: where it names a device, a call of those banks failed; where memory ran out, none may come back;
-- and else all do
abbrev pub BringsBack : {B : Type 0} → (B → Meter) → List B → List B → Option RunFault → Type 0
BringsBack meter old new (Some (faults.Device clone)) = HaveFailed meter clone old new
BringsBack meter old new (Some faults.NoMemory) = AreLeft meter old new
BringsBack meter old new fault = ComeBackWell meter old new

-- so it is of a whole run, whose banks are not armed: where it names a device, those banks had a real fault
abbrev pub ReturnsBanks : {B : Type 0} → (B → Meter) → List B → List B → Option RunFault → Type 0
ReturnsBanks meter old new (Some (faults.Device clone)) = HadRealFault meter clone old new
ReturnsBanks meter old new (Some faults.NoMemory) = AreLeft meter old new
ReturnsBanks meter old new fault = ComeBackWell meter old new
