-- What became of the banks of a node that was to begin. The private calls behind `serve` cite it.
use Rattle.std.specs.Prelude.{◌≡◌, ◌⊎◌, List, [], Option, Result, Ok, Err}
use Rattle.mld_io.specs.Disk.{Log, seen}
use Rattle.node_core.specs.journal_sides.Pairs.{read_banks}
use Rattle.mld_model.specs.Local.{LocalClone}
use Rattle.node_core.specs.clone_parts.KeptSteps.{KeptStep}
use Rattle.node_core.specs.clone_core.Banked.{BankedClone}
use Rattle.node_core.specs.shell_session.Shells.{FoundOnBanks, Damage, found_in}
use Rattle.node_core.specs.shell_session.Sessions.{HasFound}
use Rattle.node_core.specs.shell_session.SessionLines.{ImagesFind, LeavesFront}
use Rattle.node_core.specs.shell_session.RunEnds.{LeavesDone}
use Rattle.node_run.specs.declared.node.NodeWords.{NodeWords}
use Rattle.node_core.specs.declared.states.NodeState.{NodeState}
use Rattle.node_core.specs.declared.states.NodeState.TheVariants as states
use Rattle.node_core.specs.NodeStates.{state_banks, keeper_of}
use Rattle.node_core.specs.node_model.Keepers.{keeper_found}
use Rattle.node_run.specs.Start.{Begins, IsDueAtFirst, IsOther}
use Rattle.node_run.specs.declared.stops.NodeStop.{NodeStop}
use Rattle.node_run.specs.declared.stops.NodeStop.TheVariants as stops

-- a node began by its words: its banks keep what it has, whatever a crash leaves of them, and at each moment since a crash leaves what a front of its first
-- steps makes
pub record BeginsOn {B : Type 0} (log : B → Option Log) (words : NodeWords) (found : FoundOnBanks) (old : Option Log) (state : NodeState B) : Type 0 where
  pub first : List KeptStep
  pub begins : Begins words found first (keeper_of state)
  pub keeps : HasFound (keeper_found (keeper_of state)) (log (state_banks state))
  pub moments : LeavesFront found first old (log (state_banks state))
  pub settled : ImagesFind (keeper_found (keeper_of state)) (log (state_banks state))

-- it did not, in the middle of durable steps that are due, or of none
pub record FallsShort (words : NodeWords) (found : FoundOnBanks) (old now : Option Log) : Type 0 where
  pub due : List KeptStep
  pub is_due : (due ≡ []) ⊎ IsDueAtFirst words found due
  pub leaves : LeavesDone found [] due old now

-- it did not, since what was found is no clone that it may run
pub record StaysFound (So : Type 0) (found : FoundOnBanks) (old now : Option Log) : Type 0 where
  pub so : So
  pub keeps : HasFound found now
  pub images : ImagesFind found now
  pub leaves : LeavesDone found [] [] old now

abbrev pub BeginsShort : NodeStop → NodeWords → FoundOnBanks → (old now : Option Log) → Type 0
BeginsShort stops.NoMemory words found old now = FallsShort words found old now
BeginsShort stops.Device words found old now = FallsShort words found old now
BeginsShort (stops.Damaged side place) words found old now = StaysFound (found ≡ Damage side place) found old now
BeginsShort stops.OtherClone words found old now = StaysFound (IsOther words found) found old now
BeginsShort stop words found old now = ⊥

-- ---- a clone that was found

-- it has the id and the domain of the words
abbrev pub IsOfWords : NodeWords → LocalClone → Type 0
IsOfWords words clone = (clone.id ≡ words.id) × (clone.domain ≡ words.domain)

-- so it runs
pub record RunsAsFound {B : Type 0} (words : NodeWords) (clone : BankedClone B) (state : NodeState B) : Type 0 where
  pub same : state ≡ states.Live clone
  pub is_of : IsOfWords words clone.local

-- or it doesn't
pub record RefusesOther {B : Type 0} (words : NodeWords) (clone : BankedClone B) (refused : NodeStop × B) : Type 0 where
  pub told : refused.0 ≡ stops.OtherClone
  pub back : refused.1 ≡ clone.banks
  pub is_of : ¬ IsOfWords words clone.local

-- ---- any answer

-- what is found on banks that tell this log
abbrev pub found_on : Log → FoundOnBanks
found_on log = found_in (read_banks (seen log))

-- the banks, whatever became of them
abbrev pub banks_begun : {B : Type 0} → Result (NodeState B) (NodeStop × B) → B
banks_begun (Ok state) = state_banks state
banks_begun (Err refused) = refused.1

-- the device failed
abbrev pub FailsToBegin : {B : Type 0} → Result (NodeState B) (NodeStop × B) → Type 0
FailsToBegin (Ok state) = ⊥
FailsToBegin (Err refused) = refused.0 ≡ stops.Device
