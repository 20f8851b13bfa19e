-- What a node has on its banks, and what it is in the model. `answer_request` and `receive_message` cite it, and the calls of `NodeState`.
use Rattle.std.specs.Prelude.{◌≡◌, Option, None, Some, Result, Ok, Err}
use Rattle.mld_io.specs.Disk.{Log, seen}
use Rattle.node_model.specs.journal_sides.Pairs.{read_banks}
use Rattle.node_model.specs.clone_core.Banked.{BankedClone}
use Rattle.node_model.specs.shell_session.Shells.{FoundOnBanks, found_in}
use Rattle.node_core.specs.declared.faults.NodeFault.{NodeFault}
use Rattle.node_core.specs.declared.faults.NodeFault.TheVariants.{Device}
use Rattle.node_core.specs.declared.states.NodeState.{NodeState}
use Rattle.node_core.specs.declared.states.NodeState.TheVariants as states
use Rattle.node_model.specs.Keepers.{Keeper, Lives, Asks}

-- its banks
abbrev pub state_banks : {B : Type 0} → NodeState B → B
state_banks (states.Live clone) = clone.banks
state_banks (states.Asking asker) = asker.banks

-- what it is in the model
abbrev pub keeper_of : {B : Type 0} → NodeState B → Keeper
keeper_of (states.Live clone) = Lives clone.generation clone.local
keeper_of (states.Asking asker) = Asks asker.asker

-- what a live clone on its banks is in the model
abbrev pub living : {B : Type 0} → BankedClone B → Keeper
living clone = Lives clone.generation clone.local

-- a live clone is open
abbrev pub IsOpen : {B : Type 0} → NodeState B → Type 0
IsOpen (states.Live clone) = clone.closed ≡ None
IsOpen (states.Asking asker) = Unit {0}

-- this is found on banks that tell their log
abbrev pub FindsNow : FoundOnBanks → Option Log → Type 0
FindsNow found now = (log : Log) → now ≡ Some log → found_in (read_banks (seen log)) ≡ found

-- the banks, whatever it answered
abbrev pub state_banks_after : {B : Type 0} → Result (NodeState B) (NodeFault × B) → B
state_banks_after (Ok next) = state_banks next
state_banks_after (Err refused) = refused.1

-- the device failed
abbrev pub StateFailsOnDevice : {B : Type 0} → Result (NodeState B) (NodeFault × B) → Type 0
StateFailsOnDevice (Ok next) = ⊥
StateFailsOnDevice (Err refused) = refused.0 ≡ Device
