-- A node on its banks, and what it is in the model. `Node::on_event` and `Node::stop` cite it.
use Rattle.std.specs.Prelude.{◌≡◌, Bool, List, IsTrue, Result, Ok, Err}
use Rattle.std.specs.List.{AllByRecursion}
use Rattle.node_model.specs.declared.connections.Connection.{Connection}
use Rattle.node_model.specs.declared.connections.Role.{Role}
use Rattle.node_model.specs.declared.connections.Role.TheVariants.{Fresh, Client, Peer}
use Rattle.node_model.specs.Connections.{AreNumbered}
use Rattle.node_core.specs.declared.faults.NodeFault.{NodeFault}
use Rattle.node_core.specs.declared.faults.NodeFault.TheVariants.{Device}
use Rattle.node_core.specs.declared.states.NodeState.{NodeState}
use Rattle.node_core.specs.NodeStates as states
use Rattle.node_model.specs.Events.{NodeValue}

-- what contracts see of a node: what it has on its banks, its connections, and whether it has ended
pub record BankedNode (B : Type 0) : Type 0 where
  pub state : NodeState B
  pub connections : List Connection
  pub halted : Bool

-- what it is in the model
abbrev pub node_value : {B : Type 0} → BankedNode B → NodeValue
node_value node = record { keeper = states.keeper_of node.state; connections = node.connections; halted = node.halted }

-- its banks
abbrev pub node_banks : {B : Type 0} → BankedNode B → B
node_banks node = states.state_banks node.state

-- the banks, whatever an event answered
abbrev pub banks_left : {A B : Type 0} → (A → B) → Result A (NodeFault × B) → B
banks_left of (Ok done) = of done
banks_left of (Err refused) = refused.1

-- the device failed
abbrev pub IsDeviceFault : {A B : Type 0} → Result A (NodeFault × B) → Type 0
IsDeviceFault (Ok done) = ⊥
IsDeviceFault (Err refused) = refused.0 ≡ Device

-- ---- connections that may go on

-- no part of a message was refused
abbrev pub IsGoodRole : Role → Type 0
IsGoodRole Fresh = Unit {0}
IsGoodRole Client = Unit {0}
IsGoodRole (Peer assembly) = IsTrue assembly.good

-- neither a frame nor a part was refused
pub record IsGood (one : Connection) : Type 0 where
  pub reads : IsTrue one.frames.good
  pub role : IsGoodRole one.role

-- each connection may go on, and their numbers ascend
pub record MayGoOn (connections : List Connection) : Type 0 where
  pub good : AllByRecursion IsGood connections
  pub numbered : AreNumbered connections
