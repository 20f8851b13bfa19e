-- The fault of a node for that of a live clone's command. The conversion of the one into the other cites it.
use Rattle.node_model.specs.shell_session.declared.faults.SessionFault.{SessionFault}
use Rattle.node_model.specs.shell_session.declared.faults.SessionFault.TheVariants as session
use Rattle.node_core.specs.declared.faults.NodeFault.{NodeFault}
use Rattle.node_core.specs.declared.faults.NodeFault.TheVariants.{Device, NoMemory}

abbrev pub node_fault_of : SessionFault → NodeFault
node_fault_of session.Device = Device
node_fault_of session.NoMemory = NoMemory
