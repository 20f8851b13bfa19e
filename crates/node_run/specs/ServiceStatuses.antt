-- How a run of the node ends, by its fault: the status, what stays as it was, and what is counted. `serve` and the functions below it cite these.
use Rattle.std.specs.Prelude.{◌≡◌, ℕ, Option, None, Some}
use Rattle.mld_io.specs.Faults.{Rose}
use Rattle.mld_io.specs.declared.banks.Side.{Side}
use Rattle.mld_io.specs.declared.faults.IoFault.{IoFault}
use Rattle.mld_io.specs.declared.faults.IoFault.TheVariants as io
use Rattle.node_core.specs.journal_store.declared.faults.MakeFault.{MakeFault}
use Rattle.node_core.specs.journal_store.declared.faults.MakeFault.TheVariants as make
use Rattle.node_core.specs.journal_store.declared.faults.MountFault.{MountFault}
use Rattle.node_core.specs.journal_store.declared.faults.MountFault.TheVariants as mount
use Rattle.node_run.specs.declared.faults.NodeWordsFault.{NodeWordsFault}
use Rattle.node_run.specs.declared.faults.NodeWordsFault.TheVariants as words
use Rattle.node_core.specs.declared.faults.NodeFault.{NodeFault}
use Rattle.node_core.specs.declared.faults.NodeFault.TheVariants as node
use Rattle.node_run.specs.declared.stops.NodeStop.{NodeStop}
use Rattle.node_run.specs.declared.stops.NodeStop.TheVariants as stops

-- the status of the program
abbrev pub service_status : Option NodeStop → ℕ
service_status None = 0
service_status (Some stops.Usage) = 1
service_status (Some stops.NoMemory) = 5
service_status (Some stops.Device) = 6
service_status (Some stops.OutOfTurns) = 8
service_status (Some stops.WireFault) = 9
service_status (Some (stops.Damaged side place)) = 10
service_status (Some stops.OtherClone) = 11

-- the side that is damaged, and the place, which are there just at status 10
abbrev pub damaged_of : Option NodeStop → Option (Side × ℕ)
damaged_of (Some (stops.Damaged side place)) = Some (side, place)
damaged_of fault = None

-- the wire is as it was, and so are the banks
pub record LeavesWireAndBanks {W B : Type 0} (wire left : W) (banks back : B) : Type 0 where
  pub wire_is : left ≡ wire
  pub banks_are : back ≡ banks

-- the count of the wire's faults rose where that is told, and else it is what it was
abbrev pub CountsWire : ℕ → ℕ → Option NodeStop → Type 0
CountsWire before now (Some stops.WireFault) = Rose before now
CountsWire before now fault = now ≡ before

-- ---- parts of a run

-- why words were not read
abbrev pub stop_of_words : NodeWordsFault → NodeStop
stop_of_words words.Usage = stops.Usage
stop_of_words words.NoMemory = stops.NoMemory

-- why banks were not mounted
abbrev pub stop_of_mount : MountFault → NodeStop
stop_of_mount (mount.Damaged side place) = stops.Damaged side place
stop_of_mount mount.Device = stops.Device
stop_of_mount mount.NoMemory = stops.NoMemory

-- why no clone was made
abbrev pub stop_of_make : MakeFault → NodeStop
stop_of_make make.Device = stops.Device
stop_of_make make.NoMemory = stops.NoMemory

-- why an event was not done
abbrev pub stop_of_event : NodeFault → NodeStop
stop_of_event node.Device = stops.Device
stop_of_event node.NoMemory = stops.NoMemory

-- why the wire refused
abbrev pub stop_of_wire : IoFault → NodeStop
stop_of_wire io.Failed = stops.WireFault
stop_of_wire io.NoMemory = stops.NoMemory

-- how the turns of a node may end
abbrev pub IsOfTurns : Option NodeStop → Type 0
IsOfTurns (Some stops.Usage) = ⊥
IsOfTurns (Some (stops.Damaged side place)) = ⊥
IsOfTurns (Some stops.OtherClone) = ⊥
IsOfTurns fault = Unit {0}

-- how it may end before the first
abbrev pub IsAtFirst : NodeStop → Type 0
IsAtFirst stops.Usage = ⊥
IsAtFirst stops.OutOfTurns = ⊥
IsAtFirst stops.WireFault = ⊥
IsAtFirst stop = Unit {0}
