-- What the clauses of an event say together.
use Rattle.std.proofs.Common.{◌≡◌, ◌≢◌, Option, Ok, Err, refl}
use Rattle.mld_io.specs.Arm.{Meter}
use Rattle.mld_io.specs.Disk.{Log}
use Rattle.node_model.proofs.of_shell_session.CompleteLines.{had_none}
use Rattle.node_core.specs.declared.faults.NodeFault.{NodeFault}
use Rattle.node_core.specs.declared.faults.NodeFault.TheVariants.{Device, NoMemory}
use Rattle.node_core.specs.EventCompleteness.{EventsAreDone}

but_memory : (fault : NodeFault) → fault ≢ Device → fault ≡ NoMemory
but_memory Device other = absurd (other refl)
but_memory NoMemory other = refl

pub events_done : {B : Type 0} (log : B → Option Log) (meter : B → Meter) → EventsAreDone log meter
events_done log meter node event (Ok done) clauses fine = (clauses.done, clauses.opened)
events_done log meter node event (Err refused) clauses fine = (but_memory refused.0 (had_none _ _ clauses.fault fine), clauses.stopped)
