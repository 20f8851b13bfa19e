use Rattle.node_core.proofs.CompleteEvents.{events_done}
use Rattle.node_core.proofs.laws.events_are_done.Goals as goal

pub returns : goal.returns
returns g c = events_done g.B.Banks.log g.B.Banks.meter
