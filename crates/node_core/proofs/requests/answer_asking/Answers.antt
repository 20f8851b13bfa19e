use Rattle.node_model.specs.Keepers.{Asks}
use Rattle.node_core.specs.NodeDeeds.{IsDueByRequest}
use Rattle.node_core.proofs.CallLaws.{asks_on, asks_stops}
use Rattle.node_core.proofs.requests.answer_asking.Goals as goal

pub returns-in-Ok-clause-done : goal.returns-in-Ok-clause-done
returns-in-Ok-clause-done g c = λ one at. asks_on g.B.Banks.log g.B.Banks.meter c.args.asker _ (c.in-Ok.ensures one at)

pub returns-in-Err-clause-stopped : goal.returns-in-Err-clause-stopped
returns-in-Err-clause-stopped g c =
    asks_stops g.B.Banks.log g.B.Banks.meter c.args.asker (IsDueByRequest (Asks c.args.asker.asker) c.args.line.now) c.stop.result c.stop.ensures.banks
