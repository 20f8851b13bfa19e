use Rattle.std.proofs.Common.{sym, subst}
use Rattle.node_model.specs.shell_session.SessionLines.{LeavesFrontOfDue}
use Rattle.node_model.specs.Keepers.{Lives, keeper_found}
use Rattle.node_core.specs.NodeDeeds.{IsDueByMessage}
use Rattle.node_core.proofs.CallLaws.{node_goes, node_stops}
use Rattle.node_core.proofs.messages.receive_live.Goals as goal

pub returns-in-Ok-clause-done : goal.returns-in-Ok-clause-done
returns-in-Ok-clause-done g c = node_goes g.B.Banks.log g.B.Banks.meter c.args.clone _ c.receive_loan.new.clone c.in-Ok.ensures.done c.tell_banks_keep.ensures

pub returns-in-Err-clause-stopped : goal.returns-in-Err-clause-stopped
returns-in-Err-clause-stopped g c =
    let log = g.B.Banks.log in
    let old = c.args.clone in
    let keeper = Lives old.generation old.local in
    subst (λ (b : g.row.B.Denot). LeavesFrontOfDue (IsDueByMessage keeper c.args.message.now) log (keeper_found keeper) old.banks b) (sym c.stop.ensures.banks)
    (node_stops log g.B.Banks.meter old (IsDueByMessage keeper c.args.message.now) c.receive_loan.new.clone.banks c.in-Err.ensures.stopped)
