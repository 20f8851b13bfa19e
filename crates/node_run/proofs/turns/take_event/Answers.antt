use Rattle.std.proofs.Common.{List, subst}
use Rattle.node_core.specs.node_model.declared.connections.Sent.{Sent}
use Rattle.node_run.specs.ServiceUnderWay.{SendsFront}
use Rattle.node_run.proofs.TurnLaws.{stops_sending}
use Rattle.node_run.proofs.turns.take_event.Goals as goal

pub returns-in-Err-send_all-clause-stopped : goal.returns-in-Err-send_all-clause-stopped
returns-in-Err-send_all-clause-stopped g c =
    let before = g.W.Wire.log c.args.wire.now in
    let now = g.W.Wire.log c.send_all.new.wire in
    rw c.wire_stop.ensures
    (stops_sending g.B.Banks.log c.args.node c.args.event.now before c.in-Err-send_all.fault c.stop.result now (record {
      next = c.in-Ok.done.0;
      sent = c.in-Ok.done.1.items;
      does = c.in-Ok.ensures.done;
      back_is = c.stop.ensures.banks;
      kept = c.stop.ensures.kept c.in-Ok.ensures.opened;
      sends = subst (λ (s : List Sent). SendsFront s before now) c.as_slice.ensures.value c.in-Err-send_all.ensures.err;
    }))
