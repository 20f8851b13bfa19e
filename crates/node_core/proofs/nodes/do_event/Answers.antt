use Rattle.std.proofs.Common.{sym, subst}
use Rattle.mld_io.specs.declared.events.Event.{Event}
use Rattle.node_core.specs.NodeEvents.{DoesEvent}
use Rattle.node_core.specs.Steps.{node_with, taken_node}
use Rattle.node_core.proofs.PieceLaws.{open_answered, shut_done, end_done}
use Rattle.node_core.proofs.nodes.do_event.Goals as goal

pub returns-in-Opened-clause-done : goal.returns-in-Opened-clause-done
returns-in-Opened-clause-done g c =
    open_answered g.B.Banks.log c.args.state c.args.connections.items c.in-Opened.number c.args.event.now c.in-Opened.is c.open.result c.open.ensures.done c.open.ensures.same

pub returns-in-Shut-clause-done : goal.returns-in-Shut-clause-done
returns-in-Shut-clause-done g c =
    subst (λ (event : Event). DoesEvent g.B.Banks.log (node_with c.args.state c.args.connections.items) event (taken_node c.forget.result) c.forget.result.rest.sent.items) (sym c.in-Shut.is)
    (shut_done g.B.Banks.log c.args.state c.args.connections.items c.in-Shut.number c.forget.result c.forget.ensures.sent c.forget.ensures.node)

pub returns-in-End-clause-done : goal.returns-in-End-clause-done
returns-in-End-clause-done g c =
    subst (λ (event : Event). DoesEvent g.B.Banks.log (node_with c.args.state c.args.connections.items) event (taken_node c.becomes.result) c.becomes.result.rest.sent.items) (sym c.in-End.is)
    (end_done g.B.Banks.log c.args.state c.args.connections.items c.becomes.result c.becomes.ensures.sent c.becomes.ensures.node)
