use Rattle.std.proofs.Common.{sym}
use Rattle.node_core.proofs.PieceLaws.{stops_viewed}
use Rattle.node_core.proofs.nodes.Node.on_event.Goals as goal

pub returns-in-Err-clause-stopped : goal.returns-in-Err-clause-stopped
returns-in-Err-clause-stopped g c =
    stops_viewed g.B.Banks.log c.args.self c.self.inside.state c.self.inside.connections.items c.self.inside.halted (sym c.self.view_is) c.requires.going c.args.event.now c.in-Err.refused.1 c.in-Err.ensures.stopped
