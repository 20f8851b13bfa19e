use Rattle.std.proofs.Common.{◌∙◌, ap}
use Rattle.node_core.proofs.PieceLaws.{forget_well}
use Rattle.node_core.proofs.nodes.forget.Goals as goal

pub returns-clause-well : goal.returns-clause-well
returns-clause-well g c =
    forget_well c.args.number c.args.connections.items c.becomes.result.rest.connections.items (ap (λ node. node.connections) c.becomes.ensures.node ∙ c.take_connection.ensures.left) c.requires
