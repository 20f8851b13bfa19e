use Rattle.node_core.proofs.PieceLaws.{forget_well, opened_well}
use Rattle.node_core.proofs.nodes.opened.Goals as goal

pub returns-clause-well : goal.returns-clause-well
returns-clause-well g c =
    opened_well c.args.number c.take_connection.new.list.items c.place_connection.new.list.items c.fresh.result c.fresh.ensures c.in_ok-place_connection.ensures.placed c.in_ok-place_connection.ensures.numbered
    (c.take_connection.ensures.numbered c.requires.well.numbered) (forget_well c.args.number c.args.connections.items c.take_connection.new.list.items c.take_connection.ensures.left c.requires.well)
