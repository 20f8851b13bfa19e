use Rattle.std.proofs.Common.{sym, ◌∙◌, ap}
use Rattle.node_core.proofs.HoldLaws.{good_found}
use Rattle.node_core.proofs.PieceLaws.{read_answered, read_none, forget_well, still_apart}
use Rattle.node_core.proofs.nodes.read.Goals as goal

pub take_piece-requires-clause-good : goal.take_piece-requires-clause-good
take_piece-requires-clause-good g c = λ κs outlives.
    good_found c.args.number c.args.connections.items c.in-Some.one c.requires.well.good (sym c.take_connection.ensures.found ∙ c.in-Some.is)

pub take_piece-requires-clause-others : goal.take_piece-requires-clause-others
take_piece-requires-clause-others g c = λ κs outlives. forget_well c.args.number c.args.connections.items c.take_connection.new.list.items c.take_connection.ensures.left c.requires.well

pub take_piece-requires-clause-apart : goal.take_piece-requires-clause-apart
take_piece-requires-clause-apart g c = λ κs outlives.
    still_apart c.args.number c.args.connections.items c.take_connection.new.list.items c.in-Some.one (sym c.take_connection.ensures.found ∙ c.in-Some.is) (c.take_connection.ensures.numbered c.requires.well.numbered)

pub returns-in-Some-clause-done : goal.returns-in-Some-clause-done
returns-in-Some-clause-done g c =
    read_answered g.B.Banks.log c.args.state c.args.connections.items c.take_connection.new.list.items c.args.number c.args.piece.now c.take_connection.result c.take_connection.ensures.found c.take_connection.ensures.left c.in-Some.one c.in-Some.is c.take_piece.result c.take_piece.ensures.done

pub returns-in-None-clause-done : goal.returns-in-None-clause-done
returns-in-None-clause-done g c =
    read_none g.B.Banks.log c.args.state c.args.connections.items c.take_connection.new.list.items c.args.number c.args.piece.now c.take_connection.result c.take_connection.ensures.found c.take_connection.ensures.left c.becomes.result c.in-None.is c.becomes.ensures.sent c.becomes.ensures.node

pub returns-in-None-clause-well : goal.returns-in-None-clause-well
returns-in-None-clause-well g c =
    forget_well c.args.number c.args.connections.items c.becomes.result.rest.connections.items (ap (λ node. node.connections) c.becomes.ensures.node ∙ c.take_connection.ensures.left) c.requires.well
