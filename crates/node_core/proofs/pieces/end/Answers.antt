use Rattle.node_core.proofs.PieceLaws.{ends_well}
use Rattle.node_core.proofs.pieces.end.Goals as goal

pub returns-clause-well : goal.returns-clause-well
returns-clause-well c =
    ends_well c.args.fault c.args.exchange c.fail.new.exchange c.into_parts-sent.result.1 c.into_parts-sent.result.2.items c.put_back.new.connections.items c.in_ok-fail.ensures
    c.into_parts-sent.ensures.at_hand c.into_parts-sent.ensures.others c.in_ok-put_back.ensures.placed c.in_ok-put_back.ensures.numbered
