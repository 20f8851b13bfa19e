use Rattle.node_core.specs.NodeStates.{state_banks, keeper_of}
use Rattle.node_model.specs.Keepers.{keeper_found}
use Rattle.node_core.specs.NodeEvents.{IsDueByPiece}
use Rattle.node_core.proofs.PieceLaws.{piece_may}
use Rattle.node_core.proofs.QuietLaws.{stops_none}
use Rattle.node_core.proofs.pieces.take_piece.Goals as goal

pub take_fed-requires-clause-goes_on : goal.take_fed-requires-clause-goes_on
take_fed-requires-clause-goes_on g c = λ κs outlives.
    piece_may g.B.Banks.log c.args.state c.args.one c.args.others.items c.args.piece.now c.feed.new.self c.in-Ok.fed c.new.result c.new.ensures c.requires.good c.requires.others c.requires.apart c.in-Ok.ensures.good

pub returns-in-Err-clause-stopped : goal.returns-in-Err-clause-stopped
returns-in-Err-clause-stopped g c =
    stops_none (IsDueByPiece (keeper_of c.args.state) c.args.one c.args.others.items c.args.piece.now) g.B.Banks.log (keeper_found (keeper_of c.args.state)) (state_banks c.args.state) c.into_banks.result c.into_banks.ensures.banks
