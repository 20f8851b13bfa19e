use Rattle.std.proofs.Common.{sym, ◌∙◌, ap}
use Rattle.wire_frames.specs.declared.kinds.Frame.TheVariants as kinds
use Rattle.node_model.specs.Exchanges.{ExchangeValue, holding, refusing}
use Rattle.node_model.specs.RefusalCodes.{misplaced_code}
use Rattle.node_core.specs.NodeStates.{keeper_of}
use Rattle.node_core.proofs.KindLaws.{quiet_done, request_misplaced, request_answered}
use Rattle.node_core.proofs.frames.take_request.Goals as goal

pub returns-then-is_peer-clause-done : goal.returns-then-is_peer-clause-done
returns-then-is_peer-clause-done g c =
    quiet_done g.B.Banks.log c.args.state c.args.one (kinds.Request c.args.line.now) (holding c.args.one c.args.exchange.now) c.misplace.new.exchange (refusing misplaced_code (holding c.args.one c.args.exchange.now)) c.misplace.result c.misplace.ensures.sent c.misplace.ensures.same
    (λ sent. request_misplaced (keeper_of c.args.state) c.args.one (holding c.args.one c.args.exchange.now) c.misplace.new.exchange sent c.args.one.role c.args.line.now (sym c.is_peer.ensures ∙ c.if-is_peer.true))

pub answer_request-requires-clause-at_hand : goal.answer_request-requires-clause-at_hand
answer_request-requires-clause-at_hand g c = λ κs outlives. (c.args.one, ap (λ (e : ExchangeValue). e.at_hand) c.hold.ensures)

pub returns-clause-done : goal.returns-clause-done
returns-clause-done g c =
    request_answered g.B.Banks.log c.args.state c.args.one c.args.line.now c.args.exchange.now c.hold.new.self c.hold.ensures (sym c.is_peer.ensures ∙ c.if-is_peer.false) c.answer_request.new.exchange c.answer_request.result c.answer_request.ensures.done
