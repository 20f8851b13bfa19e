use Rattle.node_model.specs.Exchanges.{holding, refusing}
use Rattle.node_model.specs.RefusalCodes.{misplaced_code}
use Rattle.node_core.specs.NodeStates.{keeper_of}
use Rattle.node_core.proofs.KindLaws.{quiet_done, reply_step, refuse_step}
use Rattle.node_core.proofs.QuietLaws.{quiet_told}
use Rattle.node_core.proofs.frames.take_frame.Goals as goal

pub returns-in-Reply-clause-done : goal.returns-in-Reply-clause-done
returns-in-Reply-clause-done g c =
    quiet_done g.B.Banks.log c.args.state c.args.one c.args.frame (holding c.args.one c.args.exchange.now) c.misplace.new.exchange (refusing misplaced_code (holding c.args.one c.args.exchange.now)) c.misplace.result c.misplace.ensures.sent c.misplace.ensures.same
    (λ sent. reply_step (keeper_of c.args.state) c.args.one (holding c.args.one c.args.exchange.now) c.misplace.new.exchange c.args.frame c.in-Reply.field-0 c.in-Reply.field-1 c.in-Reply.is sent)

pub returns-in-Reply-clause-told : goal.returns-in-Reply-clause-told
returns-in-Reply-clause-told g c = quiet_told g.B.Banks.log g.B.Banks.meter c.args.state c.misplace.result c.misplace.ensures.same c.misplace.ensures.err

pub returns-clause-done : goal.returns-clause-done
returns-clause-done g c =
    quiet_done g.B.Banks.log c.args.state c.args.one c.args.frame (holding c.args.one c.args.exchange.now) c.misplace-in-Refuse.new.exchange (refusing misplaced_code (holding c.args.one c.args.exchange.now)) c.misplace-in-Refuse.result c.misplace-in-Refuse.ensures.sent c.misplace-in-Refuse.ensures.same
    (λ sent. refuse_step (keeper_of c.args.state) c.args.one (holding c.args.one c.args.exchange.now) c.misplace-in-Refuse.new.exchange c.args.frame c.in-Refuse.field-0 c.in-Refuse.is sent)
