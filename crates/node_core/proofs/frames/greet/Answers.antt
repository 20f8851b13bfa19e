use Rattle.std.proofs.Common.{sym, ◌∙◌, ap}
use Rattle.wire_frames.specs.declared.kinds.Frame.TheVariants as kinds
use Rattle.node_model.specs.declared.connections.Connection.{Connection}
use Rattle.node_model.specs.Exchanges.{holding, refusing, telling}
use Rattle.node_model.specs.RefusalCodes.{misplaced_code}
use Rattle.node_core.specs.NodeStates.{keeper_of}
use Rattle.node_model.specs.Keepers.{question_of}
use Rattle.node_core.proofs.KindLaws.{quiet_done, hello_misplaced, hello_refused, hello_welcome}
use Rattle.node_core.proofs.frames.greet.Goals as goal

pub returns-then-not-is_fresh-clause-done : goal.returns-then-not-is_fresh-clause-done
returns-then-not-is_fresh-clause-done g c =
    quiet_done g.B.Banks.log c.args.state c.args.one (kinds.Hello c.args.format c.args.id.now c.args.domain.now) (holding c.args.one c.args.exchange.now) c.misplace.new.exchange (refusing misplaced_code (holding c.args.one c.args.exchange.now)) c.misplace.result c.misplace.ensures.sent c.misplace.ensures.same
    (λ sent. hello_misplaced (keeper_of c.args.state) c.args.one (holding c.args.one c.args.exchange.now) c.misplace.new.exchange sent c.args.one.role c.args.format c.args.id.now c.args.domain.now
    (sym c.is_fresh.ensures ∙ c.if-not-is_fresh.true))

pub returns-in-Some-clause-done : goal.returns-in-Some-clause-done
returns-in-Some-clause-done g c =
    quiet_done g.B.Banks.log c.args.state c.args.one (kinds.Hello c.args.format c.args.id.now c.args.domain.now) (holding c.args.one c.args.exchange.now) c.refuse.new.exchange (refusing c.in-Some.code c.hold.new.self) c.refuse.result c.refuse.ensures.sent c.refuse.ensures.same
    (λ sent. hello_refused (keeper_of c.args.state) c.args.one c.args.format c.args.id.now c.args.domain.now (holding c.args.one c.args.exchange.now) c.refuse.new.exchange (sym c.is_fresh.ensures ∙ c.if-not-is_fresh.false)
    c.in-Some.code c.in-Some.ensures (sent ∙ ap (refusing c.in-Some.code) c.hold.ensures))

pub returns-clause-done : goal.returns-clause-done
returns-clause-done g c =
    quiet_done g.B.Banks.log c.args.state c.args.one (kinds.Hello c.args.format c.args.id.now c.args.domain.now) (holding c.args.one c.args.exchange.now) c.ask.new.exchange (telling (question_of (keeper_of c.args.state)) c.hold-2.new.self) c.ask.result c.ask.ensures.sent c.ask.ensures.same
    (λ sent. hello_welcome (keeper_of c.args.state) c.args.one c.args.format c.args.id.now c.args.domain.now (holding c.args.one c.args.exchange.now) c.ask.new.exchange (sym c.is_fresh.ensures ∙ c.if-not-is_fresh.false)
    c.in_default.ensures (sent ∙ ap (telling (question_of (keeper_of c.args.state))) (c.hold-2.ensures ∙ ap (λ (one : Connection). holding one c.args.exchange.now) c.peer.ensures)))
