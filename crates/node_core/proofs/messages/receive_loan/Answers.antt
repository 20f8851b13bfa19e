use Rattle.std.proofs.Common.{ℕ, List, length, sym, ap, subst}
use Rattle.mld_ops.specs.Entry.{EntryValue}
use Rattle.node_core.specs.LoanCalls.{MayBeSent, HasSent}
use Rattle.node_core.proofs.CallLaws.{on_ok, on_err, may_be_sent, receive_goes, receive_stops}
use Rattle.node_model.proofs.of_shell_session.MeterLaws.{meters_of}
use Rattle.node_core.proofs.messages.receive_loan.Goals as goal

pub send_for-requires : goal.send_for-requires
send_for-requires g c =
    let e = c.receive-answered.ensures in
    let result = c.receive-answered.result in
    let new = c.receive-answered.new.self in
    let kept = ap (λ (entries : List EntryValue). length entries) c.journal-kept.ensures in
    subst (λ (n : ℕ). MayBeSent result n new.local.entries) (sym kept)
    (may_be_sent g.B.Banks.log g.B.Banks.meter c.args.clone.now new c.args.message.now result c.requires.opened e.ok e.opened e.closed e.durable)

pub returns-clause-done : goal.returns-clause-done
returns-clause-done g c =
    let e = c.receive-answered.ensures in
    let result = c.receive-answered.result in
    let new = c.receive-answered.new.self in
    let kept = ap (λ (entries : List EntryValue). length entries) c.journal-kept.ensures in
    on_ok c.send_for.result
    (λ sent. receive_goes g.B.Banks.log g.B.Banks.meter c.args.clone.now new c.args.message.now c.args.exchange.now c.send_for.new.exchange result c.requires.opened
    e.ok e.opened e.err e.spent e.left e.durable
    (subst (λ (n : ℕ). HasSent result n new.local c.args.exchange.now c.send_for.new.exchange) kept sent))
    c.send_for.ensures.done

pub returns-clause-stopped : goal.returns-clause-stopped
returns-clause-stopped g c =
    let e = c.receive-answered.ensures in
    on_err c.send_for.result
    (receive_stops g.B.Banks.log g.B.Banks.meter c.args.clone.now c.receive-answered.new.self c.args.message.now c.receive-answered.result
    e.ok e.opened e.left e.durable)

pub returns-clause-fault : goal.returns-clause-fault
returns-clause-fault g c =
    let device = c.send_for.ensures.device in
    meters_of _ (g.B.Banks.meter c.args.clone.now.banks) (g.B.Banks.meter c.receive-answered.new.self.banks) device.0 device.1
    c.receive-answered.ensures.durable.2.metered
