use Rattle.std.proofs.Common.{◌∙◌, refl}
use Rattle.node_run.proofs.LogLaws.{on_err, sends_none, sends_more, sends_front, sends_all}
use Rattle.node_run.proofs.turns.send_all.Goals as goal

pub loop-one-init : goal.loop-one-init
loop-one-init g c = record { sends = sends_none (g.W.Wire.log c.args.wire.now); counted = refl; quiet = refl }

pub returns-in_err-send_one-clause-err : goal.returns-in_err-send_one-clause-err
returns-in_err-send_one-clause-err g c =
    on_err c.from_residual.result
    (sends_front c.args.sent.now c.loop-one.one-index c.one-item.result c.loop-one-test.true c.one-item.is (g.W.Wire.log c.args.wire.now) (g.W.Wire.log c.loop-one.wire)
    (g.W.Wire.log c.send_one.new.wire) c.loop-one.invariant.sends c.in_err-send_one.ensures.err)

pub loop-one-preserved : goal.loop-one-preserved
loop-one-preserved g c = record {
  sends = sends_more c.args.sent.now c.loop-one.one-index c.one-item.result c.loop-one-test.true c.one-item.is (g.W.Wire.log c.args.wire.now) (g.W.Wire.log c.loop-one.wire)
      (g.W.Wire.log c.send_one.new.wire) c.loop-one.invariant.sends c.in_ok-send_one.ensures.ok;
  counted = c.in_ok-send_one.ensures.taken ∙ c.loop-one.invariant.counted;
  quiet = c.in_ok-send_one.ensures.cause.good ∙ c.loop-one.invariant.quiet;
}

pub returns-clause-ok : goal.returns-clause-ok
returns-clause-ok g c = sends_all c.args.sent.now c.loop-one.one-index (g.W.Wire.log c.args.wire.now) (g.W.Wire.log c.loop-one.wire) c.loop-one-test.false c.loop-one.invariant.sends
