use Rattle.std.proofs.Common.{arith}
use Rattle.net_world.proofs.SettledSteps.{kept_more}
use Rattle.net_world.proofs.settling.ask_first.Goals as goal

pub loop-number-preserved : goal.loop-number-preserved
loop-number-preserved g c = (kept_more g.B.Banks.log c.loop-number.number c.args.clones.now c.loop-number.invariant.0 c.ask_live.ensures, omega (arith, c.loop-number-test.true))

pub returns : goal.returns
returns g c = λ place below. c.loop-number.invariant.0 place (omega (arith, below, c.loop-number-test.false))
