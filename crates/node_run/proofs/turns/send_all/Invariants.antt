use Rattle.std.proofs.Common.{◌≡◌, take}
use Rattle.node_run.specs.ServiceUnderWay.{Sends}
use Rattle.node_run.proofs.turns.send_all.Given as goal

abbrev pub invariant-loop-one : goal.invariant-loop-one
invariant-loop-one g l = record {
  sends : Sends (take l.one-index l.sent) (g.W.Wire.log l.fn.wire) (g.W.Wire.log l.wire);
  counted : g.W.Wire.taken l.wire ≡ g.W.Wire.taken l.fn.wire;
  quiet : g.W.Wire.faults l.wire ≡ g.W.Wire.faults l.fn.wire;
}
