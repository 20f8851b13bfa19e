use Rattle.std.proofs.Common.{◌≡◌, length}
use Rattle.std.specs.Vec.Iter.{into_iter_items, into_iter_len}
use Rattle.node_core.proofs.UnderWay.{IsUnderWay}
use Rattle.node_core.proofs.frames.take_frames.Given as goal

abbrev pub invariant-loop-frame : goal.invariant-loop-frame
invariant-loop-frame g l = record {
  way : IsUnderWay g.B.Banks.log g.B.Banks.meter l.fn.state l.fn.frames.items l.fn.exchange l.state l.exchange (into_iter_items l.frame-iterator);
  counted : into_iter_len l.frame-iterator ≡ length (into_iter_items l.frame-iterator);
}
