-- One more front was written.
use Rattle.std.proofs.Common.{length, ap, arith, length-drop, ◌∙◌}
use Rattle.mld_io.proofs.Writes.{Appends-more}
use Rattle.mld_io.proofs.sinks.write_all.Goals as goal

pub loop-done-preserved : goal.loop-done-preserved
loop-done-preserved g c = record {
  in_piece = omega (arith, c.in_ok-done.ensures.bound, length-drop c.loop-done.done c.args.piece.now);
  written = Appends-more _ _ _ c.args.piece.now c.loop-done.done c.in_ok-done.field-0 c.loop-done.invariant.written c.in_ok-done.ensures.bytes;
  untouched = λ empty. absurd (omega (arith, ap length empty));
  no_fault = c.in_ok-done.ensures.cause.good ∙ c.loop-done.invariant.no_fault;
}
