-- The front of the piece up to `done` is written, and an empty piece is not.
use Rattle.std.proofs.Common.{◌≡◌, ◌-◌, ◌≤◌, [], length, take}
use Rattle.std.specs.Io.KnownBytes.{Appends}
use Rattle.mld_io.proofs.sinks.write_all.Given as goal

abbrev pub invariant-loop-done : goal.invariant-loop-done
invariant-loop-done g l = record {
  in_piece : l.done ≤ length l.piece;
  written : Appends (g.K.Sink.held l.initial.sink) (g.K.Sink.held l.sink) (take l.done l.piece);
  untouched : l.piece ≡ [] → l.sink ≡ l.initial.sink;
  no_fault : g.K.Sink.faults l.sink ≡ g.K.Sink.faults l.initial.sink;
}

abbrev pub decreases-loop-done : goal.decreases-loop-done
decreases-loop-done g l = length l.piece - l.done
