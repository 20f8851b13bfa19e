-- The bytes so far are a front of the line, and keep both limits.
use Rattle.std.proofs.Common.{◌≡◌, ℕ, ◌-◌, ◌≤◌, List, Some, vec_len}
use Rattle.mld_io.proofs.LineSteps.{ReadSoFar}
use Rattle.mld_io.proofs.line_reader.take_line.Given as goal

abbrev pub invariant-loop-bytes : goal.invariant-loop-bytes
invariant-loop-bytes g l = record {
  size : l.size ≡ vec_len l.bytes;
  in_room : l.size ≤ l.room;
  in_line : vec_len l.bytes ≤ l.line;
  taken : l.taken ≡ l.initial.taken;
  left : (bytes : List ℕ) → g.S.Source.left l.initial.source ≡ Some bytes → ReadSoFar bytes l.bytes.items (g.S.Source.left l.source);
  no_fault : g.S.Source.faults l.source ≡ g.S.Source.faults l.initial.source;
}

abbrev pub decreases-loop-bytes : goal.decreases-loop-bytes
decreases-loop-bytes g l = l.room - l.size
