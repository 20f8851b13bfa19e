use Rattle.std.proofs.Common.{◌≡◌, take, reverse}
use Rattle.mld_io.specs.Wires.{was_closed}
use Rattle.mld_io.proofs.wire_records.is_shut_by.Given as goal

abbrev pub invariant-loop-call : goal.invariant-loop-call
invariant-loop-call l = l.shut ≡ was_closed l.conn (reverse (take l.call-index l.calls))
