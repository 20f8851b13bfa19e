use Rattle.std.proofs.Common.{◌≡◌, take, reverse}
use Rattle.mld_io.specs.Wires.{sent_on}
use Rattle.mld_io.proofs.wire_records.sent_by.Given as goal

abbrev pub invariant-loop-call : goal.invariant-loop-call
invariant-loop-call l = l.bytes.items ≡ sent_on l.conn (reverse (take l.call-index l.calls))
