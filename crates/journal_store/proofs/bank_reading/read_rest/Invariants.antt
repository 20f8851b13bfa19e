use Rattle.std.proofs.Common.{◌≡◌, ◌-◌, Some, length, take}
use Rattle.mld_io.specs.Arm.{Metered}
use Rattle.mld_io.specs.Disk.{Log, bytes_of, seen}
use Rattle.journal_store.proofs.bank_reading.read_rest.Given as goal

abbrev pub invariant-loop-side : goal.invariant-loop-side
invariant-loop-side g l = record {
  bytes : (log : Log) → g.B.Banks.log l.fn.banks ≡ Some log → l.bytes.items ≡ take (length l.bytes.items) (bytes_of l.side (seen log));
  log : g.B.Banks.log l.banks ≡ g.B.Banks.log l.fn.banks;
  meter : Metered 0 (g.B.Banks.meter l.fn.banks) (g.B.Banks.meter l.banks) (Unit {0}) ⊥;
}

abbrev pub decreases-loop-side : goal.decreases-loop-side
decreases-loop-side g l = l.size - length l.bytes.items
