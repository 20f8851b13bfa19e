use Rattle.std.proofs.Common.{◌≡◌, ◌++◌, take}
use Rattle.op_codec.specs.Stored.{IsStoredEntry}
use Rattle.op_codec.proofs.Shapes.{EachBelow}
use Rattle.journal_sides.specs.RecordBytes.{blocks}
use Rattle.journal_sides.specs.WrittenRecords.{entry_records}
use Rattle.journal_sides.proofs.head_writing.append_blocks.Given as goal

abbrev pub invariant-loop-entry : goal.invariant-loop-entry
invariant-loop-entry l = record { items : l.out.items ≡ l.fn.out.items ++ blocks (entry_records (take l.entry-index l.entries)); each : EachBelow IsStoredEntry l.entries l.entry-index }
