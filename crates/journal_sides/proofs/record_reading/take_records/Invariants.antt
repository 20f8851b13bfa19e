use Rattle.std.proofs.Common.{ℕ, ◌+◌, ◌-◌, ◌<◌, ◌≤◌, [], length, drop}
use Rattle.journal_sides.specs.RecordsRead.{Shows}
use Rattle.journal_sides.specs.Heads.{HeadValue}
use Rattle.journal_sides.specs.RecordBytes.{read_records}
use Rattle.journal_sides.proofs.RecordReading.{IsReading}
use Rattle.journal_sides.proofs.record_reading.take_records.Given as goal

abbrev pub invariant-loop-progress : goal.invariant-loop-progress
invariant-loop-progress l = record {
  within : l.place ≤ length l.input;
  reads : (head : HeadValue) (steps : ℕ) → Shows head [] l.fn.progress.entries.items l.fn.progress.path l.fn.progress.known.ticks → length l.fn.input < l.fn.at + steps
      → IsReading head (read_records steps head [] l.fn.at (drop l.fn.at l.fn.input)) l.fn.input l.progress.entries.items l.progress.path l.progress.known.ticks l.place;
}

abbrev pub decreases-loop-progress : goal.decreases-loop-progress
decreases-loop-progress l = length l.input - l.place
