use Rattle.std.proofs.Common.{◌≡◌, ◌+◌, ◌≤◌, length, vec_len, vec_capacity}
use Rattle.reply_rows.specs.Times.{is_same_row}
use Rattle.reply_rows.specs.Rising.{row_order}
use Rattle.reply_rows.proofs.Risen.{IsGoing}
use Rattle.reply_rows.proofs.RowLaws.{rows_decide, rows_exact, rows_total}
use Rattle.reply_rows.proofs.merging.without.Given as goal

abbrev pub invariant-loop-row : goal.invariant-loop-row
invariant-loop-row l = record {
  going : IsGoing is_same_row rows_decide row_order rows_total rows_exact l.fn.rows.items l.fn.removed l.kept.items l.rest.items l.left;
  room : vec_len l.kept + length l.rest.items ≤ vec_capacity l.kept;
  len : vec_len l.kept + length l.rest.items ≤ length l.fn.rows.items;
}

abbrev pub decreases-loop-row : goal.decreases-loop-row
decreases-loop-row l = length l.left
