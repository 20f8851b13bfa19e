use Rattle.std.proofs.Common.{length}
use Rattle.reply_rows.proofs.row_orders.+cmp_values.Given as goal

abbrev pub decreases-cmp_values : goal.decreases-cmp_values
decreases-cmp_values l = length l.row.now
