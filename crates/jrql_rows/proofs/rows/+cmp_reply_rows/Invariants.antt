use Rattle.std.proofs.Common.{length}
use Rattle.jrql_rows.proofs.rows.+cmp_reply_rows.Given as goal

abbrev pub decreases-cmp_reply_rows : goal.decreases-cmp_reply_rows
decreases-cmp_reply_rows l = length l.row.now
