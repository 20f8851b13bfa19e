use Rattle.std.proofs.Common.{length}
use Rattle.jrql_rows.proofs.rows.+cmp_rows.Given as goal

abbrev pub decreases-cmp_rows : goal.decreases-cmp_rows
decreases-cmp_rows l = length l.row.now
