use Rattle.std.proofs.Common.{length}
use Rattle.jrql_rows.proofs.rows.+cmp_by.Given as goal

abbrev pub decreases-cmp_by : goal.decreases-cmp_by
decreases-cmp_by l = length l.variables.now
