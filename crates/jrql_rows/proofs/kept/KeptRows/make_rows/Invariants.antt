use Rattle.std.proofs.Common.{◌≡◌, take}
use Rattle.jrql_rows.specs.KeptValues.{rows_at}
use Rattle.jrql_rows.proofs.kept.KeptRows.make_rows.Given as goal

abbrev pub invariant-loop-row : goal.invariant-loop-row
invariant-loop-row l = l.made.items ≡ rows_at l.self.rows (take l.row-index l.rows)
