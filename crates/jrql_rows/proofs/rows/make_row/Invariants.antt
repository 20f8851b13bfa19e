use Rattle.std.proofs.Common.{◌≡◌, take}
use Rattle.jrql_rows.specs.Bindings.{row_numbered}
use Rattle.jrql_rows.proofs.rows.make_row.Given as goal

abbrev pub invariant-loop-number : goal.invariant-loop-number
invariant-loop-number l = l.row.items ≡ row_numbered l.graph (take l.number-index l.numbers)
