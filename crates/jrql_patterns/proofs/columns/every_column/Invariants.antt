use Rattle.std.proofs.Common.{◌≡◌, [], drop}
use Rattle.jrql_patterns.specs.QueryReading.{each_placed}
use Rattle.jrql_patterns.proofs.columns.every_column.Given as goal

abbrev pub invariant-loop-number : goal.invariant-loop-number
invariant-loop-number l = each_placed l.names.named (drop l.number-index l.standing) l.columns.items ≡ each_placed l.names.named l.standing []
