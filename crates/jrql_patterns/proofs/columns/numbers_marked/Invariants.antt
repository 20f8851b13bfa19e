use Rattle.std.proofs.Common.{◌≡◌}
use Rattle.std.specs.List.{filter, range_with_len}
use Rattle.jrql_patterns.specs.Marking.{is_marked}
use Rattle.jrql_patterns.proofs.columns.numbers_marked.Given as goal

abbrev pub invariant-loop-number : goal.invariant-loop-number
invariant-loop-number l = l.numbers.items ≡ filter (is_marked l.marks) (range_with_len 0 l.number)
