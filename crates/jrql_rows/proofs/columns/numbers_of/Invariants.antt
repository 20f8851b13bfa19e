use Rattle.std.proofs.Common.{◌≡◌, map, take}
use Rattle.jrql_rows.proofs.columns.numbers_of.Given as goal

abbrev pub invariant-loop-pair : goal.invariant-loop-pair
invariant-loop-pair l = l.numbers.items ≡ map (λ pair. pair.1) (take l.pair-index l.list)
