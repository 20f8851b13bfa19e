use Rattle.std.proofs.Common.{◌≡◌, [], All, get_or, map}
use Rattle.std.specs.List.{range_with_len}
use Rattle.jrql_rows.proofs.columns.named.Given as goal

abbrev pub invariant-loop-number : goal.invariant-loop-number
invariant-loop-number l =
    (map (λ pair. pair.1) l.list.items ≡ range_with_len 0 l.number) × All (λ pair. pair.0.now ≡ get_or l.names pair.1 []) l.list.items
