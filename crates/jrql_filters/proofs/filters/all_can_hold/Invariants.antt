use Rattle.std.proofs.Common.{◌≡◌, drop}
use Rattle.jrql_filters.specs.FilteredRows.{all_can_hold}
use Rattle.jrql_filters.proofs.filters.all_can_hold.Given as goal

abbrev pub invariant-loop-filter : goal.invariant-loop-filter
invariant-loop-filter g l = all_can_hold l.filters (g.V.Values.values l.row) ≡ all_can_hold (drop l.filter-index l.filters) (g.V.Values.values l.row)
