use Rattle.std.proofs.Common.{◌≡◌, ◌++◌, map, take, drop}
use Rattle.jsonld_subjects.specs.jsonld_values.Numbering.{numbered_filter}
use Rattle.jrql_patterns.proofs.open_groups.number_filters.Given as goal

abbrev pub invariant-loop-filter : goal.invariant-loop-filter
invariant-loop-filter l =
    l.filters ≡ map (numbered_filter l.named) (take l.filter-index l.fn.filters) ++ drop l.filter-index l.fn.filters
