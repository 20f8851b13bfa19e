use Rattle.std.proofs.Common.{◌≡◌, drop}
use Rattle.serde_json.specs.View.{items_view}
use Rattle.jrql_patterns.specs.QueryReading.{read_columns}
use Rattle.jrql_patterns.proofs.parts.read_columns.Given as goal

abbrev pub invariant-loop-value : goal.invariant-loop-value
invariant-loop-value l =
    read_columns (items_view (drop l.value-index l.items)) l.so_far ≡ read_columns (items_view l.items) l.initial.so_far
