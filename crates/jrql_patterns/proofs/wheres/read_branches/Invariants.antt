use Rattle.std.proofs.Common.{◌≡◌, drop}
use Rattle.serde_json.specs.View.{items_view}
use Rattle.jrql_patterns.specs.WhereReading.{read_branches}
use Rattle.jrql_patterns.proofs.wheres.read_branches.Given as goal

abbrev pub invariant-loop-value : goal.invariant-loop-value
invariant-loop-value l =
    read_branches l.context (items_view (drop l.value-index l.items)) l.so_far ≡ read_branches l.context (items_view l.items) l.initial.so_far
