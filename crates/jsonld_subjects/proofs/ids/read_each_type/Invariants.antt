use Rattle.std.proofs.Common.{◌≡◌, drop}
use Rattle.serde_json.specs.View.{items_view}
use Rattle.jsonld_subjects.specs.SubjectReading.{read_each_type}
use Rattle.jsonld_subjects.proofs.ids.read_each_type.Given as goal

abbrev pub invariant-loop-value : goal.invariant-loop-value
invariant-loop-value l =
    read_each_type l.context (items_view (drop l.value-index l.items)) l.so_far ≡ read_each_type l.context (items_view l.items) l.initial.so_far
