use Rattle.std.proofs.Common.{◌≡◌, drop}
use Rattle.serde_json.specs.View.{items_view}
use Rattle.jsonld_subjects.specs.SubjectReading.{read_each_subject}
use Rattle.jsonld_subjects.proofs.reading.read_each_subject.Given as goal

abbrev pub invariant-loop-value : goal.invariant-loop-value
invariant-loop-value l =
    read_each_subject l.context l.place (items_view (drop l.value-index l.items)) l.so_far ≡ read_each_subject l.context l.place (items_view l.items) l.initial.so_far
