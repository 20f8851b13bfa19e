use Rattle.std.proofs.Common.{◌≡◌, drop}
use Rattle.std.specs.Option.{option_copied}
use Rattle.serde_json.specs.View.{items_view, members_view}
use Rattle.jsonld_subjects.specs.SubjectReading.{read_each, read_members}
use Rattle.jsonld_subjects.proofs.members.+subject.Given as goal

abbrev pub invariant-read_members-loop-key : goal.invariant-read_members-loop-key
invariant-read_members-loop-key l =
    read_members l.context l.place (members_view l.key-iterator) l.so_far ≡ read_members l.context l.place (members_view l.members.entries) l.initial.so_far

abbrev pub invariant-read_each-loop-value : goal.invariant-read_each-loop-value
invariant-read_each-loop-value l =
    read_each l.context l.place l.key (option_copied l.kind) l.property (items_view (drop l.value-index l.items)) l.so_far
    ≡ read_each l.context l.place l.key (option_copied l.kind) l.property (items_view l.items) l.initial.so_far
