use Rattle.std.proofs.Common.{◌≡◌}
use Rattle.serde_json.specs.View.{members_view}
use Rattle.jrql_patterns.specs.QueryReading.{read_parts}
use Rattle.jrql_patterns.proofs.parts.read_parts.Given as goal

abbrev pub invariant-loop-key : goal.invariant-loop-key
invariant-loop-key l =
    read_parts l.context (members_view l.key-iterator) l.so_far ≡ read_parts l.context (members_view l.members.entries) l.initial.so_far
