use Rattle.std.proofs.Common.{◌≡◌}
use Rattle.serde_json.specs.View.{members_view}
use Rattle.jrql_update.specs.UpdateReading.{read_clauses}
use Rattle.jrql_update.proofs.clauses.read_clauses.Given as goal

abbrev pub invariant-loop-key : goal.invariant-loop-key
invariant-loop-key l =
    read_clauses l.context (members_view l.key-iterator) l.so_far ≡ read_clauses l.context (members_view l.members.entries) l.initial.so_far
