use Rattle.std.proofs.Common.{◌≡◌, take, map}
use Rattle.jrql_patterns.proofs.of_jsonld_values.WrittenItems.{HasBegun}
use Rattle.jrql_reply.specs.AnswerText.{row_data}
use Rattle.jrql_reply.proofs.rows.write_rows.Given as goal

abbrev pub invariant-loop-row : goal.invariant-loop-row
invariant-loop-row l = record {
  written : HasBegun l.fn.out.tokens l.out.tokens (map (row_data l.context l.names l.variables) (take l.row-index l.rows));
  before : l.out.before ≡ l.fn.out.before;
}
