use Rattle.std.proofs.Common.{◌≡◌, ◌++◌, None, drop}
use Rattle.std.specs.Option.{option_copied}
use Rattle.serde_json.specs.Data.{object}
use Rattle.jrql_patterns.specs.jsonld_values.WrittenTokens.{tokens_of_data, tokens_of_members}
use Rattle.jrql_reply.specs.Columns.{members_by}
use Rattle.jrql_reply.proofs.rows.write_row.Given as goal

abbrev pub invariant-loop-column : goal.invariant-loop-column
invariant-loop-column l = record {
  written : l.out.tokens ++ tokens_of_members (members_by l.context l.row (option_copied l.last) (drop l.column-index l.columns))
      ≡ l.fn.out.tokens ++ tokens_of_data (object (members_by l.context l.row None l.columns));
  before : l.out.before ≡ l.fn.out.before;
}
