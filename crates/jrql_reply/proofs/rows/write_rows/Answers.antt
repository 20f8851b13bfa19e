use Rattle.std.proofs.Common.{◌≡◌, ◌∙◌, ◌++◌, None, ap, arith, rules}
use Rattle.std.proofs.lemmas.Result.{on_ok_weaker}
use Rattle.serde_json.specs.Data.{object, Members}
use Rattle.jrql_patterns.proofs.of_jsonld_values.WrittenItems.{begun, next_of, all_of}
use Rattle.jrql_patterns.specs.jsonld_values.WrittenTokens.{tokens_of_data}
use Rattle.jrql_reply.specs.AnswerText.{row_data}
use Rattle.jrql_reply.proofs.ColumnOrder.{row_by_columns}
use Rattle.jrql_reply.proofs.rows.write_rows.Goals as goal

pub loop-row-init : goal.loop-row-init
loop-row-init c = record {
  written = begun c.args.out.now.tokens c.begin_array.new.self.tokens (search rules);
  before = search rules;
}

pub loop-row-preserved : goal.loop-row-preserved
loop-row-preserved c =
    let l = c.loop-row in
    let row = c.row-item.result in
    let columns = c.in_ok-columns.columns.items in
    let by_columns = row_by_columns c.args.context.now c.args.names.now c.args.variables.now columns row c.in_ok-columns.ensures.permutation c.in_ok-columns.ensures.sorted in
    let wrote : c.write_row.new.out.tokens ≡ l.out.tokens ++ tokens_of_data (row_data c.args.context.now c.args.names.now c.args.variables.now row) =
    search rules ∙ ap (λ (members : Members). l.out.tokens ++ tokens_of_data (object members)) by_columns in
    record {
      written =
          next_of (row_data c.args.context.now c.args.names.now c.args.variables.now) c.args.rows.now l.row-index row c.args.out.now.tokens l.out.tokens c.write_row.new.out.tokens
          (omega (arith, c.loop-row-test.true)) (search rules) l.invariant.written wrote;
      before = search rules;
    }

pub returns-clause-ok : goal.returns-clause-ok
returns-clause-ok c =
    on_ok_weaker c.end_array.result
    (all_of (row_data c.args.context.now c.args.names.now c.args.variables.now) c.args.rows.now c.loop-row.row-index c.args.out.now.tokens c.loop-row.out.tokens c.end_array.new.self.tokens
    (omega (arith, c.loop-row-test.false)) c.loop-row.invariant.written)
    c.end_array.ensures.ok
