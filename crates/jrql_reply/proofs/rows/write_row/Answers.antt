use Rattle.std.proofs.Common.{◌≡◌, ◌∙◌, ◌++◌, ◌+◌, ◌∷◌, [], None, drop, ap, arith, rules}
use Rattle.std.specs.Option.{option_copied}
use Rattle.std.proofs.lemmas.List.{drop_more, drop_all}
use Rattle.std.proofs.lemmas.Result.{on_ok_weaker}
use Rattle.serde_json.specs.Data.{object}
use Rattle.jrql_patterns.specs.jsonld_values.WrittenTokens.{tokens_of_data}
use Rattle.jrql_reply.specs.Columns.{members_by}
use Rattle.jrql_reply.proofs.AnswerTexts.{row_begun, column_more, row_ended}
use Rattle.jrql_reply.proofs.rows.write_row.Goals as goal

pub loop-column-init : goal.loop-column-init
loop-column-init c = record {
  written = row_begun c.args.out.now.tokens c.begin_object.new.self.tokens (members_by c.args.context.now c.args.row.now None c.args.columns.now) (search rules);
  before = search rules;
}

pub loop-column-preserved : goal.loop-column-preserved
loop-column-preserved c =
    let l = c.loop-column in
    let columns = c.args.columns.now in
    let column = c.column-item.result in
    let begins : drop l.column-index columns ≡ column ∷ drop (l.column-index + 1) columns = drop_more columns l.column-index column (omega (arith, c.loop-column-test.true)) ∙ ap (λ x. x ∷ drop (l.column-index + 1) columns) (search rules) in
    record {
      written =
          column_more c.args.context.now c.args.row.now columns l.column-index column (option_copied l.last) (option_copied c.in_ok-last.last) l.out.tokens c.write_column.new.out.tokens _
          begins c.in_ok-last.ensures.ok l.invariant.written;
      before = search rules;
    }

pub returns-clause-ok : goal.returns-clause-ok
returns-clause-ok c =
    let l = c.loop-column in
    on_ok_weaker c.end_object.result
    (λ ends.
    row_ended c.args.context.now c.args.row.now c.args.columns.now l.column-index (option_copied l.last) l.out.tokens c.end_object.new.self.tokens _
    (drop_all l.column-index c.args.columns.now (omega (arith, c.loop-column-test.false))) ends l.invariant.written)
    c.end_object.ensures.ok
