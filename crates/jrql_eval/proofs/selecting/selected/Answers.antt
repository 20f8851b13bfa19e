use Rattle.std.proofs.Common.{◌∙◌, drop, ap}
use Rattle.jrql_rows.specs.jrql_ast.QueryAnswers.{limited}
use Rattle.jrql_rows.specs.KeptValues.{row_at, rows_at}
use Rattle.jrql_eval.proofs.AnswerLaws.{map_cut}
use Rattle.jrql_eval.proofs.selecting.selected.Goals as goal

pub returns : goal.returns
returns c =
    let kept = c.args.kept.now.rows in
    let select = c.args.select.now in record {
      values = rows_at kept c.in_ok-rows.rows.items;
      sorted = c.in_ok-rows.ensures;
      whole =
          c.from_vec.ensures
          ∙ c.in_ok-make_rows.ensures
          ∙ ap (rows_at kept) (c.cut-left.ensures ∙ ap (λ l. limited select.limit (drop select.offset l)) c.deref.ensures.value)
          ∙ map_cut (row_at kept) select.limit select.offset c.drop_repeats.new.rows.items
          ∙ ap (λ l. limited select.limit (drop select.offset l)) c.drop_repeats.ensures;
    }
