use Rattle.jrql_ast.specs.QueryAnswers.{row_cmp}
use Rattle.jrql_rows.proofs.RowNumbers.{rows_sorted}
use Rattle.jrql_rows.proofs.row_orders.sorted_by_columns.Goals as goal

pub returns : goal.returns
returns c =
    rows_sorted (row_cmp c.args.columns.now) c.args.kept.now.rows c.len.result c.in_ok-sorted.sorted.items c.sort_by_hints.new.elements.items c.len.ensures c.in_ok-sorted.ensures
    c.sort_by_hints.ensures.same c.in_ok-sort_by_hints.ensures.sorted
