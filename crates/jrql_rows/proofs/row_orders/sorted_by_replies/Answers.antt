use Rattle.std.specs.Cmp.Lexicographic.{slice_cmp}
use Rattle.jrql_ast.specs.QueryAnswers.{reply_place_cmp}
use Rattle.jrql_rows.proofs.RowNumbers.{rows_sorted}
use Rattle.jrql_rows.proofs.row_orders.sorted_by_replies.Goals as goal

pub returns : goal.returns
returns c =
    rows_sorted (slice_cmp reply_place_cmp) c.args.kept.now.rows c.len.result c.in_ok-sorted.sorted.items c.sort_by_hints.new.elements.items c.len.ensures c.in_ok-sorted.ensures
    c.sort_by_hints.ensures.same c.in_ok-sort_by_hints.ensures.sorted
