use Rattle.std.proofs.Common.{◌≡◌, ◌+◌, ◌-◌, ◌∷◌, [], List, Option, ℕ, length, slice_index_or, sym, subst, arith}
use Rattle.jrql_ast.specs.QueryAnswers.{project}
use Rattle.jrql_rows.specs.KeptValues.{KeepsRows, cut_rows, rows_numbered}
use Rattle.jrql_rows.proofs.Keeping.{rows_dropped, rows_put}
use Rattle.jrql_rows.proofs.kept.put_row.Goals as goal

pub returns-then-is_repeated-clause-kept : goal.returns-then-is_repeated-clause-kept
returns-then-is_repeated-clause-kept c =
    let graph = c.args.row.now.graph in
    let columns = c.args.columns.now in
    let row = c.args.row.now.row in
    let rows = c.args.rows in
    let old = c.args.numbers.now.items in
    let start : c.len-start.result ≡ length old = omega arith in
    let same = subst (λ (l : List (Option ℕ)). slice_index_or (cut_rows (length columns) (rows + 1) l) (rows - 1) [] ≡ slice_index_or (cut_rows (length columns) (rows + 1) l) rows [])
    c.deref.ensures.value (c.is_repeated.ensures.same c.if-is_repeated.true) in
    subst (λ (l : List (Option ℕ)). KeepsRows c.args.distinct (rows_numbered graph (length columns) rows old) (project columns row ∷ []) (rows_numbered graph (length columns) rows l))
    (sym c.truncate.ensures.items)
    (rows_dropped graph columns row rows old c.add_row.new.numbers.items c.requires.whole c.in_ok-add_row.ensures.ok c.args.distinct c.len-start.result c.if-distinct.true start
    (c.is_repeated.ensures.some c.if-is_repeated.true) same)

pub returns-clause-kept : goal.returns-clause-kept
returns-clause-kept c =
    rows_put c.args.row.now.graph c.args.columns.now c.args.row.now.row c.args.rows c.args.numbers.now.items c.add_row.new.numbers.items c.requires.whole c.in_ok-add_row.ensures.ok c.args.distinct
