use Rattle.std.proofs.Common.{◌≡◌, ◌∙◌, ◌∷◌, [], ◌++◌, ◌+◌, sym, ap, arith}
use Rattle.std.specs.List.{range_with_len}
use Rattle.jrql_rows.proofs.ColumnLaws.{range_more}
use Rattle.jrql_rows.proofs.row_orders.all_rows.Goals as goal

pub loop-row-preserved : goal.loop-row-preserved
loop-row-preserved c =
    let n = c.loop-row.row in
    let e : n ≡ 0 + n = omega arith in
    c.in_ok-push.ensures.items ∙ ap (λ l. l ++ n ∷ []) c.loop-row.invariant ∙ ap (λ k. range_with_len 0 n ++ k ∷ []) e ∙ sym (range_more 0 n)
