use Rattle.std.proofs.Common.{◌≡◌, ◌∙◌, ◌∷◌, [], ◌++◌, ◌+◌, sym, ap, arith}
use Rattle.std.specs.List.{range_with_len}
use Rattle.jrql_rows.proofs.ColumnLaws.{range_more}
use Rattle.jrql_eval.proofs.solving.all_variables.Goals as goal

pub loop-variable-preserved : goal.loop-variable-preserved
loop-variable-preserved c =
    let n = c.loop-variable.variable in
    let e : n ≡ 0 + n = omega arith in
    c.in_ok-push.ensures.items ∙ ap (λ l. l ++ n ∷ []) c.loop-variable.invariant ∙ ap (λ k. range_with_len 0 n ++ k ∷ []) e ∙ sym (range_more 0 n)
