use Rattle.std.proofs.Common.{◌∙◌, ◌∷◌, [], ◌++◌, ◌+◌, sym, ap, append_assoc}
use Rattle.std.specs.List.{range_with_len}
use Rattle.jrql_rows.proofs.ColumnLaws.{range_more}
use Rattle.jrql_rows.proofs.columns.add_hidden.Goals as goal

pub loop-number-preserved : goal.loop-number-preserved
loop-number-preserved c =
    let number = c.loop-number.number in
    c.in_ok-push.ensures.items
    ∙ ap (λ l. l ++ (c.args.first + number) ∷ []) c.loop-number.invariant
    ∙ append_assoc c.args.numbers.now.items (range_with_len c.args.first number) ((c.args.first + number) ∷ [])
    ∙ ap (λ l. c.args.numbers.now.items ++ l) (sym (range_more c.args.first number))
