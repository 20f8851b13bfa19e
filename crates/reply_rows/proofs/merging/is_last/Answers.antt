use Rattle.std.proofs.Common.{◌∙◌, ap, is_eq}
use Rattle.reply_rows.proofs.MergingLaws.{last_told}
use Rattle.reply_rows.proofs.SearchLaws.{eq_told}
use Rattle.reply_rows.proofs.merging.is_last.Goals as goal

pub returns-in-Some-clause-last : goal.returns-in-Some-clause-last
returns-in-Some-clause-last c = λ front last e.
    last_told c.args.rows.now front c.in-Some.last.now last c.args.row.now c.is_eq.result c.in-Some.ensures.value
    (eq_told c.in-Some.last.now c.args.row.now c.is_eq.result (c.is_eq.ensures ∙ ap is_eq c.cmp_rows.ensures)) e
