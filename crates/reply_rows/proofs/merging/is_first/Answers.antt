use Rattle.std.proofs.Common.{◌∙◌, ap, is_eq}
use Rattle.reply_rows.proofs.MergingLaws.{first_told}
use Rattle.reply_rows.proofs.SearchLaws.{eq_told}
use Rattle.reply_rows.proofs.merging.is_first.Goals as goal

pub returns-in-Some-clause-first : goal.returns-in-Some-clause-first
returns-in-Some-clause-first c = λ first others e.
    first_told c.args.rows.now.items others c.in-Some.first.now first c.args.row.now c.is_eq.result c.in-Some.ensures.lookup
    (eq_told c.in-Some.first.now c.args.row.now c.is_eq.result (c.is_eq.ensures ∙ ap is_eq c.cmp_rows.ensures)) e
