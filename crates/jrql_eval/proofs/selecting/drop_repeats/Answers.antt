use Rattle.std.proofs.Common.{◌∙◌, rules, sym, ap}
use Rattle.std.proofs.lemmas.Fn.{dedup_same}
use Rattle.std.specs.Cmp.Lexicographic.{slice_cmp}
use Rattle.std.specs.Ordering.{eq_by_cmp}
use Rattle.jrql_rows.specs.jrql_ast.QueryAnswers.{distinct_rows, place_cmp}
use Rattle.jrql_rows.specs.KeptValues.{row_at, rows_at}
use Rattle.jrql_eval.proofs.TripleScans.{view_dedup}
use Rattle.jrql_eval.proofs.selecting.drop_repeats.Goals as goal

pub returns-then-distinct : goal.returns-then-distinct
returns-then-distinct c =
    let kept = c.args.kept.now.rows in
    let same = eq_by_cmp (slice_cmp place_cmp) in
    ap (rows_at kept) (dedup_same _ (λ a b. same (row_at kept a) (row_at kept b)) _ (λ a b s f x y k. search rules) _ _ c.dedup_by.ensures.filtered)
    ∙ view_dedup (row_at kept) (slice_cmp place_cmp) same c.args.rows.now.items
    ∙ sym (ap (λ b. distinct_rows b (rows_at kept c.args.rows.now.items)) c.if-distinct.true)
