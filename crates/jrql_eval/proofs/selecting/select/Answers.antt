use Rattle.std.proofs.Common.{◌∙◌, List, ℕ, ap}
use Rattle.std.proofs.lemmas.Result.{err_from_is_err_and}
use Rattle.jrql_rows.specs.KeptValues.{nothing_kept}
use Rattle.jrql_eval.proofs.KeptAnswers.{answered_fault, answered_few, select_kept}
use Rattle.jrql_eval.proofs.selecting.select.Goals as goal

pub returns-clause-answer : goal.returns-clause-answer
returns-clause-answer c =
    let graph = c.args.graph.now in
    let select = c.in-Select.select in
    select_kept graph c.args.query.now select c.new-kept.result c.find_rows.new.kept c.in_ok-selected.field-0 c.in-Select.is
    (c.new-kept.ensures ∙ ap (λ (vars : List ℕ). nothing_kept graph vars select.distinct) c.as_slice.ensures) c.in_ok-find_rows.ensures c.in_ok-selected.ensures

pub returns-clause-few : goal.returns-clause-few
returns-clause-few c =
    answered_few c.args.graph.now c.as_slice.result.now c.in-Select.select.distinct c.new-kept.result c.args.query.now.group c.new-kept.ensures c.find_rows.new.kept c.in_ok-find_rows.ensures

pub returns-in_err-find_rows-clause-too_many : goal.returns-in_err-find_rows-clause-too_many
returns-in_err-find_rows-clause-too_many c =
    let p = err_from_is_err_and c.from_residual.result c.from_residual.ensures.1 in
    rw (p.1, p.2) (answered_fault c.args.graph.now c.as_slice.result.now c.in-Select.select.distinct c.new-kept.result c.args.query.now.group c.new-kept.ensures _ c.in_err-find_rows.field-0.0 c.find_rows.new.kept c.in_err-find_rows.ensures)
