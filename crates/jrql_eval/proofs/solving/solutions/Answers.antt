use Rattle.std.proofs.Common.{◌∙◌, List, Option, false, ℕ, ap, subst, sym}
use Rattle.jrql_rows.specs.rdf_terms.declared.terms.Term.{Term}
use Rattle.jrql_rows.specs.mld_ops.Present.{present}
use Rattle.jrql_rows.specs.jrql_ast.QueryAnswers.{IsSolutions, IsSortingOf, row_cmp}
use Rattle.jrql_rows.specs.ColumnOrder.{AreColumnsOf}
use Rattle.jrql_rows.specs.KeptValues.{nothing_kept, rows_at}
use Rattle.std.proofs.lemmas.Result.{err_from_is_err_and}
use Rattle.jrql_eval.proofs.KeptAnswers.{answered_fault, answered_few, solutions_kept}
use Rattle.jrql_eval.proofs.NothingAsked.{nothing_few, nothing_solved}
use Rattle.jrql_eval.proofs.solving.solutions.Goals as goal

pub returns-then-asks_nothing-clause-rows : goal.returns-then-asks_nothing-clause-rows
returns-then-asks_nothing-clause-rows c =
    let graph = present c.args.graph.now.pairs in
    let group = c.args.group.now in
    subst (λ (rows : List (List (Option Term))). IsSolutions graph group rows) (sym c.in_ok-rows.ensures)
    (nothing_solved graph group (sym c.asks_nothing.ensures ∙ c.if-asks_nothing.true))

pub returns-then-asks_nothing-clause-few : goal.returns-then-asks_nothing-clause-few
returns-then-asks_nothing-clause-few c =
    nothing_few (present c.args.graph.now.pairs) c.args.group.now (sym c.asks_nothing.ensures ∙ c.if-asks_nothing.true)

pub returns-clause-rows : goal.returns-clause-rows
returns-clause-rows c =
    let graph = c.args.graph.now in
    let group = c.args.group.now in
    let kept = c.find_rows.new.kept in
    let columns = c.in_ok-columns.columns.items in
    solutions_kept graph group columns c.new-kept.result kept c.in_ok-make_rows.field-0.items
    (subst (λ (names : List (List ℕ)). AreColumnsOf names group.hidden columns) c.as_slice.ensures c.in_ok-columns.ensures)
    (c.new-kept.ensures ∙ ap (λ (variables : List ℕ). nothing_kept graph variables false) (c.deref.ensures.value ∙ c.in_ok-variables.ensures))
    c.in_ok-find_rows.ensures
    (subst (λ (rows : List (List (Option Term))). IsSortingOf (row_cmp columns) kept.rows rows)
    (sym (c.in_ok-make_rows.ensures ∙ ap (rows_at kept.rows) c.deref-3.ensures.value))
    (subst (λ (given : List ℕ). IsSortingOf (row_cmp given) kept.rows (rows_at kept.rows c.in_ok-sorted.sorted.items)) c.deref-2.ensures.value c.in_ok-sorted.ensures))

pub returns-clause-few : goal.returns-clause-few
returns-clause-few c =
    answered_few c.args.graph.now c.deref.result.now false c.new-kept.result c.args.group.now c.new-kept.ensures c.find_rows.new.kept c.in_ok-find_rows.ensures

pub returns-in_err-find_rows-clause-too_many : goal.returns-in_err-find_rows-clause-too_many
returns-in_err-find_rows-clause-too_many c =
    let p = err_from_is_err_and c.from_residual-in_err-find_rows.result c.from_residual-in_err-find_rows.ensures.1 in
    rw (p.1, p.2) (answered_fault c.args.graph.now c.deref.result.now false c.new-kept.result c.args.group.now c.new-kept.ensures _ c.in_err-find_rows.field-0.0 c.find_rows.new.kept c.in_err-find_rows.ensures)
