use Rattle.std.proofs.Common.{◌∙◌, List, true, ℕ, sym, ap, subst}
use Rattle.std.specs.List.{range_with_len}
use Rattle.std.proofs.lemmas.Result.{err_from_is_err_and}
use Rattle.jrql_rows.specs.mld_ops.Present.{present}
use Rattle.jrql_rows.specs.jrql_ast.declared.answers.Described.{Described}
use Rattle.jrql_rows.specs.jrql_ast.declared.queries.Target.{Target}
use Rattle.jrql_rows.specs.jrql_ast.InForm.{variables_of}
use Rattle.jrql_rows.specs.KeptValues.{nothing_kept}
use Rattle.jrql_eval.specs.Asked.{IsDescribedBy}
use Rattle.jrql_eval.proofs.KeptAnswers.{answered_fault, answered_few, describe_kept}
use Rattle.jrql_eval.proofs.describing.describe.Goals as goal

pub returns-clause-answer : goal.returns-clause-answer
returns-clause-answer c =
    let graph = c.args.graph.now in
    let kept = c.find_rows.new.kept in
    let start = c.new-kept.ensures ∙ ap (λ (columns : List ℕ). nothing_kept graph columns true) (c.deref.ensures.value ∙ c.in_ok-variables.ensures) in
    describe_kept graph c.args.query.now c.in-Describe.targets c.new-kept.result kept c.from_vec.result c.in-Describe.is start c.in_ok-find_rows.ensures
    (subst (λ (subjects : List Described). IsDescribedBy (present graph.pairs) kept.rows c.in-Describe.targets subjects) (sym c.from_vec.ensures)
    (subst (λ (targets : List Target). IsDescribedBy (present graph.pairs) kept.rows targets c.in_ok-subjects.subjects.items) c.as_slice.ensures c.in_ok-subjects.ensures))

pub returns-clause-few : goal.returns-clause-few
returns-clause-few c =
    answered_few c.args.graph.now c.deref.result.now true c.new-kept.result c.args.query.now.group c.new-kept.ensures c.find_rows.new.kept c.in_ok-find_rows.ensures

pub returns-in_err-find_rows-clause-too_many : goal.returns-in_err-find_rows-clause-too_many
returns-in_err-find_rows-clause-too_many c =
    let p = err_from_is_err_and c.from_residual-in_err-find_rows.result c.from_residual-in_err-find_rows.ensures.1 in
    rw (p.1, p.2) (answered_fault c.args.graph.now c.deref.result.now true c.new-kept.result c.args.query.now.group c.new-kept.ensures _ c.in_err-find_rows.field-0.0 c.find_rows.new.kept c.in_err-find_rows.ensures)
