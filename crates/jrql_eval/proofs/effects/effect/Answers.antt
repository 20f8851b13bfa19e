use Rattle.std.proofs.Common.{◌≤◌, List, Option, length, sym, subst}
use Rattle.jrql_rows.specs.rdf_terms.declared.terms.Term.{Term}
use Rattle.jrql_rows.specs.mld_ops.Present.{present}
use Rattle.jrql_rows.specs.jrql_ast.QueryAnswers.{solution_limit}
use Rattle.jrql_eval.proofs.EffectsByPlan.{few_rows}
use Rattle.jrql_eval.proofs.effects.effect.Goals as goal

pub effect_by-requires-clause-few : goal.effect_by-requires-clause-few
effect_by-requires-clause-few c =
    subst (λ (rows : List (List (Option Term))). length rows ≤ solution_limit) (sym c.deref.ensures.value)
    (few_rows (present c.args.graph.now.pairs) c.args.plan.now.group c.in_ok-rows.rows.items c.in_ok-rows.ensures.rows c.in_ok-rows.ensures.few)
