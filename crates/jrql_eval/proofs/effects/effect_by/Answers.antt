use Rattle.std.proofs.Common.{◌∙◌, List, ap, subst}
use Rattle.jrql_rows.specs.jrql_ast.declared.patterns.PatternTriple.{PatternTriple}
use Rattle.jrql_rows.specs.jrql_ast.FreshNames.{fresh_name}
use Rattle.jrql_eval.specs.ConstantTemplates.{AreMadeBy}
use Rattle.jrql_eval.proofs.EffectsByPlan.{effect_of_made, pairs_of_each}
use Rattle.jrql_eval.proofs.effects.effect_by.Goals as goal

pub returns : goal.returns
returns c =
    let plan = c.args.plan.now in
    let pairs = c.args.graph.now.pairs in
    let rows = c.args.rows.now in
    let names = fresh_name c.args.domain.now c.args.dot.now plan.fresh in
    effect_of_made c.args.domain.now c.args.dot.now pairs plan rows c.in_ok-gone.gone.items c.put_triples.new.triples.items c.in_ok-deletes.deletes.items
    c.in_ok-inserts.inserts.items c.new.result
    (subst (λ (templates : List PatternTriple). AreMadeBy names templates rows c.in_ok-gone.gone.items) c.as_slice-to_delete.ensures c.in_ok-gone.ensures)
    c.put_triples.ensures
    (c.in_ok-deletes.ensures ∙ ap (pairs_of_each pairs) c.deref.ensures.value)
    (subst (λ (templates : List PatternTriple). AreMadeBy names templates rows c.in_ok-inserts.inserts.items) c.as_slice-to_insert.ensures c.in_ok-inserts.ensures)
    c.new.ensures
