use Rattle.std.proofs.Common.{◌≡◌, ◌∙◌, true, false, sym, ap}
use Rattle.rdf_terms.specs.declared.terms.Triple.{Triple}
use Rattle.mld_ops.specs.declared.tagged.Tagged.{Tagged}
use Rattle.jrql_ast.specs.Templates.{template_of}
use Rattle.clone_history.specs.Undoing.{IsPutBack}
use Rattle.clone_history.proofs.UndoPlans.{templates_none, templates_same, templates_more, templates_all}
use Rattle.clone_history.proofs.plans.put_back.Goals.{then-not-has_triple+in_ok-share+in_ok-push, else-not-has_triple}
use Rattle.clone_history.proofs.plans.put_back.Goals as goal

pub loop-pair-init : goal.loop-pair-init
loop-pair-init c = templates_none (IsPutBack c.args.pairs.now.pairs) (λ (pair : Tagged). pair.triple) c.args.deletes.now c.new-templates.result.items c.new-templates.ensures.items

pub loop-pair-preserved : goal.loop-pair-preserved
loop-pair-preserved c =
    let pairs = c.args.pairs.now.pairs in
    let deletes = c.args.deletes.now in
    let i = c.loop-pair.pair-index in
    let pair = c.pair-item.result in
    let templates = c.loop-pair.templates.items in
    elim c.if-not-has_triple.branch [
      | then-not-has_triple+in_ok-share+in_ok-push w ↦ rw (w.templates-is, w.in_ok-push.ensures.items)
          (templates_more (IsPutBack pairs) (λ (one : Tagged). one.triple) deletes i pair templates w.template.result c.loop-pair-test.true c.pair-item.is c.loop-pair.invariant
          (λ k. let no : false ≡ true = sym w.if-not-has_triple.true ∙ c.has_triple.ensures.found.1 k in cc)
          (w.template.ensures ∙ ap (λ (t : Triple). template_of t) w.in_ok-share.ensures))
      | else-not-has_triple w ↦ rw w.templates-is
          (templates_same (IsPutBack pairs) (λ (one : Tagged). one.triple) deletes i pair templates c.loop-pair-test.true c.pair-item.is c.loop-pair.invariant
          (λ n. n (c.has_triple.ensures.found.0 w.if-not-has_triple.false)))
    ]

pub returns : goal.returns
returns c =
    templates_all (IsPutBack c.args.pairs.now.pairs) (λ (pair : Tagged). pair.triple) c.args.deletes.now c.loop-pair.pair-index c.loop-pair.templates.items c.loop-pair-test.false
    c.loop-pair.invariant
