use Rattle.std.proofs.Common.{◌≡◌, ◌∙◌, ℕ, true, false, sym, ap}
use Rattle.rdf_terms.specs.declared.terms.Triple.{Triple}
use Rattle.jrql_ast.specs.Templates.{template_of}
use Rattle.clone_history.specs.Undoing.{IsTakenOut}
use Rattle.clone_history.proofs.UndoPlans.{templates_none, templates_same, templates_more, templates_all}
use Rattle.clone_history.proofs.plans.alone_of.Goals.{then-goes+in_ok-share+in_ok-push, else-goes}
use Rattle.clone_history.proofs.plans.alone_of.Goals as goal

pub loop-triple-init : goal.loop-triple-init
loop-triple-init c =
    templates_none (λ (insert : Triple × ℕ). IsTakenOut c.args.own.now c.args.others.now.pairs c.args.pairs.now.pairs insert.0) (λ (insert : Triple × ℕ). insert.0)
    c.args.inserts.now c.new-templates.result.items c.new-templates.ensures.items

pub loop-triple-preserved : goal.loop-triple-preserved
loop-triple-preserved c =
    let inserts = c.args.inserts.now in
    let i = c.loop-triple.triple-index in
    let insert = c.loop-triple-item.result in
    let templates = c.loop-triple.templates.items in
    elim c.if-goes.branch [
      | then-goes+in_ok-share+in_ok-push w ↦ rw (w.templates-is, w.in_ok-push.ensures.items)
          (templates_more (λ (one : Triple × ℕ). IsTakenOut c.args.own.now c.args.others.now.pairs c.args.pairs.now.pairs one.0) (λ (one : Triple × ℕ). one.0) inserts i insert
          templates w.template.result c.loop-triple-test.true c.loop-triple-item.is c.loop-triple.invariant (c.in_ok-goes.ensures.0 w.if-goes.true)
          (w.template.ensures ∙ ap (λ (t : Triple). template_of t) w.in_ok-share.ensures))
      | else-goes w ↦ rw w.templates-is
          (templates_same (λ (one : Triple × ℕ). IsTakenOut c.args.own.now c.args.others.now.pairs c.args.pairs.now.pairs one.0) (λ (one : Triple × ℕ). one.0) inserts i insert
          templates c.loop-triple-test.true c.loop-triple-item.is c.loop-triple.invariant
          (λ k. let no : false ≡ true = sym w.if-goes.false ∙ c.in_ok-goes.ensures.1 k in cc))
    ]

pub returns : goal.returns
returns c =
    templates_all (λ (insert : Triple × ℕ). IsTakenOut c.args.own.now c.args.others.now.pairs c.args.pairs.now.pairs insert.0) (λ (insert : Triple × ℕ). insert.0)
    c.args.inserts.now c.loop-triple.triple-index c.loop-triple.templates.items c.loop-triple-test.false c.loop-triple.invariant
