use Rattle.std.proofs.Common.{◌∙◌, ◌++◌, sym, ap, subst, map}
use Rattle.hinted_chunks.proofs.of_mld_ops.AscendingLaws.{has_at}
use Rattle.hinted_chunks.specs.tree_clock.Lists.{Has}
use Rattle.chunked_list.proofs.Between.{filter_stops}
use Rattle.chunked_list.proofs.spans.add_elements.Goals as goal

pub returns-then-not-is_before-clause-items : goal.returns-then-not-is_before-clause-items
returns-then-not-is_before-clause-items g c =
    let p = g.B.Bound.before c.args.bound.now in
    let e = sym (c.if-not-is_before.ensures ∙ ap p c.element-item.is) in
    c.loop-element.invariant
    ∙ ap (λ zs. map (λ x. x.now) c.args.found.now.items ++ zs)
    (filter_stops p c.args.elements.now c.loop-element.element-index c.element-item.result c.requires c.loop-element-test.true e)

pub returns-then-not-is_before-clause-ended : goal.returns-then-not-is_before-clause-ended
returns-then-not-is_before-clause-ended g c = λ _. (
  c.element-item.result,
  subst (Has c.args.elements.now) (sym c.element-item.is) (has_at c.args.elements.now c.loop-element.element-index c.element-item.result c.loop-element-test.true),
  sym c.if-not-is_before.ensures,
)
