use Rattle.std.proofs.Common.{rules, arith, sym, ◌++◌, ◌∷◌, [], ◌∙◌, ap}
use Rattle.std.proofs.lemmas.Grind.{common_steps}
use Rattle.hinted_chunks.proofs.HintedSort.{shared_pushed}
use Rattle.hinted_chunks.proofs.sorting.put_hints.Goals as goal

pub loop-element-preserved : goal.loop-element-preserved
loop-element-preserved g c = record {
  moved = grind (arith, common_steps);
  hints = grind (arith, common_steps);
  shared =
      shared_pushed (g.O.TextOrder.text c.args.order.now) c.deref.result.now c.in-Some.element c.shared_with-shared.result c.push_reserved.new.self.items c.hint.result
      (c.push_reserved.ensures.items ∙ ap (λ zs. zs ++ (c.hint.result, c.in-Some.element) ∷ []) (sym c.deref.ensures.value)) c.shared_with-shared.ensures;
  room = search rules;
  back = search rules;
}
