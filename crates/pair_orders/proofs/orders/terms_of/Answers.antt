use Rattle.std.proofs.Common.{◌∙◌, ◌++◌, ◌∷◌, [], sym, ap, arith}
use Rattle.std.proofs.lemmas.Bool.{true≢false}
use Rattle.pair_orders.specs.Keys.{key_by}
use Rattle.pair_orders.specs.TripleEntries.{key_terms}
use Rattle.pair_orders.proofs.Triples.{images_same, images_more, images_ended}
use Rattle.pair_orders.proofs.orders.terms_of.Goals as goal

pub loop-i-preserved-then-is_repeated : goal.loop-i-preserved-then-is_repeated
loop-i-preserved-then-is_repeated g c = record {
  images = images_same (λ key. key_terms (key_by c.args.shape key.now)) c.args.keys.now c.loop-i.i c.loop-i.found.items (omega (arith, c.loop-i-test.true)) c.loop-i.invariant.images
      (c.is_repeated.ensures.0 c.if-is_repeated.true);
  step = omega (arith, c.loop-i.invariant.step, c.tick.ensures);
}

pub loop-i-preserved : goal.loop-i-preserved
loop-i-preserved g c = record {
  images = images_more (λ key. key_terms (key_by c.args.shape key.now)) c.args.keys.now c.loop-i.i c.loop-i.found.items (omega (arith, c.loop-i-test.true)) c.loop-i.invariant.images _ c.push.new.self.items
      (λ r. true≢false (sym (c.is_repeated.ensures.1 r) ∙ c.if-is_repeated.false))
      (c.in_ok-push.ensures.items ∙ ap (λ t. c.loop-i.found.items ++ t ∷ []) c.terms.ensures);
  step = omega (arith, c.loop-i.invariant.step, c.tick.ensures);
}

pub returns-clause-members : goal.returns-clause-members
returns-clause-members g c = images_ended (λ key. key_terms (key_by c.args.shape key.now)) c.args.keys.now c.loop-i.i c.loop-i.found.items (omega arith) c.loop-i.invariant.images
