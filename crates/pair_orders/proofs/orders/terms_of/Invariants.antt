use Rattle.std.proofs.Common.{◌≡◌, ◌+◌}
use Rattle.pair_orders.specs.Keys.{key_by}
use Rattle.pair_orders.specs.TripleEntries.{key_terms}
use Rattle.pair_orders.proofs.Triples.{AreImages}
use Rattle.pair_orders.proofs.orders.terms_of.Given as goal

abbrev pub invariant-loop-i : goal.invariant-loop-i
invariant-loop-i g l = record {
  images : AreImages (λ key. key_terms (key_by l.shape key.now)) l.keys l.i l.found.items;
  step : l.steps ≡ l.fn.steps + l.i;
}
