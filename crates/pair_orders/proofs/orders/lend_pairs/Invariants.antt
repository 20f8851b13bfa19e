use Rattle.std.proofs.Common.{◌≡◌, ◌+◌, map, take}
use Rattle.pair_orders.specs.Keys.{slot_pairs}
use Rattle.pair_orders.proofs.orders.lend_pairs.Given as goal

abbrev pub invariant-loop-key : goal.invariant-loop-key
invariant-loop-key g l = record {
  pairs : map (λ x. x.now) l.found.items ≡ slot_pairs l.slots (map (λ key. key.now.slot) (take l.key-index l.keys));
  step : l.steps ≡ l.fn.steps + l.key-index;
}
