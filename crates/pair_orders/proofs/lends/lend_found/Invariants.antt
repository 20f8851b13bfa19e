use Rattle.std.proofs.Common.{◌≡◌, map, take}
use Rattle.pair_orders.specs.Keys.{slot_pairs}
use Rattle.pair_orders.proofs.lends.lend_found.Given as goal

abbrev pub invariant-loop-key : goal.invariant-loop-key
invariant-loop-key l = map (λ x. x.now) l.list.items ≡ slot_pairs l.slots (map (λ key. key.now.slot) (take l.key-index l.keys))
