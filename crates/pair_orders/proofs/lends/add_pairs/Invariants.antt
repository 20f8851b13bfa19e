use Rattle.std.proofs.Common.{◌≡◌, ◌++◌, map, take}
use Rattle.pair_orders.specs.Keys.{slot_pairs}
use Rattle.pair_orders.proofs.lends.add_pairs.Given as goal

abbrev pub invariant-loop-key : goal.invariant-loop-key
invariant-loop-key l = map (λ x. x.now) l.list.items ≡ map (λ x. x.now) l.initial.list.items ++ slot_pairs l.slots (map (λ key. key.slot) (take l.key-index l.keys))
