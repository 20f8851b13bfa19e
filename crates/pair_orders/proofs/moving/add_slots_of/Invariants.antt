use Rattle.std.proofs.Common.{◌≡◌, ◌++◌, map, take}
use Rattle.pair_orders.proofs.moving.add_slots_of.Given as goal

abbrev pub invariant-loop-key : goal.invariant-loop-key
invariant-loop-key l = l.numbers.items ≡ l.initial.numbers.items ++ map (λ key. key.slot) (take l.key-index l.keys)
