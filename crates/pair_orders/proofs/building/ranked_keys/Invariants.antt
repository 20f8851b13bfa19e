use Rattle.std.proofs.Common.{◌≡◌, map, take}
use Rattle.pair_orders.specs.Keys.{ranked}
use Rattle.pair_orders.proofs.building.ranked_keys.Given as goal

abbrev pub invariant-loop-key : goal.invariant-loop-key
invariant-loop-key l = l.list.items ≡ map (ranked l.shape) (take l.key-index l.keys)
