use Rattle.std.proofs.Common.{◌≡◌, ℕ, drop, take}
use Rattle.tree_clock.specs.Lists.{Has}
use Rattle.pair_orders.specs.Keys.{slot_at, slot_pairs}
use Rattle.pair_orders.proofs.moving.move_all.Given as goal

abbrev pub invariant-loop-number : goal.invariant-loop-number
invariant-loop-number l = record {
  list : l.list.items ≡ slot_pairs l.fn.slots.items (take l.number-index l.numbers);
  rest : (number : ℕ) → Has (drop l.number-index l.numbers) number → slot_at l.rest.items number ≡ slot_at l.fn.slots.items number;
}
