use Rattle.std.proofs.Common.{◌≡◌, ◌+◌, ◌≤◌, ℕ, vec_len, vec_capacity}
use Rattle.pair_orders.specs.Keys.{slot_at}
use Rattle.pair_orders.specs.KeptPairs.{AreSlots}
use Rattle.pair_orders.proofs.slots.add_slots.Given as goal

abbrev pub invariant-loop-i : goal.invariant-loop-i
invariant-loop-i l = record {
  is : AreSlots l.slots;
  same : (slot : ℕ) → slot_at l.slots.pairs.items slot ≡ slot_at l.initial.slots.pairs.items slot;
  pairs : vec_len l.slots.pairs ≡ vec_len l.initial.slots.pairs + l._i;
  pairs_capacity : vec_capacity l.initial.slots.pairs ≤ vec_capacity l.slots.pairs;
  len : vec_len l.slots.free ≡ vec_len l.initial.slots.free + l._i;
  capacity : vec_capacity l.initial.slots.free ≤ vec_capacity l.slots.free;
}
