use Rattle.std.proofs.Common.{◌+◌, ◌≤◌, vec_len, vec_capacity}
use Rattle.pair_orders.specs.KeptPairs.{AreFilled}
use Rattle.pair_orders.proofs.Filling.{IsFilling}
use Rattle.pair_orders.proofs.building.put_all.Given as goal

abbrev pub invariant-loop-entry : goal.invariant-loop-entry
invariant-loop-entry l = record {
  is : AreFilled l.slots l.keys.items;
  filling : IsFilling l.fn.entries.items l.rest.items l.slots.pairs.items l.keys.items;
  free : vec_len l.rest ≤ vec_len l.slots.free;
  room : vec_len l.keys + vec_len l.rest ≤ vec_capacity l.keys;
}

abbrev pub decreases-loop-entry : goal.decreases-loop-entry
decreases-loop-entry l = vec_len l.rest
