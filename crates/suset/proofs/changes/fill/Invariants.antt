use Rattle.std.proofs.Common.{length, ◌+◌, ◌≤◌, vec_capacity}
use Rattle.suset.proofs.Filling.{IsFilling}
use Rattle.suset.proofs.changes.fill.Given as goal

abbrev pub invariant-loop-pair : goal.invariant-loop-pair
invariant-loop-pair l = record {
  filling : IsFilling l.drops.items l.initial.old.items l.initial.adds.items l.old.items l.adds.items l.room.items l.place;
  room : length l.room.items + (length l.old.items + length l.adds.items) ≤ vec_capacity l.room;
}

abbrev pub decreases-loop-pair : goal.decreases-loop-pair
decreases-loop-pair l = length l.old.items + length l.adds.items
