use Rattle.std.proofs.Common.{◌≡◌, ◌≤◌, ◌+◌, ◌++◌, length, vec_len, vec_capacity}
use Rattle.clone_parts.proofs.memory.push_all.Given as goal

abbrev pub invariant-loop-entry : goal.invariant-loop-entry
invariant-loop-entry l = record {
  room : vec_len l.journal + length l.rest.items ≤ vec_capacity l.journal;
  journal : l.journal.items ++ l.rest.items ≡ l.initial.journal.items ++ l.initial.rest.items;
}

abbrev pub decreases-loop-entry : goal.decreases-loop-entry
decreases-loop-entry l = length l.rest.items
