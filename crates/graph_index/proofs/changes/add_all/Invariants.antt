use Rattle.std.proofs.Common.{◌≤◌, ◌↔◌, ◌⊎◌, vec_len}
use Rattle.tree_clock.specs.Lists.{Has, IsAscending}
use Rattle.graph_index.proofs.changes.add_all.Given as goal

abbrev pub invariant-loop-element : goal.invariant-loop-element
invariant-loop-element g l = record {
  ascending : IsAscending (g.O.Order.order l.order) l.list.elements;
  room : vec_len l.adds ≤ l.list.room;
  members : (element : g.row.T.Denot) → (Has l.list.elements element ⊎ Has l.adds.items element) ↔ (Has l.initial.list.elements element ⊎ Has l.initial.adds.items element);
}

abbrev pub decreases-loop-element : goal.decreases-loop-element
decreases-loop-element g l = vec_len l.adds
