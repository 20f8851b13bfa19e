use Rattle.std.proofs.Common.{◌≤◌, ◌↔◌, take}
use Rattle.mld_ops.specs.Tagged.{tagged_cmp}
use Rattle.mld_ops.specs.declared.tagged.Tagged.{Tagged}
use Rattle.tree_clock.specs.Lists.{Has, IsAscending}
use Rattle.graph_index.proofs.changes.remove_all.Given as goal

abbrev pub invariant-loop-drop : goal.invariant-loop-drop
invariant-loop-drop l = record {
  ascending : IsAscending tagged_cmp l.pairs.elements;
  members : (pair : Tagged) → Has l.pairs.elements pair ↔ (Has l.initial.pairs.elements pair × ¬ Has (take l.drop-index l.drops) pair);
  room : l.initial.pairs.room ≤ l.pairs.room;
}
