use Rattle.std.proofs.Common.{◌≤◌, ◌↔◌, take}
use Rattle.tree_clock.specs.Lists.{Has}
use Rattle.mld_ops.specs.declared.tagged.Tagged.{Tagged}
use Rattle.graph_index.specs.Graphs.{pairs_of}
use Rattle.graph_index.specs.TermNumbers.{HaveOwnNumbers}
use Rattle.graph_index.proofs.numbered.lose_all.Given as goal

abbrev pub invariant-loop-drop : goal.invariant-loop-drop
invariant-loop-drop l = record {
  numbered : HaveOwnNumbers l.tables l.numbered.pairs;
  members : (pair : Tagged) → Has (pairs_of l.tables.paths l.numbered.pairs) pair ↔ (Has (pairs_of l.tables.paths l.initial.numbered.pairs) pair × ¬ Has (take l.drop-index l.drops) pair);
  room : l.initial.numbered.room ≤ l.numbered.room;
}
