use Rattle.std.proofs.Common.{◌≤◌, ◌↔◌, ◌⊎◌, vec_len}
use Rattle.tree_clock.specs.Lists.{Has}
use Rattle.mld_ops.specs.declared.tagged.Tagged.{Tagged}
use Rattle.graph_index.specs.Graphs.{pairs_of}
use Rattle.graph_index.specs.TermNumbers.{HaveOwnNumbers, IsNumbered}
use Rattle.graph_index.proofs.numbered.gain_all.Given as goal

abbrev pub invariant-loop-pair : goal.invariant-loop-pair
invariant-loop-pair l = record {
  numbered : HaveOwnNumbers l.tables l.numbered.pairs;
  adds : (pair : Tagged) → Has l.rest.items pair → IsNumbered l.tables pair;
  room : vec_len l.rest ≤ l.numbered.room;
  members : (pair : Tagged) → (Has (pairs_of l.tables.paths l.numbered.pairs) pair ⊎ Has l.rest.items pair) ↔ (Has (pairs_of l.tables.paths l.initial.numbered.pairs) pair ⊎ Has l.initial.rest.items pair);
}

abbrev pub decreases-loop-pair : goal.decreases-loop-pair
decreases-loop-pair l = vec_len l.rest
