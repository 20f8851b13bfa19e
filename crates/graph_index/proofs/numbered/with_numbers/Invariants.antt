use Rattle.std.proofs.Common.{map, ◌↔◌, ◌⊎◌, vec_len}
use Rattle.tree_clock.specs.Lists.{Has}
use Rattle.mld_ops.specs.declared.tagged.Tagged.{Tagged}
use Rattle.pair_orders.specs.PairEntries.{StandOnce}
use Rattle.graph_index.specs.Graphs.{pairs_of}
use Rattle.graph_index.specs.Matching.{HasNoRepeat}
use Rattle.graph_index.specs.TermNumbers.{HaveOwnNumbers, IsNumbered}
use Rattle.graph_index.proofs.numbered.with_numbers.Given as goal

abbrev pub invariant-loop-pair : goal.invariant-loop-pair
invariant-loop-pair l = record {
  own : HaveOwnNumbers l.tables l.entries.items;
  once : StandOnce (map (λ entry. entry.0) l.entries.items);
  rest_once : HasNoRepeat l.rest.items;
  numbered : (pair : Tagged) → Has l.rest.items pair → IsNumbered l.tables pair;
  apart : (pair : Tagged) → Has l.rest.items pair → ¬ Has (pairs_of l.tables.paths l.entries.items) pair;
  members : (pair : Tagged) → (Has (pairs_of l.tables.paths l.entries.items) pair ⊎ Has l.rest.items pair) ↔ (Has (pairs_of l.tables.paths l.initial.entries.items) pair ⊎ Has l.initial.rest.items pair);
}

abbrev pub decreases-loop-pair : goal.decreases-loop-pair
decreases-loop-pair l = vec_len l.rest
