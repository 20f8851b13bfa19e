use Rattle.std.proofs.Common.{take}
use Rattle.tree_clock.specs.Lists.{Has}
use Rattle.mld_ops.specs.declared.tagged.Tagged.{Tagged}
use Rattle.graph_index.specs.TermNumbers.{KeepsNumbers, IsNumbered}
use Rattle.graph_index.proofs.tables.Tables.give_all.Given as goal

abbrev pub invariant-loop-pair : goal.invariant-loop-pair
invariant-loop-pair l = record {
  grown : KeepsNumbers l.initial.self l.self;
  numbered : (pair : Tagged) → Has (take l.pair-index l.pairs) pair → IsNumbered l.self pair;
}
