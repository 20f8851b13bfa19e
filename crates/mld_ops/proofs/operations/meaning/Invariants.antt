use Rattle.std.proofs.Common.{◌↔◌}
use Rattle.mld_ops.specs.Tagged.{tagged_cmp}
use Rattle.mld_ops.specs.declared.tagged.Tagged.{Tagged}
use Rattle.tree_clock.specs.Lists.{Has, IsAscending}
use Rattle.mld_ops.proofs.Computing.{IsSoFar}
use Rattle.mld_ops.proofs.operations.meaning.Given as goal

abbrev pub invariant-loop-operation : goal.invariant-loop-operation
invariant-loop-operation l = record {
  ascending : IsAscending tagged_cmp l.pairs.items;
  members : (pair : Tagged) → Has l.pairs.items pair ↔ IsSoFar l.history l.known l.operation-index pair;
}
