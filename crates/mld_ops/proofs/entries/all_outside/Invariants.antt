use Rattle.std.proofs.Common.{take}
use Rattle.std.specs.List.{AllByRecursion}
use Rattle.mld_ops.specs.declared.tagged.Tagged.{Tagged}
use Rattle.tree_clock.specs.Dot.{IsIn}
use Rattle.mld_ops.proofs.entries.all_outside.Given as goal

abbrev pub invariant-loop-pair : goal.invariant-loop-pair
invariant-loop-pair l = AllByRecursion (λ (pair : Tagged). ¬ IsIn l.range pair.dot) (take l.pair-index l.pairs)
