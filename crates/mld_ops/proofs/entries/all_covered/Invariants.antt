use Rattle.std.proofs.Common.{take}
use Rattle.std.specs.List.{AllByRecursion}
use Rattle.mld_ops.specs.declared.tagged.Tagged.{Tagged}
use Rattle.tree_clock.specs.Clock.{Covers}
use Rattle.mld_ops.proofs.entries.all_covered.Given as goal

abbrev pub invariant-loop-pair : goal.invariant-loop-pair
invariant-loop-pair l = AllByRecursion (λ (pair : Tagged). Covers l.time.ticks pair.dot) (take l.pair-index l.pairs)
