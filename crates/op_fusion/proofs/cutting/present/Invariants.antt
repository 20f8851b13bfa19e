use Rattle.std.proofs.Common.{take}
use Rattle.mld_ops.specs.Tagged.{tagged_cmp}
use Rattle.mld_ops.specs.declared.tagged.Tagged.{Tagged}
use Rattle.tree_clock.specs.Lists.{Has}
use Rattle.op_fusion.proofs.Lists.{Picks}
use Rattle.op_fusion.proofs.cutting.present.Given as goal

abbrev pub invariant-loop-pair : goal.invariant-loop-pair
invariant-loop-pair g l = Picks tagged_cmp (λ (pair : Tagged). pair) (λ (pair : Tagged). Has (g.S.Tags.pairs l.state) pair) (take l.pair-index l.pairs) l.present.items
