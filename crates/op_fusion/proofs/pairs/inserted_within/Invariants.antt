use Rattle.std.proofs.Common.{take}
use Rattle.mld_ops.specs.Tagged.{tagged_cmp}
use Rattle.op_fusion.proofs.Lists.{Picks}
use Rattle.op_fusion.proofs.Orders.{as_pair, IsWithin}
use Rattle.op_fusion.proofs.pairs.inserted_within.Given as goal

abbrev pub invariant-loop-triple : goal.invariant-loop-triple
invariant-loop-triple l = Picks tagged_cmp (as_pair l.path) (IsWithin l.low l.high) (take l.triple-index l.triple-items) l.pairs.items
