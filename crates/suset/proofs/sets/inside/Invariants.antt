use Rattle.std.proofs.Common.{take}
use Rattle.mld_ops.specs.Applies.{IsOfRange}
use Rattle.suset.proofs.sets.inside.Given as goal

abbrev pub invariant-loop-pair : goal.invariant-loop-pair
invariant-loop-pair l = IsOfRange l.range (take l.pair-index l.pairs) l.found.items
