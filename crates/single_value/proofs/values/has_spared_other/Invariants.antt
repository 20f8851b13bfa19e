use Rattle.std.proofs.Common.{take}
use Rattle.std.specs.List.{AllByRecursion}
use Rattle.mld_ops.specs.declared.tagged.Tagged.{Tagged}
use Rattle.single_value.specs.OtherValues.{IsSparedOther}
use Rattle.single_value.proofs.values.has_spared_other.Given as goal

-- none of those that were passed is another value's
abbrev pub invariant-loop-at : goal.invariant-loop-at
invariant-loop-at l = AllByRecursion (λ (pair : Tagged). ¬ IsSparedOther l.effect l.triple pair) (take l.at l.pairs)
