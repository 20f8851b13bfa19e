use Rattle.std.proofs.Common.{◌-◌, ◌≤◌}
use Rattle.text_rules.specs.Compare.{common}
use Rattle.text_rules.proofs.compare.common_len.Given as goal

-- what is passed the texts have in common
abbrev pub invariant-loop-passed : goal.invariant-loop-passed
invariant-loop-passed l = l.passed ≤ common l.a l.b

abbrev pub decreases-loop-passed : goal.decreases-loop-passed
decreases-loop-passed l = l.last - l.passed
