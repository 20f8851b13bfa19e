use Rattle.std.proofs.Common.{◌≡◌, ◌+◌, drop}
use Rattle.text_rules.specs.Compare.{common}
use Rattle.text_rules.proofs.compare.common_by_one.Given as goal

-- what the texts have in common is what was passed, and what their rests have in common
abbrev pub invariant-loop-i : goal.invariant-loop-i
invariant-loop-i l = common l.a l.b ≡ l.i + common (drop l.i l.a) (drop l.i l.b)
