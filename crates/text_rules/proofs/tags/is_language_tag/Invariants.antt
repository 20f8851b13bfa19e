use Rattle.std.proofs.Common.{◌≡◌, drop, false}
use Rattle.text_rules.specs.Tags.{is_primary}
use Rattle.text_rules.proofs.tags.is_language_tag.Given as goal

-- what is left decides, given whether a letter stands before it
abbrev pub invariant-loop-i : goal.invariant-loop-i
invariant-loop-i l = is_primary false l.bytes ≡ is_primary l.full (drop l.i l.bytes)
