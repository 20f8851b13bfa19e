use Rattle.std.proofs.Common.{◌≡◌, drop, false}
use Rattle.text_rules.specs.Tags.{is_subtags}
use Rattle.text_rules.proofs.tags.is_subtags.Given as goal

-- what is left decides, given whether a letter or a digit stands before it
abbrev pub invariant-loop-byte : goal.invariant-loop-byte
invariant-loop-byte l = is_subtags false l.text ≡ is_subtags l.full (drop l.byte-index l.text)
