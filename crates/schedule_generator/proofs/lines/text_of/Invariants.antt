use Rattle.std.proofs.Common.{◌≡◌, take}
use Rattle.schedule_generator.specs.Generated.{text_of}
use Rattle.schedule_generator.proofs.lines.text_of.Given as goal

abbrev pub invariant-loop-line : goal.invariant-loop-line
invariant-loop-line l = l.text.items ≡ text_of (take l.line-index l.lines)
