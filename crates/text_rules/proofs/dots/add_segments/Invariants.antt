use Rattle.std.proofs.Common.{◌≡◌, length}
use denote.Text.{Utf8}
use denote.Shadow.{shadow}
use Rattle.std.specs.String.{string_bytes}
use Rattle.text_rules.specs.Dots.{segments}
use Rattle.text_rules.specs.Output.{add_segments}
use Rattle.text_rules.proofs.dots.add_segments.Given as goal

-- what is left, added to the output, gives what the path adds
abbrev pub invariant-loop-segment : goal.invariant-loop-segment
invariant-loop-segment l = shadow (Utf8 l.rest) × (add_segments (string_bytes l.output) (segments l.rest) ≡ add_segments (string_bytes l.fn.output) (segments l.path))

abbrev pub decreases-loop-segment : goal.decreases-loop-segment
decreases-loop-segment l = length l.rest
