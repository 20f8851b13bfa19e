use Rattle.std.proofs.Common.{◌≡◌, length}
use denote.Text.{Utf8}
use denote.Shadow.{shadow}
use Rattle.text_rules.specs.Dots.{segments, without_front, kept_text}
use Rattle.text_rules.proofs.dots.without_front.Given as goal

-- what is left gives the path's text
abbrev pub invariant-loop-segment : goal.invariant-loop-segment
invariant-loop-segment l = shadow (Utf8 l.rest) × (kept_text (without_front (segments l.rest)) ≡ kept_text (without_front (segments l.path)))

abbrev pub decreases-loop-segment : goal.decreases-loop-segment
decreases-loop-segment l = length l.rest
