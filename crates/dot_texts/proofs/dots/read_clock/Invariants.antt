use Rattle.std.specs.Prelude.{length, option_map}
use Rattle.dot_texts.specs.DotForms.{comma, behind_mark}
use Rattle.dot_texts.proofs.ClockTexts.{ReadsClock}
use Rattle.dot_texts.proofs.dots.read_clock.Given as goal

abbrev pub invariant-loop-left : goal.invariant-loop-left
invariant-loop-left l = ReadsClock l.fn.text (behind_mark comma (option_map (λ text. text.now) l.left)) l.clock.ticks l.last

abbrev pub decreases-loop-left : goal.decreases-loop-left
decreases-loop-left l = length (behind_mark comma (option_map (λ text. text.now) l.left))
