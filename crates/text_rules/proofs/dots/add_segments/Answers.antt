use Rattle.std.proofs.Common.{rules, List, ℕ, ◌∙◌, sym, ap}
use Rattle.std.specs.String.{string_bytes}
use Rattle.text_rules.specs.Dots.{segments}
use Rattle.text_rules.specs.Output.{add_segments}
use Rattle.text_rules.proofs.Kept.{add_first}
use Rattle.text_rules.proofs.dots.add_segments.Goals as goal

pub loop-segment-preserved : goal.loop-segment-preserved
loop-segment-preserved c =
    let output = string_bytes c.loop-segment.output in (
      search rules,
      ap (λ (text : List ℕ). add_segments text (segments c.in-Some.more.now)) c.in_ok-add_segment.ensures
          ∙ sym (add_first output c.in-Some.segment.now c.in-Some.more.now)
          ∙ sym (ap (λ (parts : List (List ℕ)). add_segments output parts) c.in-Some.ensures.first)
          ∙ c.loop-segment.invariant.1,
    )
