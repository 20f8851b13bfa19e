use Rattle.std.proofs.Common.{List, ℕ, ◌∙◌, ap}
use Rattle.text_rules.specs.Dots.{segments}
use Rattle.text_rules.specs.Output.{add_segments}
use Rattle.text_rules.proofs.Kept.{removed}
use Rattle.text_rules.proofs.dots.remove_dot_segments.Goals as goal

pub returns : goal.returns
returns c =
    c.in_ok-add_segments.ensures
    ∙ ap (λ (text : List ℕ). add_segments text (segments c.in-Some.others.now)) c.in_ok-output.ensures.ok
    ∙ removed c.in-Some.first.now c.in-Some.others.now c.without_front-rest.result.now c.in-Some.ensures.first
    ∙ c.without_front-rest.ensures
