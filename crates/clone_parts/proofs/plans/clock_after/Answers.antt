use Rattle.std.proofs.Common.{◌≡◌, ◌∙◌, subst}
use Rattle.tree_clock.specs.declared.dots.Range.{Range}
use Rattle.tree_clock.specs.Clock.{RaisesTo}
use Rattle.mld_ops.specs.Ready.{last_dot}
use Rattle.clone_parts.proofs.plans.clock_after.Goals as goal

pub returns : goal.returns
returns c =
    let after = c.raise.new.self.ticks in
    let range : c.range-range.result ≡ c.args.entry.now.range = c.range-range.ensures.value in
    subst (λ (r : Range). RaisesTo c.args.clock.now.ticks after (last_dot r)) range
    (subst (λ ts. RaisesTo ts after (last_dot c.range-range.result)) (c.reserve.ensures.ticks ∙ c.in_ok-after.ensures.ok) c.raise.ensures.raised)
