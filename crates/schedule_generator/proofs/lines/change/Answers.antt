use Rattle.std.proofs.Common.{sym}
use Rattle.schedule_generator.specs.Generated.{change}
use Rattle.schedule_generator.proofs.lines.change.Goals as goal

pub returns-clause-line : goal.returns-clause-line
unfolding change
returns-clause-line c =
    rw (sym c.draw-clone.ensures.state, sym c.draw-subject.ensures.state, sym c.draw-predicate.ensures.state, sym c.draw-clone.ensures.value, sym c.draw-subject.ensures.value, sym c.draw-predicate.ensures.value, sym c.draw-text.ensures.value)
    c.format.ensures.ok
