use Rattle.std.proofs.Common.{List, ◌≤◌, length, ap, subst, arith}
use mathlib.Core.List.{IsPrefix}
use Rattle.shared_reads.specs.declared.marks.Mark.{Mark}
use Rattle.shared_reads.proofs.FrontLaws.{front_shorter}
use Rattle.shared_reads.proofs.history.Reached.is_within.Goals as goal

pub returns : goal.returns
returns c so =
    let both : List Mark = c.learn.new.self.log in
    let this : IsPrefix c.self.inside.seen.log both = subst (λ (l : List Mark). IsPrefix l both) (ap (λ s. s.log) c.again-both.ensures) c.learn.ensures.2 in
    let less : length c.self.inside.seen.log ≤ length c.other.inside.seen.log = omega (arith, c.self.invariant.0, c.other.invariant.0) in
    rw (← c.self.view_is, ← c.other.view_is)
    (front_shorter c.self.inside.seen.log c.other.inside.seen.log both this c.learn.ensures.3 c.other.invariant.1 less)
