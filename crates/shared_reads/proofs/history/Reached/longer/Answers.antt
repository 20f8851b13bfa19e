use Rattle.std.proofs.Common.{List, ◌≤◌, length, ap, subst, arith}
use mathlib.Core.List.{IsPrefix}
use Rattle.shared_reads.specs.declared.marks.Mark.{Mark}
use Rattle.shared_reads.proofs.FrontLaws.{longer_first, longer_second}
use Rattle.shared_reads.proofs.history.Reached.longer.Goals as goal

pub returns-then-self-other-clause-list : goal.returns-then-self-other-clause-list
returns-then-self-other-clause-list c =
    let both : List Mark = c.learn.new.self.log in
    let this : IsPrefix c.self.inside.seen.log both = subst (λ (l : List Mark). IsPrefix l both) (ap (λ s. s.log) c.again-both.ensures) c.learn.ensures.2 in
    let less : length c.self.inside.seen.log ≤ length c.other.inside.seen.log = omega (arith, c.self.invariant.0, c.other.invariant.0) in
    rw (c.again.ensures, ← c.self.view_is, ← c.other.view_is)
    (longer_second c.self.inside.seen.log c.other.inside.seen.log both this c.learn.ensures.3 c.other.invariant.1 less)

pub returns-clause-list : goal.returns-clause-list
returns-clause-list c =
    let both : List Mark = c.learn.new.self.log in
    let this : IsPrefix c.self.inside.seen.log both = subst (λ (l : List Mark). IsPrefix l both) (ap (λ s. s.log) c.again-both.ensures) c.learn.ensures.2 in
    let less : length c.other.inside.seen.log ≤ length c.self.inside.seen.log = omega (arith, c.self.invariant.0, c.other.invariant.0) in
    rw (c.again-else-self-other.ensures, ← c.self.view_is, ← c.other.view_is)
    (longer_first c.self.inside.seen.log c.other.inside.seen.log both this c.learn.ensures.3 c.self.invariant.1 less)
