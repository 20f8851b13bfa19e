use Rattle.std.proofs.Common.{sym, ◌∙◌, refl}
use Rattle.suset.proofs.Steps.{below_none, not_tells}
use Rattle.suset.proofs.Joining.{left_alone, right_alone, left_lesser, right_lesser, both_alike}
use Rattle.suset.proofs.joins.next_step.Goals as goal
use Rattle.suset.proofs.joins.next_step.Goals.{in-Less, in-Greater, in-Equal}

pub returns-after-cmp-clause-some : goal.returns-after-cmp-clause-some
returns-after-cmp-clause-some c =
    let own = c.args.own.now.ticks in
    let theirs = c.args.theirs.now.ticks in
    let mine = c.args.mine.now in
    let other = c.args.other.now in
    let pair = c.in-Some-Some.pair.now in
    let more = c.in-Some-Some.more.now in
    let found = c.in-Some-Some.found.now in
    let rest = c.in-Some-Some.rest.now in
    let begins = c.in-Some-Some.ensures.cases.0 in
    let begins_other = c.in-Some-Some.ensures'.cases.0 in
    elim c.match-cmp.branch [
      | in-Less w ↦ rw w.result-is
          (left_lesser own theirs mine other pair more found rest _ c.requires.mine c.requires.other begins begins_other (sym c.cmp.ensures ∙ w.in-Less.is)
          (not_tells w.covers.result w.covers.ensures))
      | in-Greater w ↦ rw w.result-is
          (right_lesser own theirs mine other pair more found rest _ c.requires.mine c.requires.other begins begins_other (sym c.cmp.ensures ∙ w.in-Greater.is)
          (not_tells w.covers-in-Greater.result w.covers-in-Greater.ensures))
      | in-Equal w ↦ rw w.result-is
          (both_alike own theirs mine other pair more found rest _ c.requires.mine c.requires.other begins begins_other (sym c.cmp.ensures ∙ w.in-Equal.is) refl)
    ]

pub returns-in-Some-None-clause-some : goal.returns-in-Some-None-clause-some
returns-in-Some-None-clause-some c =
    left_alone c.args.own.now.ticks c.args.theirs.now.ticks c.args.mine.now c.args.other.now c.in-Some-None.pair.now c.in-Some-None.more.now _ c.requires.mine c.requires.other
    c.in-Some-None.ensures.cases.0 (below_none c.in-Some-None.pair.now c.args.other.now c.in-Some-None.ensures'.cases)
    (not_tells c.covers-in-Some-None.result c.covers-in-Some-None.ensures)

pub returns-in-None-Some-clause-some : goal.returns-in-None-Some-clause-some
returns-in-None-Some-clause-some c =
    right_alone c.args.own.now.ticks c.args.theirs.now.ticks c.args.mine.now c.args.other.now c.in-None-Some.found.now c.in-None-Some.rest.now _ c.requires.mine c.requires.other
    c.in-None-Some.ensures'.cases.0 (below_none c.in-None-Some.found.now c.args.mine.now c.in-None-Some.ensures.cases)
    (not_tells c.covers-in-None-Some.result c.covers-in-None-Some.ensures)
