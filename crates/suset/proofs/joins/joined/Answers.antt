use Rattle.suset.proofs.Joining.{joining_keeps, joining_skips}
use Rattle.suset.proofs.joins.joined.Goals as goal
use Rattle.suset.proofs.joins.joined.Goals.{then-step+in_ok-share+in_ok-push, else-step}

pub loop-step-preserved : goal.loop-step-preserved
loop-step-preserved c =
    let own = c.args.own.now.ticks in
    let theirs = c.args.theirs.now.ticks in
    let mine = c.args.mine.now in
    let other = c.args.other.now in
    let left = c.loop-step.mine.now in
    let right = c.loop-step.other.now in
    let step = c.in-Some.step in
    elim c.if-step.branch [
      | then-step+in_ok-share+in_ok-push w ↦ rw (w.new-is, w.in_ok-push.ensures.items)
          (joining_keeps own theirs mine other left right c.loop-step.new.items c.loop-step.invariant step.pair.now step.stays step.mine.now step.other.now c.in-Some.ensures.some
          w.in_ok-share.field-0 w.in_ok-share.ensures w.if-step.true)
      | else-step w ↦ rw w.new-is
          (joining_skips own theirs mine other left right c.loop-step.new.items c.loop-step.invariant step.pair.now step.stays step.mine.now step.other.now c.in-Some.ensures.some w.if-step.false)
    ]
