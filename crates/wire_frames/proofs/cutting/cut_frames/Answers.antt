use Rattle.std.proofs.Common.{◌<◌, ◌-◌, length, arith}
use Rattle.wire_frames.proofs.CutSteps.{cut_none, cut_on, cut_further}
use Rattle.wire_frames.proofs.cutting.cut_frames.Goals as goal

pub loop-frames-init : goal.loop-frames-init
loop-frames-init c = cut_none c.args.input.now c.new-frames.result.items c.new-frames.ensures.items

pub loop-frames-smaller : goal.loop-frames-smaller
loop-frames-smaller c =
    let at = rw c.in-Frame.is at c.in_ok-frame.ensures in
    let further = cut_further c.args.input.now c.loop-frames.end c.in-Frame.next c.in-Frame.frame at in
    let less : length c.args.input.now - c.in-Frame.next < length c.args.input.now - c.loop-frames.end = omega arith in
    less

pub loop-frames-preserved : goal.loop-frames-preserved
loop-frames-preserved c =
    let at = rw c.in-Frame.is at c.in_ok-frame.ensures in
    cut_on c.args.input.now c.loop-frames.frames.items c.push.new.self.items c.loop-frames.end c.in-Frame.next c.in-Frame.frame c.loop-frames.invariant at c.in_ok-push-in-Frame.ensures.items
