use Rattle.std.proofs.Common.{◌-◌, length}
use Rattle.wire_frames.proofs.CutSteps.{IsCutTo}
use Rattle.wire_frames.proofs.cutting.cut_frames.Given as goal

abbrev pub invariant-loop-frames : goal.invariant-loop-frames
invariant-loop-frames l = IsCutTo l.input l.frames.items l.end

abbrev pub decreases-loop-frames : goal.decreases-loop-frames
decreases-loop-frames l = length l.input - l.end
