use Rattle.wire_frames.proofs.StreamLaws.{cutting_is_any}
use Rattle.wire_frames.proofs.laws.any_cutting.Goals as goal

pub returns : goal.returns
returns c = cutting_is_any
