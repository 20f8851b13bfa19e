use Rattle.wire_frames.proofs.StreamLaws.{written_is_read}
use Rattle.wire_frames.proofs.laws.written_read.Goals as goal

pub returns : goal.returns
returns c = written_is_read
