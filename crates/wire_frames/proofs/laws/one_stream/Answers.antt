use Rattle.wire_frames.proofs.StreamLaws.{stream_is_one}
use Rattle.wire_frames.proofs.laws.one_stream.Goals as goal

pub returns : goal.returns
returns c = stream_is_one
