use Rattle.wire_frames.proofs.GivenBack.{given_back}
use Rattle.wire_frames.proofs.laws.parts_give_back.Goals as goal

pub returns : goal.returns
returns c = given_back
