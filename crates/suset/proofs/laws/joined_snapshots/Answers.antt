use Rattle.suset.proofs.JoinedWith.{joined_is_state}
use Rattle.suset.proofs.laws.joined_snapshots.Goals as goal

pub returns : goal.returns
returns c = joined_is_state
