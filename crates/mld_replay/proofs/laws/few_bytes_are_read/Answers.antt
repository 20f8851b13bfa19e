use Rattle.mld_replay.proofs.CompletenessLemmas.{replays_read_few}
use Rattle.mld_replay.proofs.laws.few_bytes_are_read.Goals as goal

pub returns : goal.returns
returns g c = replays_read_few _ _ _
