use Rattle.mld_replay.proofs.CompletenessLemmas.{replays_complete, seeds_complete}
use Rattle.mld_replay.proofs.laws.complete_runs.Goals as goal

pub returns-clause-replay : goal.returns-clause-replay
returns-clause-replay g c = replays_complete _ _ _

pub returns-clause-seed : goal.returns-clause-seed
returns-clause-seed g c = seeds_complete _ _ _
