-- The summary tells of each world that the one as it runs stands for.
use Rattle.mld_replay.proofs.endings.end_of_world.Goals as goal

pub returns-in_ok-summary-clause-tells : goal.returns-in_ok-summary-clause-tells
returns-in_ok-summary-clause-tells g c = λ told model stands sound. c.in_ok-summary.ensures.tells model stands.memory sound
