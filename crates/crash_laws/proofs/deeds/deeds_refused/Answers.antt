use Rattle.crash_laws.proofs.ToldDeeds as told
use Rattle.crash_laws.proofs.deeds.deeds_refused.Goals as goal

pub returns-clause-planned : goal.returns-clause-planned
returns-clause-planned c = told.planned_deed

pub returns-clause-received : goal.returns-clause-received
returns-clause-received c = told.received_deed

pub returns-clause-compaction : goal.returns-clause-compaction
returns-clause-compaction c = told.compacts_deed

pub returns-clause-truncation : goal.returns-clause-truncation
returns-clause-truncation c = told.truncates_deed

pub returns-clause-adoption : goal.returns-clause-adoption
returns-clause-adoption c = told.adopts_deed
