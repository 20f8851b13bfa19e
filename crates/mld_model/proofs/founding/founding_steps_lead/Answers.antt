use Rattle.mld_model.proofs.FoundingLaws as laws
use Rattle.mld_model.proofs.founding.founding_steps_lead.Goals as goal

pub returns-clause-lead : goal.returns-clause-lead
returns-clause-lead c = laws.founding_leads

pub returns-clause-fronts : goal.returns-clause-fronts
returns-clause-fronts c = laws.founding_fronts
