use Rattle.schedule_model.proofs.CrashedDurable as laws
use Rattle.schedule_model.proofs.durable.durable_steps_lead.Goals as goal

pub returns-clause-lead : goal.returns-clause-lead
returns-clause-lead c = laws.durable_steps_lead

pub returns-clause-once : goal.returns-clause-once
returns-clause-once c = laws.one_durable_list
