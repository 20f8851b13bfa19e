use Rattle.node_model.proofs.StepLaws as steps
use Rattle.node_model.proofs.run_laws.node_steps_lead.Goals as goal

pub returns : goal.returns
returns c = steps.node_steps_lead
