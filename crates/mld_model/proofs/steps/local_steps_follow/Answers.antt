use Rattle.mld_model.proofs.LocalSteps as laws
use Rattle.mld_model.proofs.steps.local_steps_follow.Goals as goal

pub returns-clause-steps : goal.returns-clause-steps
returns-clause-steps c = laws.local_steps

pub returns-clause-foreign : goal.returns-clause-foreign
returns-clause-foreign c = laws.none_foreign
