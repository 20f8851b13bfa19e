use Rattle.schedule_model.proofs.CrashedDurable as laws
use Rattle.schedule_model.proofs.verdicts.one_step.Goals as goal

pub returns-clause-once : goal.returns-clause-once
returns-clause-once c = laws.one_step

pub returns-clause-chosen : goal.returns-clause-chosen
returns-clause-chosen c = laws.steps_by_choice
