use Rattle.schedule_model.proofs.AnswersLaws as laws
use Rattle.schedule_model.proofs.soundness.answers_survive.Goals as goal

pub returns-clause-add : goal.returns-clause-add
returns-clause-add c = laws.add_remembers

pub returns-clause-remove : goal.returns-clause-remove
returns-clause-remove c = laws.remove_remembers

pub returns-clause-update : goal.returns-clause-update
returns-clause-update c = laws.update_remembers

pub returns-clause-did : goal.returns-clause-did
returns-clause-did c = laws.did_remembers

pub returns-clause-kept : goal.returns-clause-kept
returns-clause-kept c = laws.step_remembers

pub returns-clause-answered : goal.returns-clause-answered
returns-clause-answered c = laws.answers_survive
