use Rattle.schedule_model.proofs.RunsLaws as laws
use Rattle.schedule_model.proofs.verdicts.one_verdict.Goals as goal

pub returns-clause-act : goal.returns-clause-act
returns-clause-act c = laws.one_act

pub returns-clause-outcome : goal.returns-clause-outcome
returns-clause-outcome c = laws.one_outcome

pub returns-clause-run : goal.returns-clause-run
returns-clause-run c = laws.one_run

pub returns-clause-runs_chosen : goal.returns-clause-runs_chosen
returns-clause-runs_chosen c = laws.runs_by_choices

pub returns-clause-verdict : goal.returns-clause-verdict
returns-clause-verdict c = laws.one_verdict

pub returns-clause-chosen : goal.returns-clause-chosen
returns-clause-chosen c = laws.verdicts_by_choices

pub returns-clause-plain : goal.returns-clause-plain
returns-clause-plain c = laws.one_plain_verdict

pub returns-clause-kind : goal.returns-clause-kind
returns-clause-kind c = laws.one_kind_of_verdict
