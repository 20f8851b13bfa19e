use Rattle.shell_session.proofs.RunLaws as laws
use Rattle.shell_session.proofs.runs.steps_lead.Goals as goal

pub returns : goal.returns
returns c = laws.steps_lead
