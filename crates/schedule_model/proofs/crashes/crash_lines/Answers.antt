use Rattle.schedule_model.proofs.ArmedLaws as laws
use Rattle.schedule_model.proofs.crashes.crash_lines.Goals as goal

pub returns-clause-up : goal.returns-clause-up
returns-clause-up c = laws.armed_up

pub returns-clause-unarmed : goal.returns-clause-unarmed
returns-clause-unarmed c = laws.unarmed_stays

pub returns-clause-quiet : goal.returns-clause-quiet
returns-clause-quiet c = laws.caught_quiet

pub returns-clause-some : goal.returns-clause-some
returns-clause-some c = laws.crash_has_step
