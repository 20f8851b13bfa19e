use Rattle.schedule_text.proofs.LinesSetups.{domain_text}
use Rattle.schedule_text.proofs.setups.read_domain.Goals as goal

pub returns-in_default : goal.returns-in_default
returns-in_default c = λ named. c.in_default.ensures.cases.0 (domain_text c.args.text.now named)
