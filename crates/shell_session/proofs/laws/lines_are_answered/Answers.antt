use Rattle.shell_session.proofs.CompleteLines.{lines_answered}
use Rattle.shell_session.proofs.laws.lines_are_answered.Goals as goal

pub returns : goal.returns
returns g c = lines_answered g.B.Banks.log g.B.Banks.meter
