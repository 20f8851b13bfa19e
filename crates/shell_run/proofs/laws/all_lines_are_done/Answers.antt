use Rattle.shell_run.proofs.CompleteRuns.{complete, without_fault}
use Rattle.shell_run.proofs.laws.all_lines_are_done.Goals as goal

pub returns-clause-complete : goal.returns-clause-complete
returns-clause-complete g c = complete _

pub returns-clause-statuses : goal.returns-clause-statuses
returns-clause-statuses g c = without_fault _
