use Rattle.shell_run.proofs.CompleteRuns.{reads_few}
use Rattle.shell_run.proofs.laws.few_bytes_are_read.Goals as goal

pub returns : goal.returns
returns g c = reads_few _
