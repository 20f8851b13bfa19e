-- No call is caught, and a failure is counted once.
use Rattle.std.proofs.Common.{rules}
use Rattle.mld_io.proofs.Unarmed.{metered_done, metered_failed}
use Rattle.mld_io.proofs.file_banks.tell.Goals as goal

pub returns-in-Ok-clause-meter : goal.returns-in-Ok-clause-meter
returns-in-Ok-clause-meter g c = λ calls. metered_done calls _ _

pub returns-in-Err-clause-meter : goal.returns-in-Err-clause-meter
returns-in-Err-clause-meter g c = λ calls. rw c.saturating_add.ensures (metered_failed calls c.args.faults.now (search rules))
