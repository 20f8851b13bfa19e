use Rattle.std.proofs.Common.{rules}
use Rattle.mld_ops.proofs.messages.Snapshot.copy_in.Goals as goal

pub returns-clause-copy : goal.returns-clause-copy
returns-clause-copy c = search rules
