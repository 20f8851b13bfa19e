use Rattle.std.proofs.Common.{rules}
use Rattle.op_fusion.proofs.cutting.dropped.Goals as goal

pub returns-clause-members : goal.returns-clause-members
returns-clause-members g c = search rules
