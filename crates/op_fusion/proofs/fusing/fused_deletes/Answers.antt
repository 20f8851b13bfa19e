use Rattle.std.proofs.Common.{rules}
use Rattle.op_fusion.proofs.fusing.fused_deletes.Goals as goal

pub returns-clause-members : goal.returns-clause-members
returns-clause-members c = search rules
