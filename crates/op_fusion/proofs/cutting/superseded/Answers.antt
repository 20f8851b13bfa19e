use Rattle.std.proofs.Common.{rules}
use Rattle.op_fusion.proofs.cutting.superseded.Goals as goal

pub returns-then-known-range-clause-members : goal.returns-then-known-range-clause-members
returns-then-known-range-clause-members g c = search rules
