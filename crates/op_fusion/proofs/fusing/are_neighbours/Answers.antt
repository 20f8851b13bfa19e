use Rattle.std.proofs.Common.{rules}
use Rattle.op_fusion.proofs.fusing.are_neighbours.Goals as goal

pub returns-then-first-second : goal.returns-then-first-second
returns-then-first-second c = search rules
