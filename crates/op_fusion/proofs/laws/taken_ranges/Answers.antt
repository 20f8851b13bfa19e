use Rattle.op_fusion.proofs.TakenRanges as laws
use Rattle.op_fusion.proofs.laws.taken_ranges.Goals as goal

pub returns-clause-closed : goal.returns-clause-closed
returns-clause-closed c = laws.taken_is_closed

pub returns-clause-meaning : goal.returns-clause-meaning
returns-clause-meaning c = laws.taken_is_meaning
