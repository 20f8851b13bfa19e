use Rattle.op_fusion.proofs.CutPairs as laws
use Rattle.op_fusion.proofs.laws.cut_pairs.Goals as goal

pub returns-clause-drops : goal.returns-clause-drops
returns-clause-drops c = laws.cut_drops_present

pub returns-clause-applied : goal.returns-clause-applied
returns-clause-applied c = laws.cut_is_applied

pub returns-clause-behind : goal.returns-clause-behind
returns-clause-behind c = laws.cut_behind_is_applied
