use Rattle.std.proofs.Common.{rules}
use Rattle.graph_index.proofs.pair_order.PairOrderOrderTagged.compare.Goals as goal

pub returns : goal.returns
returns c = search rules
