use Rattle.mld_ops.proofs.Equality.{contains_tells}
use Rattle.mld_ops.proofs.operations.stands.Goals as goal

pub returns : goal.returns
returns c = contains_tells c.args.pairs.now c.args.pair.now c.contains.result c.contains.ensures.value
