use Rattle.std.proofs.Common.{rules}
use Rattle.suset.proofs.sets.TaggedSet.join.Goals as goal

pub returns : goal.returns
returns c = search rules
