use Rattle.std.proofs.Common.{rules}
use Rattle.text_rules.specs.Resolution.{transformed}
use Rattle.text_rules.proofs.resolution.target.Goals as goal

pub returns : goal.returns
unfolding transformed
returns c = search rules
