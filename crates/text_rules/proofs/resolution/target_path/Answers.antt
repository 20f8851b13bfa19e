use Rattle.std.proofs.Common.{rules}
use Rattle.text_rules.specs.Resolution.{transformed}
use Rattle.text_rules.proofs.resolution.target_path.Goals as goal

pub returns-then-is_empty : goal.returns-then-is_empty
unfolding transformed
returns-then-is_empty c = search rules
