use Rattle.std.proofs.Common.{rules}
use Rattle.text_rules.proofs.resolution.resolve.Goals as goal

pub returns-clause-absolute : goal.returns-clause-absolute
returns-clause-absolute c = search rules
