use Rattle.std.proofs.Common.{lit<}
use Rattle.std.proofs.lemmas.Str.Pattern.{split_once_first}
use Rattle.text_rules.proofs.Slashes.{cut_first}
use Rattle.text_rules.proofs.dots.cut_segment.Goals as goal

pub returns-clause-first : goal.returns-clause-first
returns-clause-first c =
    cut_first c.args.path.now c.split_once.result (split_once_first 47 c.args.path.now c.split_once.result c.split_once.ensures.cases (lit< tt))
