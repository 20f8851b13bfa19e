use Rattle.std.proofs.Common.{lit<}
use Rattle.std.proofs.lemmas.Str.Pattern.{split_once_first}
use Rattle.text_rules.proofs.Colons.{cut_at}
use Rattle.text_rules.proofs.forms.cut_colon.Goals as goal

pub returns : goal.returns
returns c = cut_at c.args.text.now c.split_once.result (split_once_first 58 c.args.text.now c.split_once.result c.split_once.ensures.cases (lit< tt))
