use Rattle.std.proofs.Common.{lit<, ◌∙◌}
use Rattle.std.proofs.lemmas.Str.Pattern.{find_char}
use Rattle.text_rules.proofs.Slashes.{first_slash}
use Rattle.text_rules.proofs.references.authority_len.Goals as goal

pub returns-clause-len : goal.returns-clause-len
returns-clause-len c =
    c.unwrap_or.ensures ∙ first_slash c.args.text.now c.find.result (find_char 47 c.args.text.now c.find.result c.find.ensures.cases (lit< tt))
