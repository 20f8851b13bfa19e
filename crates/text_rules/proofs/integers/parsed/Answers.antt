use Rattle.std.proofs.Common.{◌∙◌, ap}
use Rattle.std.specs.Result.{result_ok}
use Rattle.text_rules.proofs.Numbers.{plain_parsed}
use Rattle.text_rules.proofs.integers.parsed.Goals as goal

pub returns : goal.returns
returns c = c.ok.ensures.value ∙ ap result_ok (plain_parsed c.args.text.now c.parse.result c.parse.ensures.value.0 c.requires)
