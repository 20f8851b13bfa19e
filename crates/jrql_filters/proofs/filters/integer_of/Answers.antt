use Rattle.std.proofs.Common.{◌∙◌, ap}
use Rattle.std.specs.Result.{result_ok}
use Rattle.jrql_filters.proofs.Integers.{parsed}
use Rattle.jrql_filters.proofs.filters.integer_of.Goals as goal

pub returns : goal.returns
returns c = c.ok.ensures.value ∙ ap result_ok (parsed c.args.text.now c.parse.result c.parse.ensures.value.0 c.requires)
