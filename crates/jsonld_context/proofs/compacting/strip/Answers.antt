use Rattle.jsonld_context.proofs.Fronts.{stripped}
use Rattle.jsonld_context.proofs.compacting.strip.Goals as goal

pub returns : goal.returns
returns c = stripped c.args.front.now c.args.text.now c.strip_prefix.result c.strip_prefix.ensures.cases
