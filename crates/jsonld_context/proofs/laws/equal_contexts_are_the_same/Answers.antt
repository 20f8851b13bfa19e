use Rattle.jsonld_context.proofs.SameContexts.{contexts_decide}
use Rattle.jsonld_context.proofs.laws.equal_contexts_are_the_same.Goals as goal

pub returns : goal.returns
returns c = contexts_decide
