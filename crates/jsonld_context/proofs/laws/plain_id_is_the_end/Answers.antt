use Rattle.jsonld_context.proofs.PlainEnds.{plain_resolved, plain_found}
use Rattle.jsonld_context.proofs.laws.plain_id_is_the_end.Goals as goal

pub returns-clause-end : goal.returns-clause-end
returns-clause-end c = plain_resolved

pub returns-clause-found : goal.returns-clause-found
returns-clause-found c = plain_found
