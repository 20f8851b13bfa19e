use Rattle.jsonld_context.proofs.GivenBack as back
use Rattle.jsonld_context.proofs.laws.expanding_gives_back.Goals as goal

pub returns-clause-keys : goal.returns-clause-keys
returns-clause-keys c = back.keys_given_back

pub returns-clause-ids : goal.returns-clause-ids
returns-clause-ids c = back.ids_given_back
