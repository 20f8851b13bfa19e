use Rattle.jsonld_values.proofs.NumberingLaws.{triples_within, group_in_form, query_in_form, plan_in_form}
use Rattle.jsonld_values.proofs.laws.numbering_gives_form.Goals as goal

pub returns-clause-triples : goal.returns-clause-triples
returns-clause-triples c = triples_within

pub returns-clause-group : goal.returns-clause-group
returns-clause-group c = group_in_form

pub returns-clause-plan : goal.returns-clause-plan
returns-clause-plan c = plan_in_form

pub returns-clause-query : goal.returns-clause-query
returns-clause-query c = query_in_form
