use Rattle.jsonld_values.proofs.NumberingLaws.{patterns_keep, filters_keep, asked_keeps, grown_on, grown_begins}
use Rattle.jsonld_values.proofs.laws.growing_keeps.Goals as goal

pub returns-clause-triples : goal.returns-clause-triples
returns-clause-triples c = patterns_keep

pub returns-clause-filters : goal.returns-clause-filters
returns-clause-filters c = filters_keep

pub returns-clause-goes_on : goal.returns-clause-goes_on
returns-clause-goes_on c = grown_on

pub returns-clause-begins : goal.returns-clause-begins
returns-clause-begins c = grown_begins

pub returns-clause-asked : goal.returns-clause-asked
returns-clause-asked c = asked_keeps
