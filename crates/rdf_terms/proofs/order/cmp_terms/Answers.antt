use Rattle.std.proofs.Common.{rules}
use Rattle.rdf_terms.specs.Order.{term_cmp}
use Rattle.rdf_terms.specs.Spelling.{term_text}
use Rattle.rdf_terms.proofs.order.cmp_terms.Goals as goal

pub returns-in-Iri-Iri : goal.returns-in-Iri-Iri
unfolding term_cmp term_text
returns-in-Iri-Iri c = search rules
