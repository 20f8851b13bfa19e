use Rattle.std.proofs.Common.{subst}
use Rattle.rdf_terms.specs.declared.terms.Term.TheVariants as terms
use Rattle.graph_index.specs.TermNumbers.{TablesValue, KeepsNumbers}
use Rattle.graph_index.proofs.Numbers.{grown_term}
use Rattle.graph_index.proofs.tables.Tables.give_iri.Goals as goal

pub returns-clause-grown : goal.returns-clause-grown
returns-clause-grown c =
    let new = c.give_iri.new.self in
    subst (λ (v : TablesValue). KeepsNumbers v (record { terms = new; paths = c.self.inside.paths })) c.self.view_is
    (grown_term (record { terms = c.self.inside.terms; paths = c.self.inside.paths }) new (terms.Iri c.args.iri.now) c.give_iri.result c.give_iri.ensures.ok c.give_iri.ensures.err)
