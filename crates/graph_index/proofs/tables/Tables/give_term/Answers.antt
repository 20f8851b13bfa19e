use Rattle.std.proofs.Common.{subst}
use Rattle.graph_index.specs.TermNumbers.{TablesValue, KeepsNumbers}
use Rattle.graph_index.proofs.Numbers.{grown_term}
use Rattle.graph_index.proofs.tables.Tables.give_term.Goals as goal

pub returns-clause-grown : goal.returns-clause-grown
returns-clause-grown c =
    let new = c.give.new.self in
    subst (λ (v : TablesValue). KeepsNumbers v (record { terms = new; paths = c.self.inside.paths })) c.self.view_is
    (grown_term (record { terms = c.self.inside.terms; paths = c.self.inside.paths }) new c.args.term.now c.give.result c.give.ensures.ok c.give.ensures.err)
