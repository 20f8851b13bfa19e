use Rattle.std.proofs.Common.{subst}
use Rattle.graph_index.specs.TermNumbers.{TablesValue, KeepsNumbers}
use Rattle.graph_index.proofs.Numbers.{grown_path}
use Rattle.graph_index.proofs.tables.Tables.give_path.Goals as goal

pub returns-clause-grown : goal.returns-clause-grown
returns-clause-grown c =
    let new = c.give.new.self in
    subst (λ (v : TablesValue). KeepsNumbers v (record { terms = c.self.inside.terms; paths = new })) c.self.view_is
    (grown_path (record { terms = c.self.inside.terms; paths = c.self.inside.paths }) new c.args.path.now c.give.result c.give.ensures.ok c.give.ensures.err)
