use Rattle.std.proofs.Common.{◌∙◌, List, Option, ap}
use Rattle.rdf_terms.specs.declared.terms.Term.{Term}
use Rattle.jrql_rows.specs.Unbinding.{cleared}
use Rattle.jrql_rows.proofs.binding.unbind_all.Goals as goal

pub returns-clause-graph : goal.returns-clause-graph
returns-clause-graph c = c.unbind-3.ensures.graph ∙ c.unbind-2.ensures.graph ∙ c.unbind.ensures.graph

pub returns-clause-unbound : goal.returns-clause-unbound
returns-clause-unbound c =
    let free = c.args.free.now in
    c.unbind-3.ensures.unbound
    ∙ ap (λ (row : List (Option Term)). cleared free.s row) (c.unbind-2.ensures.unbound ∙ ap (λ (row : List (Option Term)). cleared free.p row) c.unbind.ensures.unbound)
