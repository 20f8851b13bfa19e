use Rattle.std.proofs.Common.{◌≡◌, ◌↔◌, Some, ap, subst}
use Rattle.rdf_terms.specs.declared.terms.Triple.{Triple}
use Rattle.pair_orders.specs.PairEntries.{HasTerms}
use Rattle.graph_index.specs.Graphs.{GraphValue}
use Rattle.graph_index.specs.Matching.{HasTriple}
use Rattle.graph_index.specs.Numbered.{triple_numbered}
use Rattle.graph_index.proofs.ByNumbers.{terms_found}
use Rattle.graph_index.proofs.Finding.{view_ascends}
use Rattle.graph_index.proofs.graphs.Graph.has_numbers.Goals as goal

pub returns-clause-found : goal.returns-clause-found
returns-clause-found c =
    let t = subst (λ (v : GraphValue). HasTerms c.parts.result.now.numbered.pairs c.args.terms.now.s c.args.terms.now.p c.args.terms.now.o
    ↔ ((triple : Triple) × (triple_numbered v c.args.terms.now ≡ Some triple) × HasTriple v.pairs triple)) c.parts.ensures.value
    (terms_found c.parts.result.now c.parts.ensures.own c.parts.ensures.apart c.args.terms.now) in
    (λ h. t.0 (c.has_triple.ensures.0 h), λ h. c.has_triple.ensures.1 (t.1 h))

pub returns-clause-ascending : goal.returns-clause-ascending
returns-clause-ascending c =
    view_ascends c.parts.result.now.tables c.parts.result.now.numbered.pairs c.parts.ensures.own c.args.self.now.pairs (ap (λ (v : GraphValue). v.pairs) c.parts.ensures.value)
