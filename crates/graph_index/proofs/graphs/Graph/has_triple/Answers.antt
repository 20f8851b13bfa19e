use Rattle.std.proofs.Common.{ap}
use Rattle.std.proofs.lemmas.Bool.{false≢true}
use Rattle.graph_index.specs.Graphs.{GraphValue}
use Rattle.graph_index.proofs.Finding.{view_ascends, triple_found, triple_lacks}
use Rattle.graph_index.proofs.graphs.Graph.has_triple.Goals as goal

pub returns-in-Some-clause-found : goal.returns-in-Some-clause-found
returns-in-Some-clause-found c =
    let t = triple_found c.parts-parts.result.now.tables c.parts-parts.result.now.numbered.pairs c.parts-parts.ensures.own c.args.self.now.pairs (ap (λ (v : GraphValue). v.pairs) c.parts-parts.ensures.value)
    c.args.triple.now c.in-Some.s c.in-Some.p c.in-Some.o c.in-Some.ensures.some.0 c.in-Some.ensures.some.1 c.in-Some.ensures.some.2 in
    (λ h. t.0 (c.has_triple.ensures.0 h), λ h. c.has_triple.ensures.1 (t.1 h))

pub returns-in-Some-clause-ascending : goal.returns-in-Some-clause-ascending
returns-in-Some-clause-ascending c =
    view_ascends c.parts-parts.result.now.tables c.parts-parts.result.now.numbered.pairs c.parts-parts.ensures.own c.args.self.now.pairs (ap (λ (v : GraphValue). v.pairs) c.parts-parts.ensures.value)

pub returns-in-None-clause-found : goal.returns-in-None-clause-found
returns-in-None-clause-found c = (
  λ h. absurd (false≢true h),
  λ h. absurd (triple_lacks c.parts-parts.result.now.tables c.parts-parts.result.now.numbered.pairs c.parts-parts.ensures.own c.args.self.now.pairs (ap (λ (v : GraphValue). v.pairs) c.parts-parts.ensures.value) c.args.triple.now c.in-None.ensures.none h),
)

pub returns-in-None-clause-ascending : goal.returns-in-None-clause-ascending
returns-in-None-clause-ascending c =
    view_ascends c.parts-parts.result.now.tables c.parts-parts.result.now.numbered.pairs c.parts-parts.ensures.own c.args.self.now.pairs (ap (λ (v : GraphValue). v.pairs) c.parts-parts.ensures.value)
