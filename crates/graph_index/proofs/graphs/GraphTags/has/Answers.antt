use Rattle.std.proofs.Common.{ap}
use Rattle.std.proofs.lemmas.Bool.{false≢true}
use Rattle.graph_index.specs.Graphs.{GraphValue}
use Rattle.graph_index.proofs.Finding.{has_numbered, has_none}
use Rattle.graph_index.proofs.graphs.GraphTags.has.Goals as goal

pub returns-in-Some : goal.returns-in-Some
returns-in-Some c =
    let h = has_numbered c.parts-parts.result.now.tables c.parts-parts.result.now.numbered.pairs c.parts-parts.ensures.own c.args.self.now.pairs (ap (λ (v : GraphValue). v.pairs) c.parts-parts.ensures.value) c.args.pair.now c.in-Some.numbers c.in-Some.ensures.some in
    (λ k. h.0 (c.has.ensures.0 k), λ k. c.has.ensures.1 (h.1 k))

pub returns-in-None : goal.returns-in-None
returns-in-None c = (λ h. absurd (false≢true h), λ h. absurd (has_none c.parts-parts.result.now.tables c.parts-parts.result.now.numbered.pairs c.parts-parts.ensures.own c.args.self.now.pairs (ap (λ (v : GraphValue). v.pairs) c.parts-parts.ensures.value) c.args.pair.now c.in-None.ensures.none h))
