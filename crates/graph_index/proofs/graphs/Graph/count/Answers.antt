use Rattle.std.proofs.Common.{◌∙◌, ap}
use Rattle.graph_index.specs.Graphs.{GraphValue}
use Rattle.graph_index.proofs.Finding.{length_is}
use Rattle.graph_index.proofs.graphs.Graph.count.Goals as goal

pub returns : goal.returns
returns c =
    c.len.ensures.len
    ∙ length_is c.parts.result.now.tables c.parts.result.now.numbered.pairs c.parts.ensures.own c.args.self.now.pairs (ap (λ (v : GraphValue). v.pairs) c.parts.ensures.value) c.len.ensures.once
