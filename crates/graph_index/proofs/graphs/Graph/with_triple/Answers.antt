use Rattle.std.proofs.Common.{◌∙◌}
use Rattle.graph_index.specs.Matching.{is_of}
use Rattle.graph_index.proofs.Finding.{found_sorted}
use Rattle.graph_index.proofs.graphs.Graph.with_triple.Goals as goal

pub in_order-requires : goal.in_order-requires
in_order-requires c = c.in_ok-found.ensures.found.once

pub returns : goal.returns
returns c =
    c.in_order.ensures
    ∙ found_sorted c.args.self.now.pairs (is_of c.args.triple.now) c.in_ok-found.found c.in_ok-found.ensures.ascending c.in_ok-found.ensures.found
