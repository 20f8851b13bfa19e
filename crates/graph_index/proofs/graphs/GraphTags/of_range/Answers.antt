use Rattle.std.proofs.Common.{◌∙◌}
use Rattle.graph_index.specs.Matching.{is_within_range}
use Rattle.graph_index.proofs.Ranging.{ok_weaker, of_range}
use Rattle.graph_index.proofs.Finding.{found_sorted}
use Rattle.graph_index.proofs.graphs.GraphTags.of_range.Goals as goal

pub in_order-requires : goal.in_order-requires
in_order-requires c = c.in_ok-found.ensures.found.once

pub returns : goal.returns
returns c =
    let sorted = c.in_order.ensures
    ∙ found_sorted c.args.self.now.pairs (λ pair. is_within_range c.args.range.now pair.dot) c.in_ok-found.found c.in_ok-found.ensures.ascending c.in_ok-found.ensures.found in
    ok_weaker c.to_list-2.result
    (λ list h. of_range c.args.range.now c.args.self.now.pairs list.items c.in_ok-found.ensures.ascending (h ∙ sorted))
    c.to_list-2.ensures
