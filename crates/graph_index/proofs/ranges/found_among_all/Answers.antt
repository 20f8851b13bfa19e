use Rattle.std.proofs.Common.{◌∙◌, map, ap}
use Rattle.graph_index.proofs.Ranging.{of_range, ok_weaker}
use Rattle.graph_index.proofs.ranges.found_among_all.Goals as goal

pub returns : goal.returns
returns c =
    ok_weaker c.copy_found.result
    (λ list h. of_range c.args.range.now c.args.pairs.now.elements list.items c.requires (h ∙ ap (map (λ x. x.now)) c.deref.ensures.value ∙ c.in_ok-found.ensures)) c.copy_found.ensures
