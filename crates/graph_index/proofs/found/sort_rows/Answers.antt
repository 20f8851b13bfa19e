use Rattle.std.proofs.lemmas.Result.{on_ok_weaker}
use Rattle.mld_ops.specs.PairLists.{row_pair}
use Rattle.graph_index.proofs.Putting.{sorted_order}
use Rattle.graph_index.proofs.found.sort_rows.Goals as goal

pub returns : goal.returns
returns c =
    on_ok_weaker c.sort_by_hints.result
    (λ up. sorted_order (row_pair c.args.paths.now) c.args.rows.now.items c.sort_by_hints.new.elements.items c.requires c.sort_by_hints.ensures.same up)
    c.sort_by_hints.ensures.sorted
