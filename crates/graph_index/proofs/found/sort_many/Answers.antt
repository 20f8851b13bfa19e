use Rattle.std.proofs.Common.{List, subst}
use Rattle.std.proofs.lemmas.Result.{on_ok_weaker}
use Rattle.std.specs.Borrow.{Bor}
use Rattle.mld_ops.specs.PairLists.{row_pair}
use Rattle.mld_ops.specs.Tagged.{tagged_cmp}
use Rattle.mld_ops.specs.declared.pair_lists.PairRow.{PairRow}
use Rattle.tree_clock.specs.Lists.{IsAscending}
use Rattle.graph_index.proofs.Putting.{ascending_rows, sorted_rows}
use Rattle.graph_index.proofs.found.sort_many.Goals as goal

pub returns-then-are_in_order : goal.returns-then-are_in_order
returns-then-are_in_order c =
    let paths = c.args.paths.now in
    ascending_rows paths (λ row. row.now) c.args.found.now.items
    (subst (λ (xs : List (Bor PairRow)). IsAscending (λ a b. tagged_cmp (row_pair paths a.now) (row_pair paths b.now)) xs) c.deref.ensures.value (c.are_in_order.ensures c.if-are_in_order.true))

pub returns : goal.returns
returns c =
    on_ok_weaker c.sort_by_hints.result
    (λ up. sorted_rows c.args.paths.now (λ row. row.now) c.args.found.now.items c.sort_by_hints.new.elements.items c.requires c.sort_by_hints.ensures.same up)
    c.sort_by_hints.ensures.sorted
