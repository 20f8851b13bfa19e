use Rattle.std.proofs.Common.{rules}
use Rattle.std.proofs.lemmas.Fn.{always_returns_same}
use Rattle.std.proofs.lemmas.List.Sorted.{ranks_by}
use Rattle.std.specs.Ordering.{is_lt}
use Rattle.hinted_chunks.specs.HintedOrder.{hinted_cmp}
use Rattle.hinted_chunks.proofs.HintedSort.{hinted_total}
use Rattle.hinted_chunks.proofs.sorting.sort_hinted.Goals as goal

pub returns-clause-sorted : goal.returns-clause-sorted
returns-clause-sorted g c =
    let order = g.O.TextOrder.order c.args.order.now in
    c.sort_unstable_by.ensures.sorted (λ a b. is_lt (hinted_cmp order a b)) (ranks_by (hinted_total order (g.met.O.TextOrder.total c.args.order.now)) (λ x. x))
    (always_returns_same _ _ _ (λ a r f k. search rules))
