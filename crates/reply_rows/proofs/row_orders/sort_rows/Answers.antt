use Rattle.std.proofs.Common.{rules}
use Rattle.std.proofs.lemmas.Fn.{always_returns_same}
use Rattle.std.proofs.lemmas.List.Sorted.{ranks_by}
use Rattle.std.specs.Ordering.{is_lt}
use Rattle.reply_rows.specs.Rising.{row_order}
use Rattle.reply_rows.proofs.RowLaws.{rows_total}
use Rattle.reply_rows.proofs.row_orders.sort_rows.Goals as goal

pub returns : goal.returns
returns c = record {
  same = c.sort_unstable_by.ensures.permutation;
  ascending = c.sort_unstable_by.ensures.sorted (λ a b. is_lt (row_order a b)) (ranks_by rows_total (λ x. x)) (always_returns_same _ _ _ (λ a r f k. search rules));
}
