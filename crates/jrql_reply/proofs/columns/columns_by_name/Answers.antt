use Rattle.std.proofs.Common.{rules}
use Rattle.std.proofs.lemmas.Fn.{always_returns_same}
use Rattle.std.proofs.lemmas.List.Sorted.{ranks_by}
use Rattle.std.specs.Ordering.{is_lt}
use Rattle.jrql_reply.specs.Columns.{column_cmp}
use Rattle.jrql_reply.proofs.ColumnOrder.{column_total}
use Rattle.jrql_reply.proofs.columns.columns_by_name.Goals as goal

pub returns-clause-sorted : goal.returns-clause-sorted
returns-clause-sorted c =
    c.sort_unstable_by.ensures.sorted (λ a b. is_lt (column_cmp a b)) (ranks_by column_total (λ column. column)) (always_returns_same _ _ _ (λ a r f k. search rules))
