use Rattle.std.proofs.Common.{rules}
use Rattle.std.proofs.lemmas.Fn.{always_returns_same}
use Rattle.std.proofs.lemmas.List.Sorted.{ranks_by}
use Rattle.std.specs.Cmp.Lexicographic.{slice_cmp, nat_list_cmp_total}
use Rattle.std.specs.Ordering.{is_lt, nat_cmp}
use Rattle.jrql_rows.proofs.columns.sort_names.Goals as goal

pub returns-clause-by_name : goal.returns-clause-by_name
returns-clause-by_name c =
    c.sort_unstable_by.ensures.sorted (λ pair other. is_lt (slice_cmp nat_cmp pair.0.now other.0.now)) (ranks_by nat_list_cmp_total (λ pair. pair.0.now)) (always_returns_same _ _ _ (λ a r f k. search rules))
