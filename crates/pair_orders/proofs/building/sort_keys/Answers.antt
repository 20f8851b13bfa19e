use Rattle.std.proofs.Common.{rules}
use Rattle.std.proofs.lemmas.Fn.{always_returns_same}
use Rattle.std.proofs.lemmas.List.Sorted.{ranks_by}
use Rattle.std.specs.Ordering.{is_lt}
use Rattle.pair_orders.specs.Keys.{ranked_cmp, ranked_total, ranked_exact}
use Rattle.pair_orders.proofs.Sorting.{same_members, sorted_once}
use Rattle.pair_orders.proofs.building.sort_keys.Goals as goal

pub returns-clause-ascending : goal.returns-clause-ascending
returns-clause-ascending c =
    let up = c.sort_unstable_by.ensures.sorted (λ a b. is_lt (ranked_cmp a b)) (ranks_by ranked_total (λ k. k)) (always_returns_same _ _ _ (λ a r f k. search rules)) in
    sorted_once ranked_cmp ranked_total ranked_exact c.args.keys.now.items c.sort_unstable_by.new.self.items c.requires c.sort_unstable_by.ensures.permutation up

pub returns-clause-same : goal.returns-clause-same
returns-clause-same c = same_members c.args.keys.now.items c.sort_unstable_by.new.self.items c.sort_unstable_by.ensures.permutation
