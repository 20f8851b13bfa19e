use Rattle.std.proofs.Common.{rules}
use Rattle.std.proofs.lemmas.Fn.{always_returns_same, dedup_same}
use Rattle.std.proofs.lemmas.List.Sorted.{ranks_by}
use Rattle.std.specs.Ordering.{eq_by_cmp, is_lt}
use Rattle.mld_ops.proofs.Keeping.{sorted_in_order}
use Rattle.mld_ops.proofs.ordered.put_in_order.Goals as goal

pub returns : goal.returns
returns g c exact =
    let order = c.sort_unstable_by.ensures.sorted (λ a b. is_lt (g.T.Ord.cmp a b)) (ranks_by g.met.T.Ord.total (λ p. p)) (always_returns_same _ _ _ (λ a r f k. search rules)) in
    let each = dedup_same _ (eq_by_cmp g.T.Ord.cmp) _ (λ a b s f x y k. search rules) _ _ c.dedup_by.ensures.filtered in
    sorted_in_order g.T.Ord.cmp g.met.T.Ord.total exact c.args.given.items c.sort_unstable_by.new.self.items c.dedup_by.new.self.items c.sort_unstable_by.ensures.permutation order each
