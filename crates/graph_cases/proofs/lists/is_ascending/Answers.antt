use Rattle.std.proofs.Common.{rules}
use Rattle.std.proofs.lemmas.Fn.{always_returns_same}
use Rattle.std.specs.Ordering.{is_lt}
use Rattle.mld_ops.proofs.Walking.{ascending_from_answer}
use Rattle.graph_cases.proofs.lists.is_ascending.Goals as goal

pub returns : goal.returns
returns g c =
    ascending_from_answer g.T.Ord.cmp g.met.T.Ord.total c.args.items.now c.is_sorted_by.result
    (c.is_sorted_by.ensures.cases (λ x y. is_lt (g.T.Ord.cmp x y)) (always_returns_same _ _ _ (λ a r f k. search rules)))
