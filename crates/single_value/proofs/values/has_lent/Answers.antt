use Rattle.std.proofs.Common.{rules}
use Rattle.std.proofs.lemmas.Fn.{always_returns_same}
use Rattle.mld_ops.specs.PairLists.{pair_lent}
use Rattle.mld_ops.specs.Tagged.{tagged_cmp}
use Rattle.mld_ops.proofs.Searching.{search_decides}
use Rattle.single_value.proofs.values.has_lent.Goals as goal

pub returns : goal.returns
returns c =
    search_decides c.args.pairs.now (pair_lent c.args.lent.now) c.binary_search_by.result c.is_ok.result c.requires c.binary_search_by.ensures.bound
    (c.binary_search_by.ensures.position (λ pair. tagged_cmp pair (pair_lent c.args.lent.now)) (always_returns_same _ _ _ (λ a r f k. search rules)))
    c.is_ok.ensures.value
