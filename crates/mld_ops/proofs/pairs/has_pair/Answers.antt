use Rattle.mld_ops.proofs.Searching.{search_decides}
use Rattle.mld_ops.proofs.pairs.has_pair.Goals as goal

pub returns : goal.returns
returns c = search_decides _ _ _ _ c.requires c.binary_search.ensures.bound c.binary_search.ensures.position c.is_ok.ensures.value
