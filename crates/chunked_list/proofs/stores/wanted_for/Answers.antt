use Rattle.std.proofs.Common.{arith}
use Rattle.chunked_list.proofs.Storing.{excess_bound}
use Rattle.chunked_list.proofs.stores.wanted_for.Goals as goal

pub overflow_add-store : goal.overflow_add-store
overflow_add-store g c = let b = excess_bound c.args.store.now.chunks.items c.requires.is.sized in omega (arith, b, c.count_half.ensures.limit, c.requires.is.excess, c.requires.is.few)

pub overflow_add-store-2 : goal.overflow_add-store-2
overflow_add-store-2 g c = let b = excess_bound c.args.store.now.chunks.items c.requires.is.sized in omega (arith, b, c.count_half.ensures.limit, c.requires.is.excess, c.requires.is.few, c.requires.few)
