use Rattle.std.proofs.Common.{arith}
use Rattle.pair_orders.proofs.Leading.{entries_between, count_between}
use Rattle.pair_orders.proofs.searches.search.Goals as goal

pub returns-clause-found : goal.returns-clause-found
returns-clause-found g c =
    let order = c.args.order.now in
    let span = c.find_span-span.result in
    let is = c.find_span-span.ensures.is in
    rw (entries_between order.slots order.shape c.args.wanted.now order.keys span.from span.to c.requires is.order is.end is.before is.up_to) c.between.ensures.pairs

pub returns-clause-bound : goal.returns-clause-bound
returns-clause-bound g c =
    let order = c.args.order.now in
    let span = c.find_span-span.result in
    let is = c.find_span-span.ensures.is in
    let count = count_between order.slots order.shape c.args.wanted.now order.keys span.from span.to c.requires is.order is.end is.before is.up_to c.find_span-span.ensures.order in
    omega (arith, c.find_span-span.ensures.bound, c.between.ensures.most, count)
