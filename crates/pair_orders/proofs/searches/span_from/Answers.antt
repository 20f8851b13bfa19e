use Rattle.std.proofs.Common.{◌<◌, length, refl, arith}
use Rattle.pair_orders.proofs.Spanning.{some_digits, span_behind, span_begun}
use Rattle.std.specs.declared.cmp.Ordering.TheVariants.{Less, Equal}
use Rattle.pair_orders.proofs.searches.span_from.Goals as goal

pub returns-in-Less-clause-is : goal.returns-in-Less-clause-is
returns-in-Less-clause-is g c =
    span_behind c.args.order.now.shape c.args.wanted.now c.args.order.now.keys c.len-count.ensures.order.ascending c.args.at c.requires.end c.requires.front Less c.in-Less.ensures.order refl

pub returns-in-Equal-clause-is : goal.returns-in-Equal-clause-is
returns-in-Equal-clause-is g c =
    let behind = c.behind_next.ensures in
    span_begun c.args.order.now.shape c.args.wanted.now c.args.order.now.keys c.len-count.ensures.order.ascending c.args.at c.requires.end c.requires.front Equal c.in-Equal.ensures.order refl
    c.behind_next.result behind.from behind.end behind.place

pub returns-in-Equal-clause-bound : goal.returns-in-Equal-clause-bound
returns-in-Equal-clause-bound g c =
    let some : 0 < length c.args.order.now.keys = omega (arith, c.if-at-count.false, c.len-count.ensures.len, c.requires.end) in
    let d = some_digits (length c.args.order.now.keys) some in
    omega (arith, c.behind_next.ensures.bound, c.in-Equal.ensures.step, d)
