use Rattle.pair_orders.specs.Orders.{is_up_to_places}
use Rattle.pair_orders.proofs.Dividing.{up_to_divides}
use Rattle.pair_orders.proofs.Narrowing.{stops_at}
use Rattle.pair_orders.proofs.searches.behind_next.Goals as goal

pub returns-then-is_behind-clause-place : goal.returns-then-is_behind-clause-place
returns-then-is_behind-clause-place g c =
    let shape = c.args.order.now.shape in
    let wanted = c.args.wanted.now in
    let keys = c.args.order.now.keys in
    let parted = up_to_divides shape wanted keys c.len.ensures.order.ascending in
    (c.requires.front, stops_at (is_up_to_places shape wanted) keys c.args.next parted (c.is_behind.ensures.behind c.if-is_behind.true))
