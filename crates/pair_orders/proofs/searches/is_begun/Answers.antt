use Rattle.std.proofs.Common.{◌∙◌, ◌-◌, sym, ap, arith}
use Rattle.std.specs.Ordering.{is_gt}
use Rattle.pair_orders.specs.Orders.{is_before_places}
use Rattle.pair_orders.proofs.Dividing.{before_divides}
use Rattle.pair_orders.proofs.Narrowing.{one_before, stops_at, told_false}
use Rattle.pair_orders.proofs.searches.is_begun.Goals as goal

pub returns-else-at-eq0-clause-front : goal.returns-else-at-eq0-clause-front
returns-else-at-eq0-clause-front g c t =
    let shape = c.args.order.now.shape in
    let wanted = c.args.wanted.now in
    let keys = c.args.order.now.keys in
    one_before (is_before_places shape wanted) keys c.args.at (before_divides shape wanted keys c.len.ensures.order.ascending) (omega (arith, c.if-at-eq0.false)) c.requires
    (λ none. ap is_gt (sym (c.compare.ensures.order none)) ∙ sym c.is_gt.ensures ∙ t)

pub returns-else-at-eq0-clause-back : goal.returns-else-at-eq0-clause-back
returns-else-at-eq0-clause-back g c f =
    let shape = c.args.order.now.shape in
    let wanted = c.args.wanted.now in
    let keys = c.args.order.now.keys in
    stops_at (is_before_places shape wanted) keys (c.args.at - 1) (before_divides shape wanted keys c.len.ensures.order.ascending)
    (λ l none. ap is_gt (sym (c.compare.ensures.order none)) ∙ sym c.is_gt.ensures ∙ told_false c.is_gt.result f)
