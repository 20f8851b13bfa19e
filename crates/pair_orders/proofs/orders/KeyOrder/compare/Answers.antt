use Rattle.std.proofs.Common.{◌∙◌, ◌+◌, get_or, drop, ap, sym}
use Rattle.pair_orders.specs.Keys.{places_cmp}
use Rattle.pair_orders.specs.Orders.{OrderValue}
use Rattle.pair_orders.proofs.Ranking.{key_at}
use Rattle.pair_orders.proofs.orders.KeyOrder.compare.Goals as goal

pub returns-clause-order : goal.returns-clause-order
returns-clause-order g c none =
    let elements = c.self.inside.keys.now.elements in
    c.compare_places.ensures
    ∙ ap (places_cmp c.self.inside.shape c.args.wanted.now) (sym (key_at c.self.inside.shape elements (drop (c.args.at + 1) elements) c.at.result.now c.args.at c.at.ensures none))
    ∙ ap (λ (v : OrderValue). places_cmp v.shape c.args.wanted.now (get_or v.keys c.args.at none)) c.self.view_is
