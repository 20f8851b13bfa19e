use Rattle.std.proofs.Common.{◌≡◌, ◌∙◌, ◌-◌, map, take, drop, ap, sym}
use Rattle.std.proofs.lemmas.Result.{IfOk-weaker}
use Rattle.std.proofs.lemmas.Simd.{map-map}
use Rattle.pair_orders.specs.Keys.{slot_pairs}
use Rattle.pair_orders.specs.Orders.{OrderValue}
use Rattle.pair_orders.specs.PairEntries.{entries_of}
use Rattle.pair_orders.proofs.Lending.{lent_piece}
use Rattle.pair_orders.proofs.orders.KeyOrder.between.Goals as goal

pub returns-clause-pairs : goal.returns-clause-pairs
returns-clause-pairs g c =
    let lent = c.deref.result.now in
    let order = c.args.self.now in
    let slots = c.self.inside.slots.now in
    let elements = c.self.inside.keys.now.elements in
    IfOk-weaker c.lend_pairs.result
    (λ found. map (λ x. x.now) found.items ≡ slot_pairs slots (map (λ key. key.now.slot) lent))
    (λ found. map (λ x. x.now) found.items ≡ map (λ entry. entry.1) (entries_of order.slots (take (c.args.to - c.args.from) (drop c.args.from order.keys))))
    (λ found h. h ∙ ap (slot_pairs slots) (sym (map-map (λ key. key.slot) (λ x. x.now) lent))
    ∙ lent_piece c.self.inside.shape slots order.slots elements order.keys (map (λ x. x.now) lent) c.args.from (c.args.to - c.args.from)
    (ap (map (λ x. x.now)) c.deref.ensures.value ∙ c.in_ok-keys.ensures) (ap (λ (v : OrderValue). v.keys) c.self.view_is) (ap (λ (v : OrderValue). v.slots) c.self.view_is))
    c.lend_pairs.ensures.pairs
