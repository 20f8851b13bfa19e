use Rattle.std.proofs.Common.{◌≡◌, ◌∙◌, ◌-◌, ◌↔◌, map, take, drop, subst, ap}
use Rattle.std.proofs.lemmas.Result.{IfOk-weaker}
use Rattle.tree_clock.specs.Lists.{Has}
use Rattle.pair_orders.specs.Orders.{OrderValue, IsOrder}
use Rattle.pair_orders.specs.PairEntries.{StandOnce, StandTogether}
use Rattle.pair_orders.specs.Keys.{key_by}
use Rattle.pair_orders.specs.TripleEntries.{key_terms}
use Rattle.pair_orders.specs.declared.keys.TermNumbers.{TermNumbers}
use Rattle.pair_orders.proofs.Ranking.{lent_keys}
use Rattle.pair_orders.proofs.Triples.{piece_members, piece_together}
use Rattle.pair_orders.proofs.orders.KeyOrder.triples_between.Goals as goal

pub returns-clause-members : goal.returns-clause-members
returns-clause-members g c =
    let lent = c.deref.result.now in
    let order = c.args.self.now in
    let piece = take (c.args.to - c.args.from) (drop c.args.from c.args.self.now.keys) in
    let e : map (λ x. key_by c.self.inside.shape x.now) lent ≡ piece =
    lent_keys (λ x. x.now) c.self.inside.shape c.self.inside.keys.now.elements order.keys lent c.args.from (c.args.to - c.args.from)
    (ap (map (λ x. x.now)) c.deref.ensures.value ∙ c.in_ok-lent.ensures) (ap (λ (v : OrderValue). v.keys) c.self.view_is) in
    IfOk-weaker c.terms_of.result
    (λ found. (terms : TermNumbers) → Has found.items terms ↔ Has (map (λ key. key_terms (key_by c.self.inside.shape key.now)) lent) terms)
    (λ found. (terms : TermNumbers) → Has found.items terms ↔ Has (map key_terms piece) terms)
    (λ found m. piece_members (λ x. key_by c.self.inside.shape x.now) piece lent found.items e m)
    c.terms_of.ensures.members

pub returns-clause-once : goal.returns-clause-once
returns-clause-once g c leads =
    let lent = c.deref.result.now in
    let order = c.args.self.now in
    let e : map (λ x. key_by c.self.inside.shape x.now) lent ≡ take (c.args.to - c.args.from) (drop c.args.from order.keys) =
    lent_keys (λ x. x.now) c.self.inside.shape c.self.inside.keys.now.elements order.keys lent c.args.from (c.args.to - c.args.from)
    (ap (map (λ x. x.now)) c.deref.ensures.value ∙ c.in_ok-lent.ensures) (ap (λ (v : OrderValue). v.keys) c.self.view_is) in
    let is = subst (λ (v : OrderValue). IsOrder v.shape v.keys v.slots) c.self.view_is c.self.invariant in
    IfOk-weaker c.terms_of.result
    (λ found. StandTogether (λ key. key_terms (key_by c.self.inside.shape key.now)) lent → StandOnce found.items)
    (λ found. StandOnce found.items)
    (λ found once. once (piece_together (λ x. key_by c.self.inside.shape x.now) order.shape order.keys order.slots c.args.from (c.args.to - c.args.from) lent leads is e))
    c.terms_of.ensures.once
