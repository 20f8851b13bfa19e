use Rattle.std.proofs.Common.{◌≡◌, map, sym, subst, ap, arith}
use Rattle.std.proofs.lemmas.Result.{IfOk-weaker}
use Rattle.pair_orders.specs.Keys.{has_places, LeadsByTerms}
use Rattle.pair_orders.specs.Orders.{binary_digits, entries_with}
use Rattle.pair_orders.specs.PairEntries.{FindsEntries, entries_of}
use Rattle.pair_orders.proofs.Matching.{finds_entries, length_kept}
use Rattle.pair_orders.proofs.Together.{kept_together}
use Rattle.pair_orders.proofs.pairs.NumberedPairs.search.Goals as goal

pub returns-clause-found : goal.returns-clause-found
returns-clause-found g c =
    let pairs = c.args.self.now.pairs in
    let entries = entries_of c.order-order.result.slots c.order-order.result.keys in
    let together = kept_together c.order-order.result.slots c.order-order.result.shape c.order-order.result.keys (has_places c.args.wanted.now)
    (subst (λ shape. LeadsByTerms shape) (sym c.order-order.ensures.shape) c.shape.ensures.terms) c.len-2.ensures.order in
    IfOk-weaker c.search.result
    (λ found. map (λ x. x.now) found.items ≡ map (λ entry. entry.1) (entries_with c.args.wanted.now entries))
    (λ found. FindsEntries (has_places c.args.wanted.now) pairs (map (λ x. x.now) found.items))
    (λ found e. finds_entries (has_places c.args.wanted.now) pairs entries c.order-order.ensures.entries c.order-order.ensures.once together (map (λ x. x.now) found.items) e)
    c.search.ensures.found

pub returns-clause-bound : goal.returns-clause-bound
returns-clause-bound g c =
    let entries = entries_of c.order-order.result.slots c.order-order.result.keys in
    let digits = ap binary_digits c.order-order.ensures.length in
    let kept = length_kept (has_places c.args.wanted.now) c.args.self.now.pairs entries c.order-order.ensures.entries c.order-order.ensures.once c.len.ensures.once in
    omega (arith, c.search.ensures.bound, digits, kept)
