use Rattle.std.proofs.Common.{sym, subst, ap, arith}
use Rattle.pair_orders.specs.Keys.{has_places, LeadsByTerms}
use Rattle.pair_orders.specs.Orders.{binary_digits}
use Rattle.pair_orders.specs.PairEntries.{StandOnce, entries_of}
use Rattle.pair_orders.specs.TripleEntries.{AreTriplesOf, FindsTriples}
use Rattle.pair_orders.proofs.Matching.{length_kept}
use Rattle.pair_orders.proofs.Triples.{ok_both, same_triples}
use Rattle.pair_orders.proofs.pairs.NumberedPairs.triples.Goals as goal

pub returns-clause-found : goal.returns-clause-found
returns-clause-found g c =
    let pairs = c.args.self.now.pairs in
    let test = has_places c.args.wanted.now in
    let entries = entries_of c.order.result.slots c.order.result.keys in
    ok_both c.search_triples.result
    (λ found. AreTriplesOf test entries found.items)
    (λ found. StandOnce found.items)
    (λ found. FindsTriples test pairs found.items)
    (λ found are once. record { members = same_triples test entries pairs c.order.ensures.entries found.items are; once = once })
    c.search_triples.ensures.members
    (c.search_triples.ensures.once (subst (λ shape. LeadsByTerms shape) (sym c.order.ensures.shape) c.shape.ensures.terms))

pub returns-clause-bound : goal.returns-clause-bound
returns-clause-bound g c =
    let entries = entries_of c.order.result.slots c.order.result.keys in
    let digits = ap binary_digits c.order.ensures.length in
    let kept = length_kept (has_places c.args.wanted.now) c.args.self.now.pairs entries c.order.ensures.entries c.order.ensures.once c.len.ensures.once in
    omega (arith, c.search_triples.ensures.bound, digits, kept)
