use Rattle.std.proofs.Common.{◌-◌, ◌↔◌, map, take, drop, refl, arith}
use Rattle.std.proofs.lemmas.Result.{IfOk-weaker}
use Rattle.tree_clock.specs.Lists.{Has}
use Rattle.pair_orders.specs.Keys.{has_places}
use Rattle.pair_orders.specs.PairEntries.{entries_of}
use Rattle.pair_orders.specs.TripleEntries.{AreTriplesOf, key_terms}
use Rattle.pair_orders.specs.declared.keys.TermNumbers.{TermNumbers}
use Rattle.pair_orders.proofs.Leading.{entries_between, count_between}
use Rattle.pair_orders.proofs.Pieces.{has_piece}
use Rattle.pair_orders.proofs.Triples.{triples_of_entries}
use Rattle.pair_orders.proofs.searches.search_triples.Goals as goal

pub returns-clause-members : goal.returns-clause-members
returns-clause-members g c =
    let order = c.args.order.now in
    let wanted = c.args.wanted.now in
    let span = c.find_span-span.result in
    let is = c.find_span-span.ensures.is in
    let count = span.to - span.from in
    let piece = take count (drop span.from order.keys) in
    let entries = entries_of order.slots order.keys in
    let between = entries_between order.slots order.shape wanted order.keys span.from span.to c.requires is.order is.end is.before is.up_to in
    IfOk-weaker c.triples_between.result
    (λ found. (terms : TermNumbers) → Has found.items terms ↔ Has (map key_terms piece) terms)
    (λ found. AreTriplesOf (has_places wanted) entries found.items)
    (λ found m. triples_of_entries order.slots (has_places wanted) entries piece between
    (λ key h. c.find_span-span.ensures.order.occupied key (has_piece order.keys piece span.from count key refl h)) found.items m)
    c.triples_between.ensures.members

pub returns-clause-once : goal.returns-clause-once
returns-clause-once g c = c.triples_between.ensures.once

pub returns-clause-bound : goal.returns-clause-bound
returns-clause-bound g c =
    let order = c.args.order.now in
    let span = c.find_span-span.result in
    let is = c.find_span-span.ensures.is in
    let count = count_between order.slots order.shape c.args.wanted.now order.keys span.from span.to c.requires is.order is.end is.before is.up_to c.find_span-span.ensures.order in
    omega (arith, c.find_span-span.ensures.bound, c.triples_between.ensures.most, count)
