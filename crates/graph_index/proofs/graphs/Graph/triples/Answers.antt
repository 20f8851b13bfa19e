use Rattle.std.proofs.Common.{◌∙◌, ap, arith, length, subst}
use Rattle.std.specs.List.{filter}
use Rattle.mld_ops.specs.declared.tagged.Tagged.{Tagged}
use Rattle.pair_orders.specs.Orders.{binary_digits}
use Rattle.graph_index.specs.Graphs.{GraphValue}
use Rattle.graph_index.specs.Numbered.{FindsNumbered, has_wanted}
use Rattle.graph_index.proofs.ByNumbers.{as_many_wanted, finds_numbered}
use Rattle.graph_index.proofs.Finding.{length_is, view_ascends}
use Rattle.graph_index.proofs.Ranging.{ok_weaker}
use Rattle.graph_index.proofs.graphs.Graph.triples.Goals as goal

pub returns-clause-found : goal.returns-clause-found
returns-clause-found g c =
    ok_weaker c.triples.result
    (λ found h. subst (λ (v : GraphValue). FindsNumbered v c.args.wanted.now found.items) c.parts.ensures.value
    (finds_numbered c.parts.result.now c.parts.ensures.own c.parts.ensures.apart c.args.wanted.now found.items h))
    c.triples.ensures.found

pub returns-clause-ascending : goal.returns-clause-ascending
returns-clause-ascending g c =
    view_ascends c.parts.result.now.tables c.parts.result.now.numbered.pairs c.parts.ensures.own c.args.self.now.pairs (ap (λ (v : GraphValue). v.pairs) c.parts.ensures.value)

pub returns-clause-bound : goal.returns-clause-bound
returns-clause-bound g c =
    let v = ap (λ (v : GraphValue). v.pairs) c.parts.ensures.value in
    let d = ap binary_digits (length_is c.parts.result.now.tables c.parts.result.now.numbered.pairs c.parts.ensures.own c.args.self.now.pairs v c.triples.ensures.once) in
    let m = as_many_wanted c.parts.result.now c.parts.ensures.own c.parts.ensures.apart c.args.wanted.now c.triples.ensures.once
    ∙ ap (λ (v : GraphValue). length (filter (λ (pair : Tagged). has_wanted v c.args.wanted.now pair.triple) v.pairs)) c.parts.ensures.value in
    let b = c.triples.ensures.bound in
    omega (arith, d, m, b)
