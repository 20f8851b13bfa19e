use Rattle.std.proofs.Common.{◌≡◌, ◌↔◌, Some, IsTrue, subst}
use Rattle.jrql_rows.specs.rdf_terms.declared.terms.Triple.{Triple}
use Rattle.jrql_rows.specs.tree_clock.Lists.{IsAscending}
use Rattle.jrql_rows.specs.mld_ops.Tagged.{tagged_cmp}
use Rattle.jrql_rows.specs.graph_index.Graphs.{GraphValue}
use Rattle.jrql_rows.specs.graph_index.Matching.{HasTriple}
use Rattle.jrql_rows.specs.graph_index.Numbered.{triple_numbered, TermNumbers}
use Rattle.jrql_eval.proofs.NumberedTriples.{none_agrees, numbers_checked, no_subject, no_predicate, no_object}
use Rattle.jrql_eval.proofs.scanning.is_present.Goals as goal

pub returns-in_default : goal.returns-in_default
returns-in_default c =
    let graph = c.args.row.now.graph in
    let pattern = c.args.pattern.now in
    let row = c.args.row.now.row in
    none_agrees graph pattern row c.in_default.ensures.all (no_subject graph pattern row c.in_default.ensures.none)

pub returns-in_default-predicate : goal.returns-in_default-predicate
returns-in_default-predicate c =
    let graph = c.args.row.now.graph in
    let pattern = c.args.pattern.now in
    let row = c.args.row.now.row in
    none_agrees graph pattern row c.in_default-predicate.ensures.all (no_predicate graph pattern row c.in_default-predicate.ensures.none)

pub returns-in_default-object : goal.returns-in_default-object
returns-in_default-object c =
    let graph = c.args.row.now.graph in
    let pattern = c.args.pattern.now in
    let row = c.args.row.now.row in
    none_agrees graph pattern row c.in_default-object.ensures.all (no_object graph pattern row c.in_default-object.ensures.none)

pub returns : goal.returns
returns c =
    let numbers : TermNumbers = record { s = c.in-Some.s; p = c.in-Some-predicate.p; o = c.in-Some-object.o } in
    numbers_checked c.args.row.now.graph c.args.pattern.now c.args.row.now.row numbers c.in-Some.ensures.some c.in-Some-predicate.ensures.some
    c.in-Some-object.ensures.some c.requires
    (subst (λ (g : GraphValue). IsAscending tagged_cmp g.pairs) c.graph.ensures c.has_numbers.ensures.ascending) c.has_numbers.result
    (subst (λ (g : GraphValue). IsTrue c.has_numbers.result ↔ ((triple : Triple) × (triple_numbered g numbers ≡ Some triple) × HasTriple g.pairs triple)) c.graph.ensures
    c.has_numbers.ensures.found)
