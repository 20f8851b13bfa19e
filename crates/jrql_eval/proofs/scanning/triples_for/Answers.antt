use Rattle.jrql_rows.proofs.of_graph_index.Ranging.{ok_weaker}
use Rattle.jrql_eval.proofs.NumberedTriples.{finds_for_wanted, finds_none, no_subject, no_predicate, no_object}
use Rattle.jrql_eval.proofs.scanning.triples_for.Goals as goal

pub returns-in_default : goal.returns-in_default
returns-in_default c =
    let graph = c.args.row.now.graph in
    let pattern = c.args.pattern.now in
    let row = c.args.row.now.row in
    finds_none graph pattern row c.in_default.ensures.all (no_subject graph pattern row c.in_default.ensures.place) c.new.result.items c.new.ensures.items

pub returns-in_default-predicate : goal.returns-in_default-predicate
returns-in_default-predicate c =
    let graph = c.args.row.now.graph in
    let pattern = c.args.pattern.now in
    let row = c.args.row.now.row in
    finds_none graph pattern row c.in_default-predicate.ensures.all (no_predicate graph pattern row c.in_default-predicate.ensures.place)
    c.new-in_default-predicate.result.items c.new-in_default-predicate.ensures.items

pub returns-in_default-object : goal.returns-in_default-object
returns-in_default-object c =
    let graph = c.args.row.now.graph in
    let pattern = c.args.pattern.now in
    let row = c.args.row.now.row in
    finds_none graph pattern row c.in_default-object.ensures.all (no_object graph pattern row c.in_default-object.ensures.place)
    c.new-in_default-object.result.items c.new-in_default-object.ensures.items

pub returns : goal.returns
returns c =
    ok_weaker c.triples_in.result
    (λ found finds. finds_for_wanted c.args.row.now.graph c.args.pattern.now c.args.row.now.row c.in-Some.s c.in-Some-predicate.p c.in-Some-object.o
    c.in-Some.ensures.place c.in-Some-predicate.ensures.place c.in-Some-object.ensures.place c.graph.result.now
    (record { s = c.wanted.result; p = c.wanted-2.result; o = c.wanted-3.result }) c.graph.ensures c.wanted.ensures c.wanted-2.ensures c.wanted-3.ensures found.items finds)
    c.triples_in.ensures
