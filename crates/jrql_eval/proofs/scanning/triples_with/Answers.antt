use Rattle.std.proofs.Common.{◌∙◌, map, ap}
use Rattle.std.specs.List.{dedup}
use Rattle.std.specs.Option.{option_copied}
use Rattle.std.specs.Ordering.{eq_by_cmp}
use Rattle.jrql_rows.specs.rdf_terms.Order.{triple_cmp}
use Rattle.jrql_eval.proofs.TripleScans.{scanned_are}
use Rattle.jrql_eval.proofs.scanning.triples_with.Goals as goal

pub returns-clause-triples : goal.returns-clause-triples
returns-clause-triples c =
    scanned_are c.args.graph.now.pairs c.in_ok-pairs.pairs (option_copied c.args.s) (option_copied c.args.p) (option_copied c.args.o)
    c.in_ok-pairs.ensures.ascending c.in_ok-pairs.ensures.found c.in_ok-pairs.ensures.together (map (λ x. x.now) c.drop_neighbours.new.triples.items)
    (c.drop_neighbours.ensures ∙ ap (dedup (eq_by_cmp triple_cmp)) c.in_ok-triples.ensures)
