use Rattle.std.proofs.Common.{◌∙◌, map, ap, rules}
use Rattle.std.proofs.lemmas.Fn.{dedup_same}
use Rattle.std.specs.Ordering.{eq_by_cmp}
use Rattle.jrql_rows.specs.rdf_terms.Order.{triple_cmp}
use Rattle.jrql_eval.proofs.TripleScans.{view_dedup}
use Rattle.jrql_eval.proofs.scanning.drop_neighbours.Goals as goal

pub returns : goal.returns
returns c =
    let once = dedup_same _ (λ a b. eq_by_cmp triple_cmp a.now b.now) _ (λ a b s f x y k. search rules) _ _ c.dedup_by.ensures.filtered in
    ap (map (λ x. x.now)) once ∙ view_dedup (λ x. x.now) triple_cmp (eq_by_cmp triple_cmp) c.args.triples.now.items
