use Rattle.std.proofs.Common.{rules}
use Rattle.std.proofs.lemmas.Fn.{always_returns_same, dedup_same}
use Rattle.std.proofs.lemmas.List.Sorted.{ranks_by}
use Rattle.std.specs.Ordering.{eq_by_cmp, is_lt}
use Rattle.jrql_rows.specs.rdf_terms.Order.{iri_cmp}
use Rattle.jrql_rows.proofs.of_mld_ops.PropertiesLaws.{iri_total, iri_exact}
use Rattle.jrql_eval.proofs.TripleScans.{view_in_order}
use Rattle.jrql_eval.proofs.describing.put_iris.Goals as goal

pub returns : goal.returns
returns c =
    let up = c.sort_unstable_by.ensures.sorted (λ a b. is_lt (iri_cmp a.now b.now)) (ranks_by iri_total (λ x. x.now)) (always_returns_same _ _ _ (λ a r f k. search rules)) in
    let once = dedup_same _ (λ a b. eq_by_cmp iri_cmp a.now b.now) _ (λ a b s f x y k. search rules) _ _ c.dedup_by.ensures.filtered in
    view_in_order (λ x. x.now) iri_cmp iri_total iri_exact c.args.iris.now.items c.sort_unstable_by.new.self.items c.dedup_by.new.self.items
    c.sort_unstable_by.ensures.permutation up once
