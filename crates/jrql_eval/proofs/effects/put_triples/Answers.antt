use Rattle.std.proofs.Common.{rules}
use Rattle.std.proofs.lemmas.Fn.{always_returns_same, dedup_same}
use Rattle.std.proofs.lemmas.List.Sorted.{ranks_by}
use Rattle.std.specs.Ordering.{eq_by_cmp, is_lt}
use Rattle.jrql_rows.specs.rdf_terms.Order.{triple_cmp}
use Rattle.jrql_rows.specs.rdf_terms.OrderLaws.{triple_total, triple_exact}
use Rattle.jrql_rows.proofs.of_mld_ops.Keeping.{sorted_in_order}
use Rattle.jrql_eval.proofs.effects.put_triples.Goals as goal

pub returns : goal.returns
returns c =
    let up = c.sort_unstable_by.ensures.sorted (λ a b. is_lt (triple_cmp a b)) (ranks_by triple_total (λ t. t)) (always_returns_same _ _ _ (λ a r f k. search rules)) in
    let once = dedup_same _ (eq_by_cmp triple_cmp) _ (λ a b s f x y k. search rules) _ _ c.dedup_by.ensures.filtered in
    sorted_in_order triple_cmp triple_total triple_exact c.args.triples.now.items c.sort_unstable_by.new.self.items c.dedup_by.new.self.items
    c.sort_unstable_by.ensures.permutation up once
