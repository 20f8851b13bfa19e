use Rattle.std.proofs.Common.{rules}
use Rattle.std.proofs.lemmas.Fn.{always_returns_same}
use Rattle.std.proofs.lemmas.List.Sorted.{IsPermutation-map, ranks_by}
use Rattle.std.specs.Ordering.{is_lt}
use Rattle.jrql_rows.specs.rdf_terms.Order.{triple_cmp}
use Rattle.jrql_rows.specs.rdf_terms.OrderLaws.{triple_total}
use Rattle.jrql_rows.proofs.of_graph_index.Sorting.{view_sorted}
use Rattle.jrql_eval.proofs.describing.sort_triples.Goals as goal

pub returns : goal.returns
returns c =
    let up = c.sort_unstable_by.ensures.sorted (λ a b. is_lt (triple_cmp a.now b.now)) (ranks_by triple_total (λ x. x.now)) (always_returns_same _ _ _ (λ a r f k. search rules)) in
    record {
      same = IsPermutation-map (λ x. x.now) c.args.triples.now.items c.sort_unstable_by.new.self.items c.sort_unstable_by.ensures.permutation;
      ascending = view_sorted (λ x. x.now) triple_cmp c.sort_unstable_by.new.self.items up;
    }
