use Rattle.std.proofs.Common.{rules}
use Rattle.std.proofs.lemmas.Fn.{always_returns_same, dedup_same}
use Rattle.std.proofs.lemmas.List.Sorted.{ranks_by}
use Rattle.std.specs.Ordering.{is_lt}
use Rattle.rdf_terms.specs.Order.{iri_cmp}
use Rattle.mld_ops.proofs.PropertiesLaws.{iri_total}
use Rattle.mld_ops.proofs.Keeping.{is_same_iri, keeps_sorted}
use Rattle.mld_ops.proofs.properties.kept_properties.Goals as goal

pub returns : goal.returns
returns c =
    let order = c.sort_unstable_by.ensures.sorted (λ a b. is_lt (iri_cmp a b)) (ranks_by iri_total (λ p. p)) (always_returns_same _ _ _ (λ a r f k. search rules)) in
    let each = dedup_same _ is_same_iri _ (λ a b s f x y k. search rules) _ _ c.dedup_by.ensures.filtered in
    keeps_sorted c.args.given.items c.sort_unstable_by.new.self.items c.dedup_by.new.self.items c.sort_unstable_by.ensures.permutation order each
