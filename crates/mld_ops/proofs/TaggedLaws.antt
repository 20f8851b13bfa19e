-- The orders of pairs and of inserts are total, and what they find equal is the same.
use Rattle.std.proofs.Common.{ap}
use Rattle.std.proofs.lemmas.Cmp.{then_total, on_total, nat_cmp_total}
use Rattle.std.proofs.lemmas.Map.Lookups.{CmpEqualImpliesEq, exact_pairs, exact_unsigned}
use Rattle.std.specs.Cmp.{IsTotalOrder}
use Rattle.std.specs.Ordering.{nat_cmp}
use Rattle.rdf_terms.specs.declared.terms.Triple.{Triple}
use Rattle.rdf_terms.specs.Order.{triple_cmp}
use Rattle.tree_clock.specs.declared.dots.Dot.{Dot}
use Rattle.tree_clock.specs.Dot.{dot_cmp}
use Rattle.mld_ops.specs.Tagged.{tagged_cmp, insert_cmp}
use Rattle.rdf_terms.specs.OrderLaws.{triple_total, triple_exact}
use Rattle.tree_clock.specs.DotLaws.{dot_total, dot_exact}

-- pairs are in a total order
pub tagged_total : IsTotalOrder tagged_cmp
tagged_total = then_total (on_total (λ pair. pair.triple) triple_total) (on_total (λ pair. pair.dot) dot_total)

-- equal pairs are the same pair
pub tagged_exact : CmpEqualImpliesEq tagged_cmp
tagged_exact a b h =
    ap (λ (p : Triple × Dot). record { triple = p.0; dot = p.1 })
    (exact_pairs triple_cmp dot_cmp triple_exact dot_exact (a.triple, a.dot) (b.triple, b.dot) h)

-- inserts are in a total order
pub insert_total : IsTotalOrder insert_cmp
insert_total = then_total (on_total (λ insert. insert.0) triple_total) (on_total (λ insert. insert.1) nat_cmp_total)

-- equal inserts are the same insert
pub insert_exact : CmpEqualImpliesEq insert_cmp
insert_exact = exact_pairs triple_cmp nat_cmp triple_exact exact_unsigned
