-- Laws of the order of IRIs, and of properties that are kept.
use Rattle.std.specs.Prelude.{◌≡◌, ℕ, List}
use Rattle.std.specs.Cmp.{IsTotalOrder}
use Rattle.std.specs.Cmp.Lexicographic.{nat_list_cmp_total}
use Rattle.std.proofs.lemmas.Cmp.{on_total}
use Rattle.std.proofs.lemmas.Map.Lookups.{CmpEqualImpliesEq, exact_bytes}
use Rattle.rdf_terms.specs.Order.{iri_cmp}
use Rattle.rdf_terms.specs.OrderLaws.{iri_text_injective}
use Rattle.rdf_terms.specs.Spelling.{iri_text}
use Rattle.tree_clock.specs.Lists.{IsAscending}
use Rattle.mld_ops.proofs.AscendingLaws.{same_ascending}
use Rattle.mld_ops.specs.Properties.{AreKept}

-- the order of IRIs is total
pub iri_total : IsTotalOrder iri_cmp
iri_total = on_total iri_text nat_list_cmp_total

-- IRIs that compare alike are one
pub iri_exact : CmpEqualImpliesEq iri_cmp
iri_exact a b h = iri_text_injective a b (exact_bytes (iri_text a) (iri_text b) h)

-- properties that are in order already are kept as they are
pub kept_same : (given kept : List (List ℕ)) → AreKept given kept → IsAscending iri_cmp given → kept ≡ given
kept_same given kept are ascending =
    same_ascending iri_cmp iri_total iri_exact kept given are.ascending ascending (λ property. (are.members property).0) (λ property. (are.members property).1)
