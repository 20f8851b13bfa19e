-- Where the texts of two subjects differ, with their closing marks, they decide how triples compare, and so pairs.
-- The private order of pairs names its law.
use Rattle.std.specs.Prelude.{◌≡◌}
use Rattle.std.proofs.Common.{sym}
use Rattle.std.specs.Cmp.Lexicographic.{slice_cmp}
use Rattle.std.specs.Ordering.{nat_cmp, ordering_then}
use Rattle.std.specs.declared.cmp.Ordering.{Ordering}
use Rattle.std.specs.declared.cmp.Ordering.TheVariants.{Less, Equal, Greater}
use Rattle.rdf_terms.specs.declared.terms.Triple.{Triple}
use Rattle.rdf_terms.specs.Order.{iri_cmp, triple_cmp}
use Rattle.mld_ops.specs.declared.tagged.Tagged.{Tagged}
use Rattle.mld_ops.specs.Tagged.{tagged_cmp}
use Rattle.pair_orders.specs.chunked_list.ClosedTexts.{closed_text}

-- the first of two orders, where it finds a difference
first_tells : (o p r : Ordering) → ¬ (r ≡ Equal) → o ≡ r → ordering_then o p ≡ r
first_tells Less p r n e = e
first_tells Equal p r n e = absurd (n (sym e))
first_tells Greater p r n e = e

-- triples by their subjects
pub triples_by_subject : (a b : Triple) (r : Ordering) → ¬ (r ≡ Equal) → slice_cmp nat_cmp (closed_text a.s) (closed_text b.s) ≡ r → triple_cmp a b ≡ r
unfolding triple_cmp
triples_by_subject a b r n e = first_tells (iri_cmp a.s b.s) _ r n e

-- pairs by the subjects of their triples
pub pairs_by_subject : (a b : Tagged) (r : Ordering) → ¬ (r ≡ Equal) → slice_cmp nat_cmp (closed_text a.triple.s) (closed_text b.triple.s) ≡ r → tagged_cmp a b ≡ r
pairs_by_subject a b r n e = first_tells (triple_cmp a.triple b.triple) _ r n (triples_by_subject a.triple b.triple r n e)
