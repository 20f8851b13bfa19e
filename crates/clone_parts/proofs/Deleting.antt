-- The pairs of a triple.
use Rattle.std.proofs.Common.{◌≡◌, ◌∙◌, List, true, refl, ap, sym, subst}
use Rattle.std.proofs.lemmas.Bool.{false≢true}
use Rattle.std.proofs.lemmas.Cmp.{tied_itself}
use Rattle.std.specs.Bool.{Decides}
use Rattle.std.specs.List.{filter}
use Rattle.std.specs.Ordering.{eq_by_cmp, is_eq}
use Rattle.std.specs.declared.cmp.Ordering.{Ordering}
use Rattle.std.specs.declared.cmp.Ordering.TheVariants.{Less, Equal, Greater}
use Rattle.graph_index.specs.Matching.{is_of}
use Rattle.rdf_terms.specs.declared.terms.Triple.{Triple}
use Rattle.rdf_terms.specs.Order.{triple_cmp}
use Rattle.rdf_terms.specs.OrderLaws.{triple_total, triple_exact}
use Rattle.tree_clock.specs.Lists.{IsAscending}
use Rattle.mld_ops.specs.declared.tagged.Tagged.{Tagged}
use Rattle.mld_ops.specs.Tagged.{tagged_cmp}
use Rattle.mld_ops.proofs.AscendingLaws.{has_filter, ascending_filter}
use Rattle.mld_ops.specs.Effects.{ArePairsOf}

tied : (o : Ordering) → is_eq o ≡ true → o ≡ Equal
tied Less h = absurd (false≢true h)
tied Equal h = refl
tied Greater h = absurd (false≢true h)

-- the test tells whether the triples are the same
triple_decides : (a b : Triple) → Decides (eq_by_cmp triple_cmp a b) (a ≡ b)
triple_decides a b = (λ h. triple_exact a b (tied (triple_cmp a b) h), λ e. ap is_eq (ap (triple_cmp a) (sym e) ∙ tied_itself triple_total a))

-- the pairs that pass the test are those of the triple
pub filtered_pairs : (triple : Triple) (pairs found : List Tagged) → IsAscending tagged_cmp pairs → found ≡ filter (is_of triple) pairs → ArePairsOf triple pairs found
filtered_pairs triple pairs found a e =
    subst (λ (l : List Tagged). ArePairsOf triple pairs l) (sym e) (record {
      ascending = ascending_filter tagged_cmp (is_of triple) pairs a;
      members = λ pair. (
        λ h. let f = (has_filter (is_of triple) pairs pair).0 h in (f.0, sym ((triple_decides triple pair.triple).0 f.1)),
        λ h. (has_filter (is_of triple) pairs pair).1 (h.0, (triple_decides triple pair.triple).1 (sym h.1)),
      );
    })
