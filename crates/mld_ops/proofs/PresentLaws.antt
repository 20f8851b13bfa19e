-- Laws of the triples that are present.
use Rattle.std.proofs.Common.{◌≡◌, ◌∙◌, zero, suc, ◌+◌, List, [], ◌∷◌, map, ◌↔◌, false, refl, ap, inl, inr, arith}
use Rattle.std.specs.List.Sorted.{IsSorted}
use Rattle.std.specs.Ordering.{is_lt, ordering_reverse, ordering_then}
use Rattle.std.specs.declared.cmp.Ordering.{Ordering}
use Rattle.std.specs.declared.cmp.Ordering.TheVariants.{Less, Equal, Greater}
use Rattle.rdf_terms.specs.declared.terms.Triple.{Triple}
use Rattle.rdf_terms.specs.Order.{triple_cmp}
use Rattle.rdf_terms.specs.OrderLaws.{triple_total, triple_exact}
use Rattle.tree_clock.specs.Dot.{dot_cmp}
use Rattle.tree_clock.specs.Lists.{Has, IsAscending}
use Rattle.mld_ops.specs.declared.tagged.Tagged.{Tagged}
use Rattle.mld_ops.specs.Meaning.{IsPresent}
use Rattle.mld_ops.specs.Present.{present}
use Rattle.mld_ops.specs.Tagged.{tagged_cmp}
use Rattle.mld_ops.proofs.AscendingLaws.{same_ascending}
use Rattle.mld_ops.proofs.Keeping.{once_ascends, once_members}

abbrev triples_of : List Tagged → List Triple
triples_of pairs = map (λ (pair : Tagged). pair.triple) pairs

-- a triple of pairs has a pair
has_triple : (pairs : List Tagged) (triple : Triple) → Has (triples_of pairs) triple → IsPresent pairs triple
has_triple [] triple h = absurd h
has_triple (pair ∷ pairs) triple (inl e) = record { pair = pair; stands = inl refl; is = e }
has_triple (pair ∷ pairs) triple (inr h) = let p = has_triple pairs triple h in record { pair = p.pair; stands = inr p.stands; is = p.is }

triple_of_pair : (pairs : List Tagged) (pair : Tagged) → Has pairs pair → Has (triples_of pairs) pair.triple
triple_of_pair [] pair h = absurd h
triple_of_pair (first ∷ pairs) pair (inl e) = inl (ap (λ (p : Tagged). p.triple) e)
triple_of_pair (first ∷ pairs) pair (inr h) = inr (triple_of_pair pairs pair h)

-- a pair that is below another one has no greater triple
not_above : (o : Ordering) (p : Ordering) → ordering_then o p ≡ Less → is_lt (ordering_reverse o) ≡ false
not_above Less p h = refl
not_above Equal p h = refl
not_above Greater p h = let f : Greater ≡ Less = h in cc

-- the triples of ascending pairs are sorted
sorted_triples : (pairs : List Tagged) → IsAscending tagged_cmp pairs → IsSorted triple_cmp (triples_of pairs)
sorted_triples [] a k d l h = absurd (omega (arith, h))
sorted_triples (first ∷ []) a k d l h = absurd (omega (arith, h))
sorted_triples (first ∷ second ∷ pairs) a zero d l h =
    ap is_lt (triple_total.antisymm second.triple first.triple)
    ∙ not_above (triple_cmp first.triple second.triple) (dot_cmp first.dot second.dot) a.0.0
sorted_triples (first ∷ second ∷ pairs) a (suc k) d l h =
    let e : suc k + 1 ≡ suc (k + 1) = omega arith in rw e (sorted_triples (second ∷ pairs) a.1 k d (omega arith) (omega (arith, h)))

-- a triple is one of them exactly where it has a pair
pub has_present : (pairs : List Tagged) (triple : Triple) → Has (present pairs) triple ↔ IsPresent pairs triple
has_present pairs triple =
    let once = once_members triple_cmp triple_total triple_exact (triples_of pairs) triple in (
      λ h. has_triple pairs triple (once.0 h),
      λ p. once.1 (subst_triple p.pair.triple p.is (triple_of_pair pairs p.pair p.stands)),
    )
  where
    subst_triple : (other : Triple) → other ≡ triple → Has (triples_of pairs) other → Has (triples_of pairs) triple
    subst_triple other e h = rw (← e) h

-- they ascend
pub present_ascends : (pairs : List Tagged) → IsAscending tagged_cmp pairs → IsAscending triple_cmp (present pairs)
present_ascends pairs a = once_ascends triple_cmp triple_total triple_exact (triples_of pairs) (sorted_triples pairs a)

-- and no other ascending list has just those that have a pair
pub one_present : (pairs : List Tagged) (triples : List Triple) → IsAscending tagged_cmp pairs → IsAscending triple_cmp triples
    → ((triple : Triple) → Has triples triple ↔ IsPresent pairs triple) → triples ≡ present pairs
one_present pairs triples a b same =
    same_ascending triple_cmp triple_total triple_exact triples (present pairs) b (present_ascends pairs a)
    (λ triple h. (has_present pairs triple).1 ((same triple).0 h))
    (λ triple h. (same triple).1 ((has_present pairs triple).0 h))
