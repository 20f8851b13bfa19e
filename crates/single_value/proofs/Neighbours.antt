-- Among ascending triples those of one subject and property are neighbours, and the places of triples ascend.
use Rattle.std.proofs.Common.{◌≡◌, ◌≢◌, ◌∙◌, ℕ, List, [], ◌∷◌, Bool, None, Some, slice_get, IsTrue, ◌↔◌, ◌⊎◌, refl, sym, ap, subst, inl, inr}
use Rattle.std.proofs.lemmas.Cmp.{tied_itself}
use Rattle.std.specs.Ordering.{ordering_reverse, ordering_then}
use Rattle.std.specs.declared.cmp.Ordering.{Ordering}
use Rattle.std.specs.declared.cmp.Ordering.TheVariants.{Less, Equal, Greater}
use Rattle.rdf_terms.specs.declared.terms.Term.{Term}
use Rattle.rdf_terms.specs.declared.terms.Triple.{Triple}
use Rattle.rdf_terms.specs.Order.{iri_cmp, term_cmp, triple_cmp}
use Rattle.rdf_terms.specs.OrderLaws.{term_total, term_exact, triple_total}
use Rattle.tree_clock.specs.Lists.{IsAscending}
use Rattle.mld_ops.specs.Breaches.{IsValueOf, breach_cmp}
use Rattle.mld_ops.proofs.AscendingLaws.{below_member, not_below_itself}
use Rattle.mld_ops.proofs.PropertiesLaws.{iri_total, iri_exact}
use Rattle.single_value.specs.OtherValues.{IsOtherValue, HasOtherValue}

-- ---- orders in a row

-- what isn't above by three parts isn't above by two of them
front_not_above : (a b c : Ordering) → ordering_then a (ordering_then b c) ≡ Less → ordering_then a b ≢ Greater
front_not_above Less b c h = λ e. let f : Less ≡ Greater = e in cc
front_not_above Equal Less c h = λ e. let f : Less ≡ Greater = e in cc
front_not_above Equal Equal c h = λ e. let f : Equal ≡ Greater = e in cc
front_not_above Equal Greater c h = λ e. let f : Greater ≡ Less = h in cc
front_not_above Greater b c h = λ e. let f : Greater ≡ Less = h in cc

-- what is above and below the same in its first two parts is the same there
squeezed : (a b c d : Ordering) → ordering_then a (ordering_then b c) ≡ Less → ordering_then (ordering_reverse a) (ordering_then (ordering_reverse b) d) ≡ Less
    → (a ≡ Equal) × (b ≡ Equal)
squeezed Less b c d h k = let f : Greater ≡ Less = k in absurd (cc)
squeezed Greater b c d h k = let f : Greater ≡ Less = h in absurd (cc)
squeezed Equal Less c d h k = let f : Greater ≡ Less = k in absurd (cc)
squeezed Equal Greater c d h k = let f : Greater ≡ Less = h in absurd (cc)
squeezed Equal Equal c d h k = (refl, refl)

-- ---- triples

-- of a triple and a later one the place of the first isn't above that of the second
pub place_not_above : (triple other : Triple) → triple_cmp triple other ≡ Less → breach_cmp (triple.s, triple.p) (other.s, other.p) ≢ Greater
unfolding triple_cmp
place_not_above triple other h = front_not_above (iri_cmp triple.s other.s) (iri_cmp triple.p other.p) (term_cmp triple.o other.o) h

-- a place isn't above itself
pub not_above_itself : (subject property : List ℕ) → breach_cmp (subject, property) (subject, property) ≢ Greater
not_above_itself subject property h =
    let e = tied_itself iri_total subject in
    let f = tied_itself iri_total property in
    let g : Equal ≡ Greater = sym f ∙ sym (ap (λ o. ordering_then o (iri_cmp property property)) e) ∙ h in cc

-- two objects are the same, or they aren't
pub same_or_not : (one other : Term) → (one ≡ other) ⊎ (one ≢ other)
same_or_not one other = by (term_cmp one other) refl
  where
    tied : one ≡ other → term_cmp one other ≡ Equal
    tied e = ap (term_cmp one) (sym e) ∙ tied_itself term_total one

    by : (o : Ordering) → term_cmp one other ≡ o → (one ≡ other) ⊎ (one ≢ other)
    by Less h = inr (λ e. let f : Less ≡ Equal = sym h ∙ tied e in cc)
    by Equal h = inl (term_exact one other h)
    by Greater h = inr (λ e. let f : Greater ≡ Equal = sym h ∙ tied e in cc)

-- a triple between two of one subject and property has them
between : (triple next other : Triple) → triple_cmp triple next ≡ Less → triple_cmp next other ≡ Less → IsValueOf triple.s triple.p other
    → (next.s ≡ triple.s) × (next.p ≡ triple.p)
unfolding triple_cmp
between triple next other below above value =
    let s : iri_cmp next.s other.s ≡ ordering_reverse (iri_cmp triple.s next.s) = ap (iri_cmp next.s) value.subject_is ∙ iri_total.antisymm next.s triple.s in
    let p : iri_cmp next.p other.p ≡ ordering_reverse (iri_cmp triple.p next.p) = ap (iri_cmp next.p) value.property_is ∙ iri_total.antisymm next.p triple.p in
    let k : ordering_then (ordering_reverse (iri_cmp triple.s next.s)) (ordering_then (ordering_reverse (iri_cmp triple.p next.p)) (term_cmp next.o other.o)) ≡ Less =
    ap (λ o. ordering_then o (ordering_then (ordering_reverse (iri_cmp triple.p next.p)) (term_cmp next.o other.o))) (sym s)
    ∙ ap (λ o. ordering_then (iri_cmp next.s other.s) (ordering_then o (term_cmp next.o other.o))) (sym p) ∙ above in
    let e = squeezed (iri_cmp triple.s next.s) (iri_cmp triple.p next.p) (term_cmp triple.o next.o) (term_cmp next.o other.o) below k in
    (sym (iri_exact triple.s next.s e.0), sym (iri_exact triple.p next.p e.1))

-- a later triple of the subject and the property has another object
later_differs : (triple next : Triple) → triple_cmp triple next ≡ Less → next.s ≡ triple.s → next.p ≡ triple.p → IsOtherValue triple next
later_differs triple next below s p = record {
  value = record { subject_is = s; property_is = p };
  differs = λ o. not_below_itself triple_cmp triple_total triple (subst (λ (t : Triple). triple_cmp triple t ≡ Less) (same o) below);
}
  where
    same : next.o ≡ triple.o → next ≡ triple
    same o = λ i. record { s = s i; p = p i; o = o i }

-- there is another value behind a triple where the next one is one
next_is : (triple next : Triple) (rest : List Triple) → IsAscending triple_cmp (triple ∷ next ∷ rest) → HasOtherValue (next ∷ rest) triple
    → (next.s ≡ triple.s) × (next.p ≡ triple.p)
next_is triple next rest a h = elim h.there [
  | inl e ↦ (ap (λ (t : Triple). t.s) e ∙ h.is.value.subject_is, ap (λ (t : Triple). t.p) e ∙ h.is.value.property_is)
  | inr k ↦ between triple next h.other a.0.0 (below_member triple_cmp next rest h.other a.1.0 k) h.is.value
]

next_tells : (triple next : Triple) (rest : List Triple) (r : Bool) → IsAscending triple_cmp (triple ∷ next ∷ rest)
    → (IsTrue r ↔ IsValueOf triple.s triple.p next) → IsTrue r ↔ HasOtherValue (next ∷ rest) triple
next_tells triple next rest r a tells = (
  λ t. let v = tells.0 t in record { other = next; there = inl refl; is = later_differs triple next a.0.0 v.subject_is v.property_is },
  λ h. let p = next_is triple next rest a h in tells.1 (record { subject_is = p.0; property_is = p.1 }),
)

-- the first of those behind a triple tells of all
pub first_tells : (triple next : Triple) (behind : List Triple) (r : Bool) → IsAscending triple_cmp (triple ∷ behind) → Some next ≡ slice_get behind 0
    → (IsTrue r ↔ IsValueOf triple.s triple.p next) → IsTrue r ↔ HasOtherValue behind triple
first_tells triple next [] r a first tells = let f : Some next ≡ None = first in absurd (cc)
first_tells triple next (other ∷ rest) r a first tells =
    let f : Some next ≡ Some other = first in
    let e : next ≡ other = cc in
    next_tells triple other rest r a (subst (λ (t : Triple). IsTrue r ↔ IsValueOf triple.s triple.p t) e tells)
