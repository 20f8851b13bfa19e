-- What an effect breaks first is one, since subjects with a property are in a total order that is exact.
use Rattle.std.proofs.Common.{◌≡◌, ◌≢◌, ◌∙◌, ℕ, List, None, Some, refl, ap}
use Rattle.std.specs.Cmp.{IsTotalOrder}
use Rattle.std.proofs.lemmas.Cmp.{on_total, then_total}
use Rattle.std.specs.Ordering.{ordering_then, ordering_reverse}
use Rattle.std.specs.declared.cmp.Ordering.{Ordering}
use Rattle.std.specs.declared.cmp.Ordering.TheVariants.{Less, Equal, Greater}
use Rattle.rdf_terms.specs.Order.{iri_cmp}
use Rattle.mld_ops.specs.Breaches.{breach_cmp, OneBreach}
use Rattle.mld_ops.proofs.PropertiesLaws.{iri_total, iri_exact}

-- the order of subjects with a property is total
pub breach_total : IsTotalOrder breach_cmp
breach_total = then_total (on_total (λ (place : List ℕ × List ℕ). place.0) iri_total) (on_total (λ (place : List ℕ × List ℕ). place.1) iri_total)

-- what two orders in a row find equal, each finds equal
both_equal : (o p : Ordering) → ordering_then o p ≡ Equal → (o ≡ Equal) × (p ≡ Equal)
both_equal Less p h = let f : Less ≡ Equal = h in absurd (cc)
both_equal Equal p h = (refl, h)
both_equal Greater p h = let f : Greater ≡ Equal = h in absurd (cc)

-- of two places neither of which is above the other, both are one
level : (o : Ordering) → o ≢ Greater → ordering_reverse o ≢ Greater → o ≡ Equal
level Less up down = absurd (down refl)
level Equal up down = refl
level Greater up down = absurd (up refl)

same_place : (place other : List ℕ × List ℕ) → breach_cmp place other ≢ Greater → breach_cmp other place ≢ Greater → place ≡ other
same_place place other up down =
    let e = level (breach_cmp place other) up (λ g. down (breach_total.antisymm other place ∙ g)) in
    let b = both_equal (iri_cmp place.0 other.0) (iri_cmp place.1 other.1) e in
    let s = iri_exact place.0 other.0 b.0 in
    let p = iri_exact place.1 other.1 b.1 in
    λ i. (s i, p i)

pub one_breach : OneBreach
one_breach properties pairs effect None None none none_too = refl
one_breach properties pairs effect None (Some other) none first = absurd (none other.0 other.1 first.single first.breaks)
one_breach properties pairs effect (Some place) None first none = absurd (none place.0 place.1 first.single first.breaks)
one_breach properties pairs effect (Some place) (Some other) first first_too =
    ap Some (same_place place other (first.first other.0 other.1 first_too.single first_too.breaks) (first_too.first place.0 place.1 first.single first.breaks))
