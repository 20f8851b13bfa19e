-- Lists that are sorted, and of which each member is kept once.
use Rattle.std.proofs.Common.{◌≡◌, ℕ, List, [], ◌∷◌, ◌↔◌, Bool, true, refl, subst, sym}
use Rattle.std.proofs.lemmas.Bool.{false≢true}
use Rattle.std.proofs.lemmas.List.Kept.{Contains-dedup, Contains-from_dedup, IsStrictlySortedBy-dedup}
use Rattle.std.proofs.lemmas.List.Sorted.{Contains-permutation, IsPermutation-sym}
use Rattle.std.proofs.lemmas.Map.Lookups.{CmpEqualImpliesEq}
use Rattle.std.specs.Cmp.{IsTotalOrder, eq_by_cmp_equiv}
use Rattle.std.specs.List.{AllByRecursion, Contains, dedup}
use Rattle.std.specs.List.Sorted.{IsPermutation, IsSorted, IsStrictlySortedBy}
use Rattle.std.specs.Ordering.{eq_by_cmp, is_eq}
use Rattle.std.specs.declared.cmp.Ordering.{Ordering}
use Rattle.std.specs.declared.cmp.Ordering.TheVariants.{Less, Equal, Greater}
use Rattle.rdf_terms.specs.Order.{iri_cmp}
use Rattle.tree_clock.specs.Lists.{Has, IsBelowAll, IsAscending}
use Rattle.mld_ops.proofs.AscendingLaws.{contains_from_has, has_at}
use Rattle.mld_ops.specs.InOrder.{IsPutInOrder}
use Rattle.mld_ops.specs.Properties.{AreKept}
use Rattle.mld_ops.proofs.PropertiesLaws.{iri_total, iri_exact}

has_from_contains : {X : Type 0} (xs : List X) (x : X) → Contains xs x → Has xs x
has_from_contains xs x c = subst (λ y. Has xs y) c.2 (has_at xs c.0 x c.1)

below_all : {X : Type 0} (order : X → X → Ordering) (x : X) (xs : List X) → AllByRecursion (λ y. order x y ≡ Less) xs → IsBelowAll order x xs
below_all order x [] a = tt
below_all order x (y ∷ xs) a = (a.0, below_all order x xs a.1)

-- a list that is strictly sorted ascends
ascends : {X : Type 0} (order : X → X → Ordering) (xs : List X) → IsStrictlySortedBy order xs → IsAscending order xs
unfolding IsStrictlySortedBy
ascends order [] s = tt
ascends order (x ∷ xs) s = (below_all order x xs s.0, ascends order xs s.1)

tied : (o : Ordering) → is_eq o ≡ true → o ≡ Equal
tied Less h = absurd (false≢true h)
tied Equal h = refl
tied Greater h = absurd (false≢true h)

module _ {X : Type 0} (order : X → X → Ordering) (total : IsTotalOrder order) (exact : CmpEqualImpliesEq order) where
  -- a sorted list with each of its members once ascends
  pub once_ascends : (sorted : List X) → IsSorted order sorted → IsAscending order (dedup (eq_by_cmp order) sorted)
  once_ascends sorted s = ascends order (dedup (eq_by_cmp order) sorted) (IsStrictlySortedBy-dedup total (λ a b. refl) sorted s)

  -- and has the same members
  pub once_members : (items : List X) (item : X) → Has (dedup (eq_by_cmp order) items) item ↔ Has items item
  once_members items item = (
    λ h. has_from_contains items item (Contains-from_dedup (eq_by_cmp order) items item (contains_from_has (dedup (eq_by_cmp order) items) item h)),
    λ h. has_from_contains (dedup (eq_by_cmp order) items) item
        (Contains-dedup (eq_by_cmp_equiv total) (λ a b e. exact a b (tied (order a b) e)) items item (contains_from_has items item h)),
  )

  -- what is sorted, and then has each of its members once, is put in order
  pub sorted_in_order : (given sorted kept : List X) → IsPermutation given sorted → IsSorted order sorted → kept ≡ dedup (eq_by_cmp order) sorted
      → IsPutInOrder order given kept
  sorted_in_order given sorted kept moved s e =
      subst (λ (items : List X). IsPutInOrder order given items) (sym e) (record {
        ascending = once_ascends sorted s;
        members = λ item. (
          λ h. has_from_contains given item (
              Contains-permutation sorted given item (IsPermutation-sym given sorted moved) (contains_from_has sorted item ((once_members sorted item).0 h))),
          λ h. (once_members sorted item).1 (has_from_contains sorted item (Contains-permutation given sorted item moved (contains_from_has given item h))),
        );
      })

-- the test whether two IRIs compare alike
abbrev pub is_same_iri : List ℕ → List ℕ → Bool
is_same_iri = eq_by_cmp iri_cmp

-- properties that are sorted, and of which each is kept once
pub keeps_sorted : (given sorted kept : List (List ℕ)) → IsPermutation given sorted → IsSorted iri_cmp sorted → kept ≡ dedup is_same_iri sorted → AreKept given kept
keeps_sorted given sorted kept moved s e = sorted_in_order iri_cmp iri_total iri_exact given sorted kept moved s e
