-- Places in an ascending list of pairs that is gone over beside other pairs.
use Rattle.std.proofs.Common.{◌≡◌, ℕ, ◌+◌, ◌<◌, ◌≤◌, List, ◌∷◌, length, get_or, take, drop, suc, true, IsTrue, ltb, ◌↔◌, inl, inr, refl, sym, ◌∙◌, ap, subst, arith, add-one}
use Rattle.std.specs.Ordering.{is_eq, is_lt}
use Rattle.std.proofs.lemmas.Bool.{false≢true}
use Rattle.std.proofs.lemmas.Bool.Decides.{Decides-ltb}
use Rattle.std.proofs.lemmas.Cmp.{tied_itself}
use Rattle.std.proofs.lemmas.List.{take_all, take-append-drop}
use Rattle.std.proofs.Math.Seq.{drop-cons}
use Rattle.std.specs.declared.cmp.Ordering.{Ordering}
use Rattle.std.specs.declared.cmp.Ordering.TheVariants.{Less, Equal, Greater}
use Rattle.tree_clock.specs.Lists.{Has, IsAscending}
use Rattle.mld_ops.specs.declared.tagged.Tagged.{Tagged}
use Rattle.mld_ops.specs.AscendingPlaces.{AreBelow}
use Rattle.mld_ops.specs.Tagged.{tagged_cmp}
use Rattle.mld_ops.proofs.TaggedLaws.{tagged_total, tagged_exact}
use Rattle.mld_ops.proofs.AscendingLaws.{has_append, has_at, below_member, ascending_back, has_take_more, not_below_itself}

-- two pairs compare as equal where they are the same
pub compares_equal : (a b : Tagged) → (is_eq (tagged_cmp a b) ≡ true) ↔ (a ≡ b)
compares_equal a b = (λ h. tagged_exact a b (tied (tagged_cmp a b) h), λ e. ap is_eq (ap (tagged_cmp a) (sym e) ∙ tied_itself tagged_total a))
  where
    tied : (o : Ordering) → is_eq o ≡ true → o ≡ Equal
    tied Less h = absurd (false≢true h)
    tied Equal h = refl
    tied Greater h = absurd (false≢true h)

pub less_from : (o : Ordering) → is_lt o ≡ true → o ≡ Less
less_from Less h = refl
less_from Equal h = absurd (false≢true h)
less_from Greater h = absurd (false≢true h)

-- one more pair is below
pub below_more : (others : List Tagged) (place : ℕ) (pair other : Tagged) → place < length others → other ≡ get_or others place other
    → tagged_cmp other pair ≡ Less → AreBelow others place pair → AreBelow others (place + 1) pair
below_more others place pair other l e below all x h =
    elim ((has_take_more others place other x l).0 h) [
      | inl k ↦ all x k
      | inr k ↦ subst (λ (w : Tagged). tagged_cmp w pair ≡ Less) (e ∙ k) below
    ]

-- all that is below a pair is below a later one
pub below_later : (others : List Tagged) (place : ℕ) (pair later : Tagged) → tagged_cmp pair later ≡ Less → AreBelow others place pair → AreBelow others place later
below_later others place pair later l all x h = tagged_total.trans x pair later (all x h) l

-- where all are below the pair, the list lacks it
pub lacks_below : (others : List Tagged) (place : ℕ) (pair : Tagged) → length others ≤ place → AreBelow others place pair → ¬ Has others pair
lacks_below others place pair l all h =
    not_below_itself tagged_cmp tagged_total pair (all pair (subst (λ (xs : List Tagged). Has xs pair) (sym (take_all place others l)) h))

-- a place behind the end isn't below it
pub not_below_end : (others : List Tagged) (place : ℕ) → length others ≤ place → ¬ IsTrue (ltb place (length others))
not_below_end others place l h = let below : place < length others = (Decides-ltb place (length others)).0 h in omega arith

-- the list has the pair where it has it at the place before which all are below it, and not below it itself
pub stands_there : (others : List Tagged) (place : ℕ) (pair other : Tagged) → IsAscending tagged_cmp others → place < length others → other ≡ get_or others place other
    → ¬ (tagged_cmp other pair ≡ Less) → AreBelow others place pair → (is_eq (tagged_cmp other pair) ≡ true) ↔ Has others pair
stands_there others place pair other a l e stops all = (
  λ h. subst (λ (w : Tagged). Has others w) (sym e ∙ (compares_equal other pair).0 h) (has_at others place other l),
  λ h. elim (has_append (take place others) (drop place others) pair (subst (λ (xs : List Tagged). Has xs pair) (sym (take-append-drop place others)) h)) [
    | inl k ↦ absurd (not_below_itself tagged_cmp tagged_total pair (all pair k))
    | inr k ↦ behind (subst (λ (xs : List Tagged). Has xs pair) there k)
  ],
)
  where
    there : drop place others ≡ other ∷ drop (place + 1) others
    there = rw (add-one) (drop-cons others place other l ∙ ap (λ (w : Tagged). w ∷ drop (suc place) others) (sym e))

    ascends : IsAscending tagged_cmp (other ∷ drop (place + 1) others)
    ascends = subst (λ (xs : List Tagged). IsAscending tagged_cmp xs) there
        (ascending_back tagged_cmp (take place others) (drop place others) (subst (λ (xs : List Tagged). IsAscending tagged_cmp xs) (sym (take-append-drop place others)) a))

    behind : Has (other ∷ drop (place + 1) others) pair → is_eq (tagged_cmp other pair) ≡ true
    behind (inl same) = (compares_equal other pair).1 same
    behind (inr k) = absurd (stops (below_member tagged_cmp other (drop (place + 1) others) pair ascends.0 k))
