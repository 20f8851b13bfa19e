-- The walk of a change: the least of the old and the added pairs, one after another, with a place in the dropped ones.
use Rattle.std.proofs.Common.{◌≡◌, ℕ, ◌≤◌, List, [], ◌∷◌, ◌++◌, length, drop, Bool, true, false, not, ◌||◌, IsTrue, ◌⊎◌, ◌↔◌, inl, inr, refl, sym, ◌∙◌, subst, arith}
use Rattle.std.proofs.lemmas.Bool.{false≢true}
use Rattle.std.specs.declared.cmp.Ordering.TheVariants.{Less, Equal, Greater}
use Rattle.tree_clock.specs.Lists.{Has, IsBelowAll, IsAscending}
use Rattle.mld_ops.specs.declared.tagged.Tagged.{Tagged}
use Rattle.mld_ops.specs.Applies.{Applies}
use Rattle.mld_ops.specs.Tagged.{tagged_cmp}
use Rattle.mld_ops.proofs.TaggedLaws.{tagged_exact}
use Rattle.mld_ops.specs.AscendingPlaces.{AreBelow}
use Rattle.mld_ops.proofs.PlaceLaws.{below_later}
use Rattle.suset.specs.Walks.{fronts_cmp, IsLeastOf, IsAddStep}
use Rattle.suset.proofs.Steps.{less_turned, lacks_lower, below_list, least_left, least_right, least_both}
use Rattle.suset.proofs.Walking.{Comes, IsWalking, walking_begins, walking_keeps, walking_skips, walking_ends}

-- ---- a step

below_right : (pair : Tagged) (more right : List Tagged) → IsAscending tagged_cmp right → fronts_cmp (pair ∷ more) right ≡ Less → IsBelowAll tagged_cmp pair right
below_right pair more [] a h = tt
below_right pair more (other ∷ right) a h = below_list pair other right a h

below_left : (left : List Tagged) (pair : Tagged) (more : List Tagged) → IsAscending tagged_cmp left → fronts_cmp left (pair ∷ more) ≡ Greater → IsBelowAll tagged_cmp pair left
below_left [] pair more a h = tt
below_left (other ∷ left) pair more a h = below_list pair other left a (less_turned other pair h)

-- an old pair alone is the least
old_step : (pair : Tagged) (more right : List Tagged) → IsAscending tagged_cmp (pair ∷ more) → IsAscending tagged_cmp right → fronts_cmp (pair ∷ more) right ≡ Less
    → IsAddStep (pair ∷ more) right pair false more right
old_step pair more right a b h = record {
  least = least_left pair more right a b (below_right pair more right b h);
  tells = (λ s. absurd (false≢true s), λ k. absurd (lacks_lower pair right (below_right pair more right b h) k));
}

-- an added one is
added_step : (left : List Tagged) (pair : Tagged) (more : List Tagged) → IsAscending tagged_cmp left → IsAscending tagged_cmp (pair ∷ more) → fronts_cmp left (pair ∷ more) ≡ Greater
    → IsAddStep left (pair ∷ more) pair true left more
added_step left pair more a b h = record {
  least = least_right left pair more a b (below_left left pair more a h);
  tells = (λ s. inl refl, λ k. refl);
}

-- both lists begin with it
shared_step : (left : List Tagged) (pair : Tagged) (more rest : List Tagged) → IsAscending tagged_cmp left → IsAscending tagged_cmp (pair ∷ rest) → more ≡ drop 1 left
    → fronts_cmp left (pair ∷ rest) ≡ Equal → IsAddStep left (pair ∷ rest) pair true more rest
shared_step [] pair more rest a b e h = cc
shared_step (other ∷ left) pair more rest a b e h =
    let same : other ≡ pair = tagged_exact other pair h in
    let least : IsLeastOf (pair ∷ left) (pair ∷ rest) pair left rest = least_both pair pair left rest (subst (λ (w : Tagged). IsAscending tagged_cmp (w ∷ left)) same a) b refl in
    record {
      least = subst (λ (xs : List Tagged). IsLeastOf (other ∷ left) (pair ∷ rest) pair xs rest) (sym e) (subst (λ (w : Tagged). IsLeastOf (w ∷ left) (pair ∷ rest) pair left rest) (sym same) least);
      tells = (λ s. inl refl, λ k. refl);
    }

-- the same, as the program takes the first pairs out
pub takes_old : (left right : List Tagged) (pair : Tagged) (more : List Tagged) → IsAscending tagged_cmp left → IsAscending tagged_cmp right → left ≡ pair ∷ more
    → fronts_cmp left right ≡ Less → IsAddStep left right pair false more right
takes_old left right pair more a b e h =
    subst (λ (xs : List Tagged). IsAddStep xs right pair false more right) (sym e)
    (old_step pair more right (subst (λ (xs : List Tagged). IsAscending tagged_cmp xs) e a) b (subst (λ (xs : List Tagged). fronts_cmp xs right ≡ Less) e h))

pub takes_added : (left right : List Tagged) (pair : Tagged) (more : List Tagged) → IsAscending tagged_cmp left → IsAscending tagged_cmp right → right ≡ pair ∷ more
    → fronts_cmp left right ≡ Greater → IsAddStep left right pair true left more
takes_added left right pair more a b e h =
    subst (λ (xs : List Tagged). IsAddStep left xs pair true left more) (sym e)
    (added_step left pair more a (subst (λ (xs : List Tagged). IsAscending tagged_cmp xs) e b) (subst (λ (xs : List Tagged). fronts_cmp left xs ≡ Greater) e h))

pub takes_both : (left right : List Tagged) (pair : Tagged) (more rest : List Tagged) → IsAscending tagged_cmp left → IsAscending tagged_cmp right → more ≡ drop 1 left
    → right ≡ pair ∷ rest → fronts_cmp left right ≡ Equal → IsAddStep left right pair true more rest
takes_both left right pair more rest a b d e h =
    subst (λ (xs : List Tagged). IsAddStep left xs pair true more rest) (sym e)
    (shared_step left pair more rest a (subst (λ (xs : List Tagged). IsAscending tagged_cmp xs) e b) d (subst (λ (xs : List Tagged). fronts_cmp left xs ≡ Equal) e h))

-- ---- the walk

-- a pair stays where it is added or not dropped
abbrev pub StaysInChange : List Tagged → List Tagged → Tagged → Type 0
StaysInChange drops adds pair = Has adds pair ⊎ (¬ Has drops pair)

-- least pairs were taken, and those that stay were kept; before the place the dropped pairs are below all that is still to come
pub record IsFilling (drops old adds left right kept : List Tagged) (at : ℕ) : Type 0 where
  pub walk : IsWalking (StaysInChange drops adds) old adds left right kept
  pub within : at ≤ length drops
  pub passed : (pair : Tagged) → Comes left right pair → AreBelow drops at pair

pub filling_begins : (drops old adds left right kept : List Tagged) → IsAscending tagged_cmp old → IsAscending tagged_cmp adds → left ≡ old → right ≡ adds → kept ≡ []
    → IsFilling drops old adds left right kept 0
filling_begins drops old adds left right kept a b e f g = record {
  walk = walking_begins (StaysInChange drops adds) old adds left right kept a b e f g;
  within = omega arith;
  passed = λ pair c x h. absurd h;
}

module _ (drops old adds left right kept : List Tagged) (at : ℕ) (f : IsFilling drops old adds left right kept at)
    (pair : Tagged) (added : Bool) (more rest : List Tagged) (t : IsAddStep left right pair added more rest) where
  -- before the place the dropped pairs are below the pair that comes next
  pub filling_passed : AreBelow drops at pair
  filling_passed = f.passed pair t.least.stands

  -- whether the pair stays
  stays_or_goes : (added dropped : Bool) → IsTrue added ↔ Has right pair → IsTrue dropped ↔ Has drops pair
      → (IsTrue (added || not dropped) × StaysInChange drops adds pair) ⊎ ((¬ IsTrue (added || not dropped)) × (¬ StaysInChange drops adds pair))
  stays_or_goes true dropped a d = inl (refl, inl (f.walk.of_second.part pair (a.0 refl)))
  stays_or_goes false false a d = inl (refl, inr (λ h. false≢true (d.1 h)))
  stays_or_goes false true a d = inr (
    false≢true,
    λ s. elim s [
      | inl h ↦ false≢true (a.1 (f.walk.of_second.whole pair t.least.stands h))
      | inr n ↦ n (d.0 refl)
    ],
  )

  later : (next : ℕ) → AreBelow drops next pair → (x : Tagged) → Comes more rest x → AreBelow drops next x
  later next all x c = below_later drops next pair x (t.least.below x c) all

  pub filling_next : (next : ℕ) (dropped stays : Bool) (after : List Tagged) → next ≤ length drops → AreBelow drops next pair → IsTrue dropped ↔ Has drops pair
      → stays ≡ (added || not dropped) → (IsTrue stays → after ≡ kept ++ pair ∷ []) → ((¬ IsTrue stays) → after ≡ kept) → IsFilling drops old adds more rest after next
  filling_next next dropped stays after within all d e puts skips =
      elim (stays_or_goes added dropped t.tells d) [
        | inl s ↦ subst (λ (xs : List Tagged). IsFilling drops old adds more rest xs next) (sym (puts (e ∙ s.0))) (record {
          walk = walking_keeps (StaysInChange drops adds) old adds left right kept f.walk pair more rest t.least s.1;
          within = within;
          passed = later next all;
        })
        | inr s ↦ subst (λ (xs : List Tagged). IsFilling drops old adds more rest xs next) (sym (skips (λ h. s.0 (sym e ∙ h)))) (record {
          walk = walking_skips (StaysInChange drops adds) old adds left right kept f.walk pair more rest t.least s.1;
          within = within;
          passed = later next all;
        })
      ]

-- once both lists have ended, the kept pairs are those behind the change
pub filling_ends : (drops old adds left right kept : List Tagged) (at : ℕ) → left ≡ [] → right ≡ [] → IsFilling drops old adds left right kept at → Applies drops adds old kept
filling_ends drops old adds left right kept at e g f = record {
  ascending = f.walk.ascending;
  members = λ pair.
      let ends = walking_ends (StaysInChange drops adds) old adds left right kept e g f.walk pair in (
        λ h.
            let k = ends.0 h in
            elim k.1 [ inl a ↦ inr a | inr n ↦ elim k.0 [ inl o ↦ inl (o, n) | inr a ↦ inr a ] ],
        λ h. ends.1 (elim h [ inl k ↦ (inl k.0, inr k.1) | inr a ↦ (inr a, inl a) ]),
      );
}
