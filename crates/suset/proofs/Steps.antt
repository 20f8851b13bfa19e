-- The least pair of two ascending lists, and what is left of both behind it.
use Rattle.std.proofs.Common.{◌≡◌, List, length, ◌∷◌, Bool, true, false, not, IsTrue, ◌↔◌, inl, inr, refl, sym, ◌∙◌, ap, subst}
use Rattle.std.proofs.lemmas.Bool.{false≢true}
use Rattle.std.proofs.lemmas.List.{nil_from_length}
use Rattle.std.specs.Ordering.{ordering_reverse}
use Rattle.std.specs.declared.cmp.Ordering.TheVariants.{Less, Greater}
use Rattle.tree_clock.specs.Lists.{Has, IsBelowAll, IsAscending}
use Rattle.mld_ops.specs.declared.tagged.Tagged.{Tagged}
use Rattle.mld_ops.specs.Tagged.{tagged_cmp}
use Rattle.mld_ops.proofs.TaggedLaws.{tagged_total}
use Rattle.mld_ops.proofs.AscendingLaws.{below_member, below_all_after, not_below_itself}
use Rattle.suset.specs.Walks.{IsRestBehind, IsLeastOf}

-- the order turned round
pub less_turned : (a b : Tagged) → tagged_cmp a b ≡ Greater → tagged_cmp b a ≡ Less
less_turned a b h = tagged_total.antisymm b a ∙ ap ordering_reverse h

-- a pair that is below all is not among them
pub lacks_lower : (pair : Tagged) (pairs : List Tagged) → IsBelowAll tagged_cmp pair pairs → ¬ Has pairs pair
lacks_lower pair pairs b h = not_below_itself tagged_cmp tagged_total pair (below_member tagged_cmp pair pairs pair b h)

-- a pair that is below the first of an ascending list is below all
pub below_list : (pair first : Tagged) (more : List Tagged) → IsAscending tagged_cmp (first ∷ more) → tagged_cmp pair first ≡ Less → IsBelowAll tagged_cmp pair (first ∷ more)
below_list pair first more a h = (h, below_all_after tagged_cmp tagged_total pair first more h a.0)

-- and below all of no pairs
pub below_none : (pair : Tagged) (pairs : List Tagged) → length pairs ≡ 0 → IsBelowAll tagged_cmp pair pairs
below_none pair pairs e = rw (nil_from_length pairs e) tt

-- the rest behind the first pair, and behind a pair that the list lacks
rest_of_first : (pair : Tagged) (more : List Tagged) → IsAscending tagged_cmp (pair ∷ more) → IsRestBehind (pair ∷ more) pair more
rest_of_first pair more a = record {
  ascending = a.1;
  part = λ other h. inr h;
  whole = λ other h. elim h [ inl e ↦ inl (sym e) | inr k ↦ inr k ];
}

rest_of_other : (pairs : List Tagged) (pair : Tagged) → IsAscending tagged_cmp pairs → IsRestBehind pairs pair pairs
rest_of_other pairs pair a = record { ascending = a; part = λ other h. h; whole = λ other h. inr h }

-- the first list begins with the lesser pair, the second does, and both begin with one pair
pub least_left : (pair : Tagged) (more right : List Tagged) → IsAscending tagged_cmp (pair ∷ more) → IsAscending tagged_cmp right → IsBelowAll tagged_cmp pair right
    → IsLeastOf (pair ∷ more) right pair more right
least_left pair more right a b h = record {
  stands = inl (inl refl);
  of_left = rest_of_first pair more a;
  of_right = rest_of_other right pair b;
  below = λ other k. elim k [ inl m ↦ below_member tagged_cmp pair more other a.0 m | inr m ↦ below_member tagged_cmp pair right other h m ];
}

pub least_right : (left : List Tagged) (pair : Tagged) (more : List Tagged) → IsAscending tagged_cmp left → IsAscending tagged_cmp (pair ∷ more) → IsBelowAll tagged_cmp pair left
    → IsLeastOf left (pair ∷ more) pair left more
least_right left pair more a b h = record {
  stands = inr (inl refl);
  of_left = rest_of_other left pair a;
  of_right = rest_of_first pair more b;
  below = λ other k. elim k [ inl m ↦ below_member tagged_cmp pair left other h m | inr m ↦ below_member tagged_cmp pair more other b.0 m ];
}

pub least_both : (pair other : Tagged) (more rest : List Tagged) → IsAscending tagged_cmp (pair ∷ more) → IsAscending tagged_cmp (other ∷ rest) → pair ≡ other
    → IsLeastOf (pair ∷ more) (other ∷ rest) pair more rest
least_both pair other more rest a b same =
    let c : IsAscending tagged_cmp (pair ∷ rest) = subst (λ (w : Tagged). IsAscending tagged_cmp (w ∷ rest)) (sym same) b in
    record {
      stands = inl (inl refl);
      of_left = rest_of_first pair more a;
      of_right = subst (λ (w : Tagged). IsRestBehind (w ∷ rest) pair rest) same (rest_of_first pair rest c);
      below = λ x k. elim k [ inl m ↦ below_member tagged_cmp pair more x a.0 m | inr m ↦ below_member tagged_cmp pair rest x c.0 m ];
    }

-- what was tested, turned round
pub not_tells : {P : Type 0} (b : Bool) → IsTrue b ↔ P → IsTrue (not b) ↔ (¬ P)
not_tells true d = (λ h. absurd (false≢true h), λ n. absurd (n (d.0 refl)))
not_tells false d = (λ h p. false≢true (d.1 p), λ n. refl)
