-- The walk of a join.
use Rattle.std.proofs.Common.{◌≡◌, ℕ, List, [], ◌∷◌, ◌++◌, Bool, true, false, IsTrue, ◌↔◌, inl, inr, refl, sym, ◌∙◌, subst}
use Rattle.std.proofs.lemmas.Bool.{false≢true}
use Rattle.std.specs.declared.cmp.Ordering.TheVariants.{Less, Equal, Greater}
use Rattle.tree_clock.specs.Clock.{Covers}
use Rattle.tree_clock.specs.Lists.{IsBelowAll, IsAscending}
use Rattle.mld_ops.specs.declared.tagged.Tagged.{Tagged}
use Rattle.suset.specs.StateJoin.{StaysInJoin, IsJoined}
use Rattle.mld_ops.specs.Tagged.{tagged_cmp}
use Rattle.mld_ops.proofs.TaggedLaws.{tagged_exact}
use Rattle.suset.specs.Walks.{IsJoinStep}
use Rattle.suset.proofs.Steps.{less_turned, lacks_lower, below_list, least_left, least_right, least_both}
use Rattle.suset.proofs.Walking.{Comes, IsWalking, walking_keeps, walking_skips, walking_ends}

-- ---- a step

module _ (own theirs : List (List ℕ × ℕ)) where
  -- the first list alone begins with the pair
  step_left : (pair : Tagged) (more other : List Tagged) (stays : Bool) → IsAscending tagged_cmp (pair ∷ more) → IsAscending tagged_cmp other
      → IsBelowAll tagged_cmp pair other → IsTrue stays ↔ (¬ Covers theirs pair.dot) → IsJoinStep own (pair ∷ more) other theirs pair stays more other
  step_left pair more other stays a b h d = record {
    least = least_left pair more other a b h;
    tells = (
      λ s. inr (inl (inl refl, d.0 s)),
      λ s. elim s [
        | inl k ↦ absurd (lacks_lower pair other h k.1)
        | inr k ↦ elim k [ inl m ↦ d.1 m.1 | inr m ↦ absurd (lacks_lower pair other h m.0) ]
      ],
    );
  }

  -- the second does
  step_right : (mine : List Tagged) (pair : Tagged) (more : List Tagged) (stays : Bool) → IsAscending tagged_cmp mine → IsAscending tagged_cmp (pair ∷ more)
      → IsBelowAll tagged_cmp pair mine → IsTrue stays ↔ (¬ Covers own pair.dot) → IsJoinStep own mine (pair ∷ more) theirs pair stays mine more
  step_right mine pair more stays a b h d = record {
    least = least_right mine pair more a b h;
    tells = (
      λ s. inr (inr (inl refl, d.0 s)),
      λ s. elim s [
        | inl k ↦ absurd (lacks_lower pair mine h k.0)
        | inr k ↦ elim k [ inl m ↦ absurd (lacks_lower pair mine h m.0) | inr m ↦ d.1 m.1 ]
      ],
    );
  }

  -- both lists begin with it
  step_both : (pair found : Tagged) (more rest : List Tagged) (stays : Bool) → IsAscending tagged_cmp (pair ∷ more) → IsAscending tagged_cmp (found ∷ rest)
      → pair ≡ found → IsTrue stays → IsJoinStep own (pair ∷ more) (found ∷ rest) theirs pair stays more rest
  step_both pair found more rest stays a b same s = record {
    least = least_both pair found more rest a b same;
    tells = (λ yields. inl (inl refl, inl (sym same)), λ k. s);
  }

  -- the same, as the program finds the first pairs
  pub left_alone : (mine other : List Tagged) (pair : Tagged) (more : List Tagged) (stays : Bool) → IsAscending tagged_cmp mine → IsAscending tagged_cmp other
      → mine ≡ pair ∷ more → IsBelowAll tagged_cmp pair other → IsTrue stays ↔ (¬ Covers theirs pair.dot) → IsJoinStep own mine other theirs pair stays more other
  left_alone mine other pair more stays a b e h d =
      subst (λ (xs : List Tagged). IsJoinStep own xs other theirs pair stays more other) (sym e)
      (step_left pair more other stays (subst (λ (xs : List Tagged). IsAscending tagged_cmp xs) e a) b h d)

  pub right_alone : (mine other : List Tagged) (pair : Tagged) (more : List Tagged) (stays : Bool) → IsAscending tagged_cmp mine → IsAscending tagged_cmp other
      → other ≡ pair ∷ more → IsBelowAll tagged_cmp pair mine → IsTrue stays ↔ (¬ Covers own pair.dot) → IsJoinStep own mine other theirs pair stays mine more
  right_alone mine other pair more stays a b e h d =
      subst (λ (xs : List Tagged). IsJoinStep own mine xs theirs pair stays mine more) (sym e)
      (step_right mine pair more stays a (subst (λ (xs : List Tagged). IsAscending tagged_cmp xs) e b) h d)

  module _ (mine other : List Tagged) (pair : Tagged) (more : List Tagged) (found : Tagged) (rest : List Tagged) (stays : Bool)
      (a : IsAscending tagged_cmp mine) (b : IsAscending tagged_cmp other) (e : mine ≡ pair ∷ more) (f : other ≡ found ∷ rest) where
    -- the first list's pair is the lesser one
    pub left_lesser : tagged_cmp pair found ≡ Less → IsTrue stays ↔ (¬ Covers theirs pair.dot) → IsJoinStep own mine other theirs pair stays more other
    left_lesser h d =
        left_alone mine other pair more stays a b e
        (subst (λ (xs : List Tagged). IsBelowAll tagged_cmp pair xs) (sym f)
        (below_list pair found rest (subst (λ (xs : List Tagged). IsAscending tagged_cmp xs) f b) h)) d

    pub right_lesser : tagged_cmp pair found ≡ Greater → IsTrue stays ↔ (¬ Covers own found.dot) → IsJoinStep own mine other theirs found stays mine rest
    right_lesser h d =
        right_alone mine other found rest stays a b f
        (subst (λ (xs : List Tagged). IsBelowAll tagged_cmp found xs) (sym e)
        (below_list found pair more (subst (λ (xs : List Tagged). IsAscending tagged_cmp xs) e a) (less_turned pair found h))) d

    pub both_alike : tagged_cmp pair found ≡ Equal → IsTrue stays → IsJoinStep own mine other theirs pair stays more rest
    both_alike h s =
        subst (λ (xs : List Tagged). IsJoinStep own xs other theirs pair stays more rest) (sym e)
        (subst (λ (xs : List Tagged). IsJoinStep own (pair ∷ more) xs theirs pair stays more rest) (sym f)
        (step_both pair found more rest stays (subst (λ (xs : List Tagged). IsAscending tagged_cmp xs) e a) (subst (λ (xs : List Tagged). IsAscending tagged_cmp xs) f b)
        (tagged_exact pair found h) s))

-- ---- the walk

-- the join of what is left tells whether a pair that is still to come stays
stays_alike : (own theirs : List (List ℕ × ℕ)) (mine other left right kept : List Tagged) → IsWalking (StaysInJoin own mine other theirs) mine other left right kept
    → (pair : Tagged) → Comes left right pair → StaysInJoin own left right theirs pair ↔ StaysInJoin own mine other theirs pair
stays_alike own theirs mine other left right kept w pair c = (
  λ h. elim h [
    | inl k ↦ inl (w.of_first.part pair k.0, w.of_second.part pair k.1)
    | inr k ↦ elim k [ inl m ↦ inr (inl (w.of_first.part pair m.0, m.1)) | inr m ↦ inr (inr (w.of_second.part pair m.0, m.1)) ]
  ],
  λ h. elim h [
    | inl k ↦ inl (w.of_first.whole pair c k.0, w.of_second.whole pair c k.1)
    | inr k ↦ elim k [ inl m ↦ inr (inl (w.of_first.whole pair c m.0, m.1)) | inr m ↦ inr (inr (w.of_second.whole pair c m.0, m.1)) ]
  ],
)

-- a step of the walk
module _ (own theirs : List (List ℕ × ℕ)) (mine other left right kept : List Tagged) (w : IsWalking (StaysInJoin own mine other theirs) mine other left right kept)
    (pair : Tagged) (stays : Bool) (more rest : List Tagged) (t : IsJoinStep own left right theirs pair stays more rest) where
  pub joining_keeps : (copy : Tagged) → copy ≡ pair → stays ≡ true → IsWalking (StaysInJoin own mine other theirs) mine other more rest (kept ++ copy ∷ [])
  joining_keeps copy c s =
      rw c (walking_keeps (StaysInJoin own mine other theirs) mine other left right kept w pair more rest t.least
      ((stays_alike own theirs mine other left right kept w pair t.least.stands).0 (t.tells.0 s)))

  pub joining_skips : stays ≡ false → IsWalking (StaysInJoin own mine other theirs) mine other more rest kept
  joining_skips s =
      walking_skips (StaysInJoin own mine other theirs) mine other left right kept w pair more rest t.least
      (λ k. false≢true (sym s ∙ t.tells.1 ((stays_alike own theirs mine other left right kept w pair t.least.stands).1 k)))

-- what stays in a join is in one of the lists
stays_comes : (own theirs : List (List ℕ × ℕ)) (mine other : List Tagged) (pair : Tagged) → StaysInJoin own mine other theirs pair → Comes mine other pair
stays_comes own theirs mine other pair (inl h) = inl h.0
stays_comes own theirs mine other pair (inr (inl h)) = inl h.0
stays_comes own theirs mine other pair (inr (inr h)) = inr h.0

-- once both lists have ended, the kept pairs are the join
pub joining_ends : (own theirs : List (List ℕ × ℕ)) (mine other left right kept : List Tagged) → left ≡ [] → right ≡ []
    → IsWalking (StaysInJoin own mine other theirs) mine other left right kept → IsJoined own mine other theirs kept
joining_ends own theirs mine other left right kept e f w = record {
  ascending = w.ascending;
  members = λ pair.
      let ends = walking_ends (StaysInJoin own mine other theirs) mine other left right kept e f w pair in
      (λ h. (ends.0 h).1, λ s. ends.1 (stays_comes own theirs mine other pair s, s));
}
