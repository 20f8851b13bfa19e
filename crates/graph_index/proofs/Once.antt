-- Lists of which each value stands once: those with the same members are the same in another order.
use Rattle.std.proofs.Common.{◌≡◌, List, [], ◌∷◌, ◌++◌, ◌⊎◌, sym, ap, subst, inl, inr, refl}
use Rattle.std.specs.Cmp.{IsTotalOrder}
use Rattle.std.specs.List.Sorted.{IsPermutation}
use Rattle.std.specs.declared.cmp.Ordering.{Ordering}
use Rattle.std.proofs.lemmas.List.Sorted.{IsPermutation-refl, IsPermutation-sym, IsPermutation-trans, IsPermutation-cons, IsPermutation-middle}
use Rattle.tree_clock.specs.Lists.{Has, IsAscending}
use Rattle.mld_ops.proofs.AscendingLaws.{below_member, has_right, not_below_itself}
use Rattle.pair_orders.specs.PairEntries.{StandOnce}

module _ {X : Type 0} where
  -- what stands in front of a member, and behind it
  split_at : (xs : List X) (x : X) → Has xs x → (front : List X) × (back : List X) × (xs ≡ front ++ x ∷ back)
  split_at [] x h = absurd h
  split_at (y ∷ xs) x (inl e) = ([], xs, λ i. e i ∷ xs)
  split_at (y ∷ xs) x (inr h) = let s = split_at xs x h in (y ∷ s.0, s.1, ap (λ l. y ∷ l) s.2)

  has_middle : (front back : List X) (x z : X) → Has (front ++ x ∷ back) z → (x ≡ z) ⊎ Has (front ++ back) z
  has_middle [] back x z h = h
  has_middle (y ∷ front) back x z (inl e) = inr (inl e)
  has_middle (y ∷ front) back x z (inr h) = elim (has_middle front back x z h) [ inl e ↦ inl e | inr k ↦ inr (inr k) ]

  has_beside : (front back : List X) (x z : X) → Has (front ++ back) z → Has (front ++ x ∷ back) z
  has_beside [] back x z h = inr h
  has_beside (y ∷ front) back x z (inl e) = inl e
  has_beside (y ∷ front) back x z (inr h) = inr (has_beside front back x z h)

  once_beside : (front back : List X) (x : X) → StandOnce (front ++ x ∷ back) → StandOnce (front ++ back)
  once_beside [] back x once = once.1
  once_beside (y ∷ front) back x once = (λ h. once.0 (has_beside front back x y h), once_beside front back x once.1)

  not_beside : (front back : List X) (x : X) → StandOnce (front ++ x ∷ back) → Has (front ++ back) x → ⊥
  not_beside [] back x once h = once.0 h
  not_beside (y ∷ front) back x once (inl e) = once.0 (subst (Has (front ++ x ∷ back)) (sym e) (has_right front (x ∷ back) x (inl refl)))
  not_beside (y ∷ front) back x once (inr h) = not_beside front back x once.1 h

  -- they are the same in another order
  pub once_permutes : (xs ys : List X) → StandOnce xs → StandOnce ys → ((x : X) → Has xs x → Has ys x) → ((x : X) → Has ys x → Has xs x) → IsPermutation xs ys
  once_permutes [] [] once other onward back = IsPermutation-refl []
  once_permutes [] (y ∷ ys) once other onward back = absurd (back y (inl refl))
  once_permutes (x ∷ xs) ys once other onward back =
      let s = split_at ys x (onward x (inl refl)) in
      let o : StandOnce (s.0 ++ x ∷ s.1) = subst StandOnce s.2 other in
      subst (IsPermutation (x ∷ xs)) (sym s.2)
      (IsPermutation-trans (x ∷ xs) (x ∷ (s.0 ++ s.1)) (s.0 ++ x ∷ s.1)
      (IsPermutation-cons x xs (s.0 ++ s.1)
      (once_permutes xs (s.0 ++ s.1) once.1 (once_beside s.0 s.1 x o)
      (λ z h. elim (has_middle s.0 s.1 x z (subst (λ l. Has l z) s.2 (onward z (inr h)))) [
        | inl e ↦ absurd (once.0 (subst (Has xs) (sym e) h))
        | inr k ↦ k
      ])
      (λ z h. elim (back z (subst (λ l. Has l z) (sym s.2) (has_beside s.0 s.1 x z h))) [
        | inl e ↦ absurd (not_beside s.0 s.1 x o (subst (Has (s.0 ++ s.1)) (sym e) h))
        | inr k ↦ k
      ])))
      (IsPermutation-sym (s.0 ++ x ∷ s.1) (x ∷ (s.0 ++ s.1)) (IsPermutation-middle s.0 x s.1)))

-- in a list that ascends nothing stands twice
pub once_ascending : {X : Type 0} (order : X → X → Ordering) → IsTotalOrder order → (xs : List X) → IsAscending order xs → StandOnce xs
once_ascending order total [] a = tt
once_ascending order total (x ∷ xs) a = (λ h. not_below_itself order total x (below_member order x xs x a.0 h), once_ascending order total xs a.1)
