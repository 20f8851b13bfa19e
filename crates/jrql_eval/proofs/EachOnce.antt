-- Lists of which each value stands once: equal neighbours are dropped, and what has the same members is the same in another order.
use Rattle.std.proofs.Common.{◌≡◌, ◌∙◌, List, [], ◌∷◌, ◌++◌, ◌⊎◌, false, cond, map, refl, sym, ap, subst, inl, inr, true≢false}
use Rattle.std.specs.Cmp.{IsTotalOrder, eq_by_cmp_equiv}
use Rattle.std.specs.List.{dedup, dedup_from}
use Rattle.std.specs.List.Sorted.{IsPermutation}
use Rattle.std.specs.Ordering.{eq_by_cmp}
use Rattle.std.specs.declared.cmp.Ordering.{Ordering}
use Rattle.std.proofs.lemmas.Bool.{cases_Bool}
use Rattle.std.proofs.lemmas.List.Sorted.{IsPermutation-refl, IsPermutation-sym, IsPermutation-trans, IsPermutation-cons, IsPermutation-middle}
use Rattle.std.proofs.lemmas.Map.Lookups.{CmpEqualImpliesEq}
use Rattle.std.proofs.lemmas.Map.Views.{tells_apart}
use Rattle.jrql_rows.specs.tree_clock.Lists.{Has, IsAscending}
use Rattle.jrql_rows.proofs.of_mld_ops.AscendingLaws.{below_member, has_right, not_below_itself}
use Rattle.jrql_rows.proofs.of_mld_ops.Keeping.{once_members}
use Rattle.jrql_rows.specs.graph_index.Matching.{StandTogether}
use Rattle.jrql_rows.proofs.of_graph_index.Sorting.{image_has}

-- no value stands twice in the list
abbrev pub StandOnce : {X : Type 0} → List X → Type 0
StandOnce [] = Unit {0}
StandOnce (x ∷ xs) = (Has xs x → ⊥) × StandOnce xs

-- ---- lists with the same members
module _ {X : Type 0} where
  -- what stands in front of a member, and behind it
  split_at : (xs : List X) (x : X) → Has xs x → (front : List X) × (back : List X) × (xs ≡ front ++ x ∷ back)
  split_at [] x h = absurd h
  split_at (y ∷ xs) x (inl e) = ([], xs, λ i. e i ∷ xs)
  split_at (y ∷ xs) x (inr h) = let s = split_at xs x h in (y ∷ s.0, s.1, ap (λ l. y ∷ l) s.2)

  has_middle : (front back : List X) (x z : X) → Has (front ++ x ∷ back) z → (x ≡ z) ⊎ Has (front ++ back) z
  has_middle [] back x z h = h
  has_middle (y ∷ front) back x z (inl e) = inr (inl e)
  has_middle (y ∷ front) back x z (inr h) = elim (has_middle front back x z h) [ inl e ↦ inl e | inr k ↦ inr (inr k) ]

  has_beside : (front back : List X) (x z : X) → Has (front ++ back) z → Has (front ++ x ∷ back) z
  has_beside [] back x z h = inr h
  has_beside (y ∷ front) back x z (inl e) = inl e
  has_beside (y ∷ front) back x z (inr h) = inr (has_beside front back x z h)

  once_beside : (front back : List X) (x : X) → StandOnce (front ++ x ∷ back) → StandOnce (front ++ back)
  once_beside [] back x once = once.1
  once_beside (y ∷ front) back x once = (λ h. once.0 (has_beside front back x y h), once_beside front back x once.1)

  not_beside : (front back : List X) (x : X) → StandOnce (front ++ x ∷ back) → Has (front ++ back) x → ⊥
  not_beside [] back x once h = once.0 h
  not_beside (y ∷ front) back x once (inl e) = once.0 (subst (Has (front ++ x ∷ back)) (sym e) (has_right front (x ∷ back) x (inl refl)))
  not_beside (y ∷ front) back x once (inr h) = not_beside front back x once.1 h

  -- they are the same in another order
  pub once_permutes : (xs ys : List X) → StandOnce xs → StandOnce ys → ((x : X) → Has xs x → Has ys x) → ((x : X) → Has ys x → Has xs x) → IsPermutation xs ys
  once_permutes [] [] once other onward back = IsPermutation-refl []
  once_permutes [] (y ∷ ys) once other onward back = absurd (back y (inl refl))
  once_permutes (x ∷ xs) ys once other onward back =
      let s = split_at ys x (onward x (inl refl)) in
      let o : StandOnce (s.0 ++ x ∷ s.1) = subst StandOnce s.2 other in
      subst (IsPermutation (x ∷ xs)) (sym s.2)
      (IsPermutation-trans (x ∷ xs) (x ∷ (s.0 ++ s.1)) (s.0 ++ x ∷ s.1)
      (IsPermutation-cons x xs (s.0 ++ s.1)
      (once_permutes xs (s.0 ++ s.1) once.1 (once_beside s.0 s.1 x o)
      (λ z h. elim (has_middle s.0 s.1 x z (subst (λ l. Has l z) s.2 (onward z (inr h)))) [
        | inl e ↦ absurd (once.0 (subst (Has xs) (sym e) h))
        | inr k ↦ k
      ])
      (λ z h. elim (back z (subst (λ l. Has l z) (sym s.2) (has_beside s.0 s.1 x z h))) [
        | inl e ↦ absurd (not_beside s.0 s.1 x o (subst (Has (s.0 ++ s.1)) (sym e) h))
        | inr k ↦ k
      ])))
      (IsPermutation-sym (s.0 ++ x ∷ s.1) (x ∷ (s.0 ++ s.1)) (IsPermutation-middle s.0 x s.1)))

-- ---- neighbours
module _ {X : Type 0} (order : X → X → Ordering) (total : IsTotalOrder order) where
  -- in a list that ascends nothing stands twice
  pub once_ascending : (xs : List X) → IsAscending order xs → StandOnce xs
  once_ascending [] a = tt
  once_ascending (x ∷ xs) a = (λ h. not_below_itself order total x (below_member order x xs x a.0 h), once_ascending xs a.1)

  module _ (exact : CmpEqualImpliesEq order) where
    abbrev Together : List X → Type 0
    Together xs = StandTogether {X = X} {Y = X} (λ y. y) xs

    -- a value that isn't the next one isn't behind it
    not_behind : (k x : X) (xs : List X) → eq_by_cmp order x k ≡ false → Together (k ∷ x ∷ xs) → Has (x ∷ xs) k → ⊥
    not_behind k x xs n t h = elim t.0 [
      | inl e ↦ true≢false (sym ((eq_by_cmp_equiv total).refl k) ∙ ap (λ z. eq_by_cmp order z k) (sym e) ∙ n)
      | inr f ↦ f k h refl
    ]

    once_from : (k : X) (xs : List X) → Together (k ∷ xs) → StandOnce (dedup_from (eq_by_cmp order) k xs)
    once_from k [] t = (λ h. h, tt)
    once_from k (x ∷ xs) t = elim (cases_Bool (eq_by_cmp order x k)) [
      | inl e ↦ subst StandOnce (ap (λ b. cond b (dedup_from (eq_by_cmp order) k xs) (k ∷ dedup_from (eq_by_cmp order) x xs)) (sym e))
          (once_from k xs (subst (λ z. Together (z ∷ xs)) (tells_apart exact x k e) t.1))
      | inr n ↦ subst StandOnce (ap (λ b. cond b (dedup_from (eq_by_cmp order) k xs) (k ∷ dedup_from (eq_by_cmp order) x xs)) (sym n))
          (λ h. not_behind k x xs n t ((once_members order total exact (x ∷ xs) k).0 h), once_from x xs t.1)
    ]

    once_kept : (xs : List X) → Together xs → StandOnce (dedup (eq_by_cmp order) xs)
    once_kept [] t = tt
    once_kept (x ∷ xs) t = once_from x xs t

-- what stands together by its images, as images
module _ {X Y : Type 0} (f : X → Y) where
  together_images : (xs : List X) → StandTogether f xs → StandTogether {X = Y} {Y = Y} (λ y. y) (map f xs)
  together_images [] t = tt
  together_images (x ∷ []) t = (inr (λ other h e. h), tt)
  together_images (x ∷ y ∷ xs) t = (
    elim t.0 [
      | inl e ↦ inl e
      | inr g ↦ inr (λ other h e. let i = image_has f (y ∷ xs) other h in g i.0 i.1 (i.2 ∙ e))
    ],
    together_images (y ∷ xs) t.1,
  )

-- the images of what stands together by them, without equal neighbours
pub neighbours_once : {X Y : Type 0} (f : X → Y) (order : Y → Y → Ordering) → IsTotalOrder order → CmpEqualImpliesEq order → (xs : List X) → StandTogether f xs
    → StandOnce (dedup (eq_by_cmp order) (map f xs))
neighbours_once f order total exact xs t = once_kept order total exact (map f xs) (together_images f xs t)
